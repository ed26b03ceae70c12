-- The run over blocks is the run over stays, as no two stays have one id.
use Rattle.std.proofs.Common.{◌≡◌, ◌≢◌, inl, inr, ⊎_elim, ◌↔◌, ℕ, ◌<◌, ◌≤◌, leb, eqb, true, false, cond, List, [], ◌∷◌, ◌++◌, length, get_or, set, map, Option, Some, None, Result, Ok, Err, refl, sym, subst, ap, ◌∙◌, arith}
use Rattle.std.specs.Result.{IsOk}
use Rattle.std.specs.Option.{option_map}
use Rattle.std.proofs.lemmas.Bool.{false≢true, cases_Bool, cases_eq, leb-true, le-leb, eqb-true, eq-eqb}
use Rattle.std.proofs.lemmas.List.{length-set, map-set, get_or-set_same, get_or-set_other}
use Rattle.std.proofs.lemmas.List.Sums.{sum_by-cons}
use Rattle.std.proofs.Math.ListN.{get_or-map}
use Rattle.shunt_lists.specs.defs.Members.{In}
use Rattle.shunt_base.specs.declared.ids.Side.{Side}
use Rattle.shunt_base.specs.declared.ids.Side.TheVariants.{A, B}
use Rattle.shunt_base.specs.declared.keys.Stay.{Stay}
use Rattle.shunt_base.specs.defs.Keys.{IsWellFormed, AreStays}
use Rattle.shunt_stays.specs.defs.Events.{Move, entry_of, leave_of}
use Rattle.shunt_stays.specs.defs.Run.{Standing, Stop, Through, put, without_first, without_last, without, load, entered, left, moved, ◌>>=◌, run}
use Rattle.shunt_stays.specs.defs.Run.Stop.{Over}
use Rattle.shunt_stays.proofs.Members.{put_here, put_there, put_cases}
use Rattle.shunt_stays.proofs.Halves.{Half, move_of, formed, same_id}
use Rattle.shunt_stays.proofs.Track.{length_of, total}

-- the block at a side is taken away
first_out : (id : ℕ) (b : Standing) (blocks : List Standing) → b.id ≡ id → without_first id (b ∷ blocks) ≡ Some blocks
first_out id b blocks e = ap (λ t. cond t (Some blocks) None) (eq-eqb b.id id e)

last_out : (id : ℕ) (b : Standing) (blocks : List Standing) → b.id ≡ id → without_last id (blocks ++ b ∷ []) ≡ Some blocks
last_out id b [] e = ap (λ t. cond t (Some []) None) (eq-eqb b.id id e)
last_out id b (c ∷ []) e = ap (option_map (λ (others : List Standing). c ∷ others)) (last_out id b [] e)
last_out id b (c ∷ d ∷ blocks) e = ap (option_map (λ (others : List Standing). c ∷ others)) (last_out id b (d ∷ blocks) e)

pub without_put : (side : Side) (id : ℕ) (b : Standing) (blocks : List Standing) → b.id ≡ id → without side id (put side b blocks) ≡ Some blocks
without_put A id b blocks e = first_out id b blocks e
without_put B id b blocks e = last_out id b blocks e

abbrev pub TakenFrom : Side → ℕ → List Standing → List Standing → Type 0
TakenFrom side id blocks others = (b : Standing) × (b.id ≡ id) × (blocks ≡ put side b others)

first_was : (id : ℕ) (blocks others : List Standing) → without_first id blocks ≡ Some others → TakenFrom A id blocks others
first_was id [] others e = absurd (cc)
first_was id (b ∷ blocks) others e =
    ⊎_elim (λ t. let f : ◌≡◌ {A = Option (List Standing)} (Some blocks) (Some others) = sym (ap (λ x. cond x (Some blocks) None) t) ∙ e in let g : blocks
    ≡ others = cc in (b, eqb-true b.id id t, ap (λ (l : List Standing). b ∷ l) g))
    (λ t. absurd (let f : ◌≡◌ {A = Option (List Standing)} None (Some others) = sym (ap (λ x. cond x (Some blocks) None) t) ∙ e in cc)) (cases_Bool (eqb b.id id))

mapped : {X Y : Type 0} (f : X → Y) (o : Option X) (y : Y) → option_map f o ≡ Some y → (x : X) × (o ≡ Some x) × (y ≡ f x)
mapped f None y e = absurd (cc)
mapped f (Some x) y e = (x, refl, cc)

last_was : (id : ℕ) (blocks others : List Standing) → without_last id blocks ≡ Some others → TakenFrom B id blocks others
last_was id [] others e = absurd (cc)
last_was id (b ∷ []) others e =
    ⊎_elim (λ t. let f : ◌≡◌ {A = Option (List Standing)} (Some []) (Some others) = sym (ap (λ x. cond x (Some []) None) t)
    ∙ e in let g : ◌≡◌ {A = List Standing} [] others = cc in (b, eqb-true b.id id t, ap (λ (l : List Standing). l ++ b ∷ []) g))
    (λ t. absurd (let f : ◌≡◌ {A = Option (List Standing)} None (Some others) = sym (ap (λ x. cond x (Some []) None) t) ∙ e in cc)) (cases_Bool (eqb b.id id))
last_was id (b ∷ c ∷ blocks) others e =
    let m = mapped (λ (l : List Standing). b ∷ l) (without_last id (c ∷ blocks)) others e in
    let r = last_was id (c ∷ blocks) m.0 m.1 in
    (r.0, r.1, ap (λ (l : List Standing). b ∷ l) r.2 ∙ ap (λ (l : List Standing). l ++ r.0 ∷ []) (sym m.2))

pub without_was : (side : Side) (id : ℕ) (blocks others : List Standing) → without side id blocks ≡ Some others → TakenFrom side id blocks others
without_was A id blocks others e = first_was id blocks others e
without_was B id blocks others e = last_was id blocks others e

pub without_is : (side : Side) (id : ℕ) (blocks others : List Standing) → without side id blocks ≡ Some others ↔ TakenFrom side id blocks others
without_is side id blocks others = (
  λ e. without_was side id blocks others e,
  λ t. ap (without side id) t.2 ∙ without_put side id t.0 others t.1,
)

none_from : (side : Side) (id : ℕ) (blocks : List Standing) (o : Option (List Standing)) → without side id blocks ≡ o
    → ((b : Standing) (others : List Standing) → b.id ≡ id → blocks ≢ put side b others) → o ≡ None
none_from side id blocks None e h = refl
none_from side id blocks (Some others) e h = absurd (let t = without_was side id blocks others e in h t.0 others t.1 t.2)

pub without_none : (side : Side) (id : ℕ) (blocks : List Standing) → without side id blocks
    ≡ None ↔ ((b : Standing) (others : List Standing) → b.id ≡ id → blocks ≢ put side b others)
without_none side id blocks = (
  λ e b others f g. absurd (let k : ◌≡◌ {A = Option (List Standing)} None (Some others) = sym e ∙ ap (without side id) g ∙ without_put side id b others f in cc),
  λ h. none_from side id blocks (without side id blocks) refl h,
)

-- how a stay stands there
abbrev pub block_of : Stay → Standing
block_of s = record { id = s.id; length = s.length }

abbrev pub blocks_of : List Stay → List Standing
blocks_of st = map block_of st

blocks_append : (st : List Stay) (s : Stay) → map block_of (st ++ s ∷ []) ≡ map block_of st ++ block_of s ∷ []
blocks_append [] s = refl
blocks_append (x ∷ st) s = ap (λ (l : List Standing). block_of x ∷ l) (blocks_append st s)

blocks_put : (side : Side) (s : Stay) (st : List Stay) → blocks_of (put side s st) ≡ put side (block_of s) (blocks_of st)
blocks_put A s st = refl
blocks_put B s st = blocks_append st s

load_is : (st : List Stay) → load (blocks_of st) ≡ total st
load_is [] = refl
load_is (s ∷ st) = omega (arith, sum_by-cons (λ (b : Standing). b.length) (block_of s) (blocks_of st), sum_by-cons length_of s st, load_is st)

-- whose block it was
abbrev Was : Side → List Stay → Standing → List Standing → Type 0
Was side st b others = (x : Stay) × (rest : List Stay) × (st ≡ put side x rest) × (block_of x ≡ b) × (blocks_of rest ≡ others)

was_last : (st : List Stay) (b : Standing) (others : List Standing) → blocks_of st ≡ others ++ b ∷ [] → Was B st b others
was_last [] b [] e = absurd (cc)
was_last [] b (c ∷ others) e = absurd (cc)
was_last (s ∷ []) b [] e = (s, [], refl, cc, refl)
was_last (s ∷ t ∷ st) b [] e = absurd (let f : ◌≡◌ {A = List Standing} (block_of t ∷ blocks_of st) [] = cc in cc)
was_last (s ∷ st) b (c ∷ others) e =
    let r = was_last st b others (cc) in
    let f : block_of s ≡ c = cc in
    (r.0, s ∷ r.1, ap (λ (l : List Stay). s ∷ l) r.2, r.3, ap (λ (l : List Standing). block_of s ∷ l) r.4 ∙ ap (λ (z : Standing). z ∷ others) f)

was_first : (st : List Stay) (b : Standing) (others : List Standing) → blocks_of st ≡ b ∷ others → Was A st b others
was_first [] b others e = absurd (cc)
was_first (s ∷ st) b others e = (s, st, refl, cc, cc)

was : (side : Side) (st : List Stay) (b : Standing) (others : List Standing) → blocks_of st ≡ put side b others → Was side st b others
was A st b others e = was_first st b others e
was B st b others e = was_last st b others e

module _ (all : List Stay) (a : AreStays all) (room : ℕ) (s : Stay) (h : In s all) (st : List Stay) where
  form : IsWellFormed s
  form = formed all s a h

  enter_is : moved room (entry_of s) (blocks_of st) ≡ entered room (entry_of s) (blocks_of (put s.side_in s st))
  enter_is =
      ap (λ b. cond b (entered room (entry_of s) (put s.side_in (record { id = s.enter.id; length = s.length }) (blocks_of st)))
      (left (entry_of s) (without s.side_in s.enter.id (blocks_of st)))) form.enters
      ∙ ap (λ (i : ℕ). entered room (entry_of s) (put s.side_in (record { id = i; length = s.length }) (blocks_of st))) form.enter_id
      ∙ ap (entered room (entry_of s)) (sym (blocks_put s.side_in s st))

  -- an entry that fits
  enter_ok : total (put s.side_in s st) ≤ room → moved room (entry_of s) (blocks_of st) ≡ Ok (blocks_of (put s.side_in s st))
  enter_ok le =
      let after = blocks_of (put s.side_in s st) in
      enter_is ∙ ap (λ b. cond b (Ok after) (Err (Over (entry_of s) (load after)))) (le-leb (load after) room (omega (arith, load_is (put s.side_in s st))))

  enter_was : (after : List Standing) → moved room (entry_of s) (blocks_of st) ≡ Ok after → (total (put s.side_in s st) ≤ room) × (after ≡ blocks_of (put s.side_in s st))
  enter_was after e = ⊎_elim yes no (cases_Bool (leb (load (blocks_of (put s.side_in s st))) room))
    where
      yes : leb (load (blocks_of (put s.side_in s st))) room ≡ true → (total (put s.side_in s st) ≤ room) × (after ≡ blocks_of (put s.side_in s st))
      yes t =
          let le = leb-true (load (blocks_of (put s.side_in s st))) room t in
          let ok : ◌≡◌ {A = Result (List Standing) Stop} (Ok (blocks_of (put s.side_in s st))) (Ok after) = sym (enter_ok (omega (arith, load_is (put s.side_in s st)))) ∙ e in
          (omega (arith, load_is (put s.side_in s st)), cc)

      no : leb (load (blocks_of (put s.side_in s st))) room ≡ false → (total (put s.side_in s st) ≤ room) × (after ≡ blocks_of (put s.side_in s st))
      no t =
          absurd (let f : ◌≡◌ {A = Result (List Standing) Stop} (Err (Over (entry_of s) (load (blocks_of (put s.side_in s st))))) (Ok after) = sym
          (ap (λ b. cond b (Ok (blocks_of (put s.side_in s st))) (Err (Over (entry_of s) (load (blocks_of (put s.side_in s st)))))) t) ∙ sym enter_is ∙ e in cc)

  leave_is : moved room (leave_of s) (blocks_of st) ≡ left (leave_of s) (without s.side_out s.id (blocks_of st))
  leave_is =
      ap (λ b. cond b (entered room (leave_of s) (put s.side_out (record { id = s.leave.id; length = s.length }) (blocks_of st)))
      (left (leave_of s) (without s.side_out s.leave.id (blocks_of st)))) form.leaves
      ∙ ap (λ (i : ℕ). left (leave_of s) (without s.side_out i (blocks_of st))) form.leave_id

  leave_ok : (rest : List Stay) → st ≡ put s.side_out s rest → moved room (leave_of s) (blocks_of st) ≡ Ok (blocks_of rest)
  leave_ok rest e =
      leave_is ∙ ap (left (leave_of s)) (ap (λ (l : List Stay). without s.side_out s.id (blocks_of l)) e ∙ ap (without s.side_out s.id) (blocks_put s.side_out s rest)
      ∙ without_put s.side_out s.id (block_of s) (blocks_of rest) refl)

  leave_was : ((x : Stay) → In x st → In x all) → (after : List Standing) → moved room (leave_of s) (blocks_of st) ≡ Ok after
      → (rest : List Stay) × (st ≡ put s.side_out s rest) × (after ≡ blocks_of rest)
  leave_was known after e =
      let o = took (without s.side_out s.id (blocks_of st)) (sym leave_is ∙ e) in
      let b = without_was s.side_out s.id (blocks_of st) after o in
      let w = was s.side_out st b.0 after b.2 in
      let same : w.0 ≡ s = same_id all w.0 s a (known w.0 (subst (λ (l : List Stay). In w.0 l) (sym w.2) (put_here s.side_out w.0 w.1))) h
      (ap (λ (z : Standing). z.id) w.3 ∙ b.1) in
      (w.1, w.2 ∙ ap (λ (z : Stay). put s.side_out z w.1) same, sym w.4)
    where
      took : (o : Option (List Standing)) → left (leave_of s) o ≡ Ok after → o ≡ Some after
      took None f = absurd (cc)
      took (Some others) f = let g : others ≡ after = cc in ap (λ (l : List Standing). Some l) g

-- all tracks at once: the halves are done one after the other, over the lists of the stays that stand there
abbrev pub GoesAll : List ℕ → List Half → List (List Stay) → Type 0
GoesAll lengths [] states = Unit {0}
GoesAll lengths ((s, true) ∷ halves) states = (total (put s.side_in s (get_or states s.track.0 [])) ≤ get_or lengths s.track.0 0)
    × GoesAll lengths halves (set states s.track.0 (put s.side_in s (get_or states s.track.0 [])))
GoesAll lengths ((s, false) ∷ halves) states = (rest : List Stay) × (get_or states s.track.0 [] ≡ put s.side_out s rest) × GoesAll lengths halves (set states s.track.0 rest)

abbrev pub tracks_of : List (List Stay) → List (List Standing)
tracks_of states = map blocks_of states

-- a run goes on exactly when its first move can be done and the rest goes on
ok_then : (r : Result Through Stop) (f : Through → Through) → IsOk (r >>= (λ t. Ok (f t))) ↔ IsOk r
ok_then (Ok t) f = (λ _. refl, λ _. refl)
ok_then (Err e) f = (λ h. h, λ h. h)

-- one more step
abbrev pub one_more : Move → List Standing → Through → Through
one_more m blocks t = record t { steps = (m, load blocks) ∷ t.steps }

-- what is left of a run, behind its first step
abbrev pub go_on : List ℕ → Move → List Move → List (List Standing) → List Standing → Result Through Stop
go_on lengths m moves tracks blocks = run lengths moves (set tracks m.track.0 blocks) >>= (λ t. Ok (one_more m blocks t))

pub run_ok : (lengths : List ℕ) (m : Move) (moves : List Move) (tracks : List (List Standing)) (blocks : List Standing)
    → moved (get_or lengths m.track.0 0) m (get_or tracks m.track.0 []) ≡ Ok blocks
    → IsOk (run lengths (m ∷ moves) tracks) ↔ IsOk (run lengths moves (set tracks m.track.0 blocks))
run_ok lengths m moves tracks blocks e =
    let to : run lengths (m ∷ moves) tracks ≡ go_on lengths m moves tracks blocks = ap (λ (r : Result (List Standing) Stop). r >>= go_on lengths m moves tracks) e in
    let k = ok_then (run lengths moves (set tracks m.track.0 blocks)) (one_more m blocks) in
    (λ h. k.0 (subst IsOk to h), λ h. subst IsOk (sym to) (k.1 h))

could : (r : Result (List Standing) Stop) (f : List Standing → Result Through Stop) → IsOk (r >>= f) → (blocks : List Standing) × (r ≡ Ok blocks)
could (Ok blocks) f h = (blocks, refl)
could (Err e) f h = absurd (false≢true h)

pub run_first : (lengths : List ℕ) (m : Move) (moves : List Move) (tracks : List (List Standing)) → IsOk (run lengths (m ∷ moves) tracks)
    → (blocks : List Standing) × (moved (get_or lengths m.track.0 0) m (get_or tracks m.track.0 []) ≡ Ok blocks)
run_first lengths m moves tracks h = could (moved (get_or lengths m.track.0 0) m (get_or tracks m.track.0 [])) (go_on lengths m moves tracks) h

-- the stays that stand are among these
abbrev pub Known : List Stay → List (List Stay) → Type 0
Known all states = (t : ℕ) (s : Stay) → In s (get_or states t []) → In s all

known_set : (all : List Stay) (states : List (List Stay)) (u : ℕ) (st : List Stay) → u < length states → Known all states → ((s : Stay) → In s st → In s all)
    → Known all (set states u st)
known_set all states u st lt k new t s h =
    ⊎_elim (λ e. new s (subst (λ (l : List Stay). In s l) (ap (λ i. get_or (set states u st) i []) e ∙ get_or-set_same states u st [] lt) h))
    (λ ne. k t s (subst (λ (l : List Stay). In s l) (get_or-set_other states u t st [] ne) h)) (cases_eq t u)

module _ (lengths : List ℕ) (all : List Stay) (a : AreStays all) where
  -- the first move over blocks, where the stays stand there
  stands : (states : List (List Stay)) (u room : ℕ) (m : Move) (after : Result (List Standing) Stop) → moved room m (blocks_of (get_or states u [])) ≡ after
      → moved room m (get_or (tracks_of states) u []) ≡ after
  stands states u room m after e = ap (moved room m) (get_or-map blocks_of states u []) ∙ e

  next : (states : List (List Stay)) (u : ℕ) (st : List Stay) (moves : List Move)
      → IsOk (run lengths moves (set (tracks_of states) u (blocks_of st))) ↔ IsOk (run lengths moves (tracks_of (set states u st)))
  next states u st moves =
      let e : tracks_of (set states u st) ≡ set (tracks_of states) u (blocks_of st) = map-set blocks_of states u st in
      (λ h. subst (λ (l : List (List Standing)). IsOk (run lengths moves l)) (sym e) h, λ h. subst (λ (l : List (List Standing)). IsOk (run lengths moves l)) e h)

  pub blocks_all : (halves : List Half) (states : List (List Stay)) → length states ≡ length lengths → ((m : Half) → In m halves → In m.0 all × (m.0.track.0 < length lengths))
      → Known all states → IsOk (run lengths (map move_of halves) (tracks_of states)) → GoesAll lengths halves states
  blocks_all [] states len ins k go = tt
  blocks_all ((s, true) ∷ halves) states len ins k go =
      let u = s.track.0 in
      let st = get_or states u [] in
      let i = ins (s, true) (inl refl) in
      let lt : u < length states = let below = i.1 in omega arith in
      let f = run_first lengths (entry_of s) (map move_of halves) (tracks_of states) go in
      let w = enter_was all a (get_or lengths u 0) s i.0 st f.0 (sym (stands states u (get_or lengths u 0) (entry_of s) _ refl) ∙ f.1) in
      let rest = (next states u (put s.side_in s st) (map move_of halves)).0 (subst
      (λ (l : List Standing). IsOk (run lengths (map move_of halves) (set (tracks_of states) u l))) w.1
      ((run_ok lengths (entry_of s) (map move_of halves) (tracks_of states) f.0 f.1).0 go)) in (
        w.0,
        blocks_all halves (set states u (put s.side_in s st)) (length-set states u (put s.side_in s st) ∙ len) (λ m j. ins m (inr j))
            (known_set all states u (put s.side_in s st) lt k (λ x j. ⊎_elim (λ e. subst (λ (z : Stay). In z all) (sym e) i.0) (λ y. k u x y) (put_cases s.side_in s x st j))) rest,
      )
  blocks_all ((s, false) ∷ halves) states len ins k go =
      let u = s.track.0 in
      let st = get_or states u [] in
      let i = ins (s, false) (inl refl) in
      let lt : u < length states = let below = i.1 in omega arith in
      let f = run_first lengths (leave_of s) (map move_of halves) (tracks_of states) go in
      let w = leave_was all a (get_or lengths u 0) s i.0 st (λ x j. k u x j) f.0 (sym (stands states u (get_or lengths u 0) (leave_of s) _ refl) ∙ f.1) in
      let rest = (next states u w.0 (map move_of halves)).0 (subst (λ (l : List Standing). IsOk (run lengths (map move_of halves) (set (tracks_of states) u l))) w.2
      ((run_ok lengths (leave_of s) (map move_of halves) (tracks_of states) f.0 f.1).0 go)) in (
        w.0,
        w.1,
        blocks_all halves (set states u w.0) (length-set states u w.0 ∙ len) (λ m j. ins m (inr j))
            (known_set all states u w.0 lt k (λ x j. k u x (subst (λ (l : List Stay). In x l) (sym w.1) (put_there s.side_out s x w.0 j)))) rest,
      )

  pub all_blocks : (halves : List Half) (states : List (List Stay)) → ((m : Half) → In m halves → In m.0 all) → GoesAll lengths halves states
      → IsOk (run lengths (map move_of halves) (tracks_of states))
  all_blocks [] states ins go = refl
  all_blocks ((s, true) ∷ halves) states ins go =
      let u = s.track.0 in
      let st = get_or states u [] in
      let e = stands states u (get_or lengths u 0) (entry_of s) _ (enter_ok all a (get_or lengths u 0) s (ins (s, true) (inl refl)) st go.0) in
      (run_ok lengths (entry_of s) (map move_of halves) (tracks_of states) (blocks_of (put s.side_in s st)) e).1
      ((next states u (put s.side_in s st) (map move_of halves)).1 (all_blocks halves (set states u (put s.side_in s st)) (λ m j. ins m (inr j)) go.1))
  all_blocks ((s, false) ∷ halves) states ins go =
      let u = s.track.0 in
      let st = get_or states u [] in
      let e = stands states u (get_or lengths u 0) (leave_of s) _ (leave_ok all a (get_or lengths u 0) s (ins (s, false) (inl refl)) st go.0 go.1) in
      (run_ok lengths (leave_of s) (map move_of halves) (tracks_of states) (blocks_of go.0) e).1
      ((next states u go.0 (map move_of halves)).1 (all_blocks halves (set states u go.0) (λ m j. ins m (inr j)) go.2))
