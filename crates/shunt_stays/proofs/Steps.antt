-- A run move by move, as a loop does it, and how many blocks it leaves.
use Rattle.std.proofs.Common.{◌≡◌, inl, inr, ⊎_elim, ◌↔◌, ℕ, suc, ◌+◌, ◌<◌, ◌≤◌, leb, true, false, not, cond, List, [], ◌∷◌, ◌++◌, length, get_or, set, map, Option, Some, None, Result, Ok, Err, refl, sym, subst, ap, ◌∙◌, arith, length-append}
use Rattle.std.specs.Result.{IsOk}
use Rattle.std.proofs.lemmas.Bool.{cases_Bool, leb-true, le-leb}
use Rattle.std.proofs.lemmas.List.{length-set}
use Rattle.std.proofs.lemmas.List.Sums.{sum_by-cons, sum_by-append, sum_by-set}
use Rattle.shunt_lists.proofs.Lists.{append_one}
use Rattle.shunt_lists.specs.defs.Members.{In}
use Rattle.shunt_base.specs.declared.ids.Side.{Side}
use Rattle.shunt_base.specs.declared.ids.Side.TheVariants.{A, B}
use Rattle.shunt_stays.specs.defs.Events.{Move}
use Rattle.shunt_stays.specs.defs.Run.{Standing, Stop, Through, put, without, load, entered, left, moved, ◌>>=◌, run, blocks_on, entries_in, leaves_in, seen}
use Rattle.shunt_stays.specs.defs.Run.Stop.{Over}
use Rattle.shunt_stays.proofs.Blocks.{without_was, run_first, run_ok, one_more}

-- a run that went through, after these steps
abbrev pub after_steps : List (Move × ℕ) → Result Through Stop → Result Through Stop
after_steps done r = r >>= (λ t. Ok (record t { steps = done ++ t.steps }))

pub none_done : (r : Result Through Stop) → after_steps [] r ≡ r
none_done (Ok t) = refl
none_done (Err e) = refl

regroup : (done : List (Move × ℕ)) (m : Move) (blocks : List Standing) (r : Result Through Stop)
    → after_steps done (r >>= (λ t. Ok (one_more m blocks t))) ≡ after_steps (done ++ (m, load blocks) ∷ []) r
regroup done m blocks (Ok t) = ap (λ (l : List (Move × ℕ)). Ok (record t { steps = l })) (append_one done (m, load blocks) t.steps)
regroup done m blocks (Err e) = refl

abbrev first_of : List ℕ → Move → List (List Standing) → Result (List Standing) Stop
first_of lengths m tracks = moved (get_or lengths m.track.0 0) m (get_or tracks m.track.0 [])

-- a move that can be done is one more step
pub step_done : (lengths : List ℕ) (done : List (Move × ℕ)) (m : Move) (moves : List Move) (tracks : List (List Standing)) (blocks : List Standing)
    → moved (get_or lengths m.track.0 0) m (get_or tracks m.track.0 []) ≡ Ok blocks
    → after_steps done (run lengths (m ∷ moves) tracks) ≡ after_steps (done ++ (m, load blocks) ∷ []) (run lengths moves (set tracks m.track.0 blocks))
step_done lengths done m moves tracks blocks e =
    ap (λ (r : Result (List Standing) Stop). after_steps done (r >>= (λ bs. run lengths moves (set tracks m.track.0 bs) >>= (λ t. Ok (one_more m bs t))))) e
    ∙ regroup done m blocks (run lengths moves (set tracks m.track.0 blocks))

-- one that can't be done is the end
pub step_stops : (lengths : List ℕ) (done : List (Move × ℕ)) (m : Move) (moves : List Move) (tracks : List (List Standing)) (e : Stop)
    → moved (get_or lengths m.track.0 0) m (get_or tracks m.track.0 []) ≡ Err e
    → after_steps done (run lengths (m ∷ moves) tracks) ≡ Err e
step_stops lengths done m moves tracks stop e =
    ap (λ (r : Result (List Standing) Stop). after_steps done (r >>= (λ bs. run lengths moves (set tracks m.track.0 bs) >>= (λ t. Ok (one_more m bs t))))) e

pub all_done : (lengths : List ℕ) (done : List (Move × ℕ)) (tracks : List (List Standing))
    → after_steps done (run lengths [] tracks) ≡ Ok (record { steps = done; tracks = tracks })
all_done lengths done tracks = ap (λ (l : List (Move × ℕ)). Ok (record { steps = l; tracks = tracks })) (end done)
  where
    end : (l : List (Move × ℕ)) → l ++ [] ≡ l
    end [] = refl
    end (p ∷ l) = ap (λ (k : List (Move × ℕ)). p ∷ k) (end l)

-- what an entry and a leave do
abbrev put_in : Move → List Standing → List Standing
put_in m blocks = put m.side (record { id = m.key.id; length = m.length }) blocks

pub enters_is : (room : ℕ) (m : Move) (blocks : List Standing) → m.key.enters ≡ true → moved room m blocks ≡ entered room m (put_in m blocks)
enters_is room m blocks e = ap (λ b. cond b (entered room m (put_in m blocks)) (left m (without m.side m.key.id blocks))) e

pub leaves_is : (room : ℕ) (m : Move) (blocks : List Standing) → m.key.enters ≡ false → moved room m blocks ≡ left m (without m.side m.key.id blocks)
leaves_is room m blocks e = ap (λ b. cond b (entered room m (put_in m blocks)) (left m (without m.side m.key.id blocks))) e

entered_was : (room : ℕ) (m : Move) (blocks after : List Standing) → entered room m blocks ≡ Ok after → (after ≡ blocks) × (load blocks ≤ room)
entered_was room m blocks after e =
    ⊎_elim (λ t. let f : ◌≡◌ {A = Result (List Standing) Stop} (Ok blocks) (Ok after) = sym (ap (λ b. cond b (Ok blocks) (Err (Over m (load blocks)))) t)
    ∙ e in (cc, leb-true (load blocks) room t))
    (λ t. absurd (let f : ◌≡◌ {A = Result (List Standing) Stop} (Err (Over m (load blocks))) (Ok after) = sym (ap (λ b. cond b (Ok blocks) (Err (Over m (load blocks)))) t)
    ∙ e in cc)) (cases_Bool (leb (load blocks) room))

left_was : (m : Move) (o : Option (List Standing)) (after : List Standing) → left m o ≡ Ok after → o ≡ Some after
left_was m None after e = absurd (cc)
left_was m (Some others) after e = let g : others ≡ after = cc in ap (λ (l : List Standing). Some l) g

load_put : (side : Side) (b : Standing) (blocks : List Standing) → load (put side b blocks) ≡ b.length + load blocks
load_put A b blocks = sum_by-cons (λ (c : Standing). c.length) b blocks
load_put B b blocks = omega (arith, sum_by-append (λ (c : Standing). c.length) blocks (b ∷ []), sum_by-cons (λ (c : Standing). c.length) b [])

length_put : {X : Type 0} (side : Side) (x : X) (xs : List X) → length (put side x xs) ≡ suc (length xs)
length_put A x xs = refl
length_put B x xs = omega (arith, length-append xs (x ∷ []))

-- the load that stands stays within the track's length
pub load_kept : (room : ℕ) (m : Move) (blocks after : List Standing) → moved room m blocks ≡ Ok after → load blocks ≤ room → load after ≤ room
load_kept room m blocks after e le =
    ⊎_elim (λ t. let w = entered_was room m (put_in m blocks) after (sym (enters_is room m blocks t) ∙ e) in let f = w.1 in omega (arith, ap load w.0))
    (λ t. let w = without_was m.side m.key.id blocks after (left_was m (without m.side m.key.id blocks) after (sym (leaves_is room m blocks t) ∙ e)) in omega
    (arith, ap load w.2, load_put m.side w.0 after)) (cases_Bool m.key.enters)

-- one block more or less
count_moved : (room : ℕ) (m : Move) (blocks after : List Standing) → moved room m blocks ≡ Ok after
    → length after + cond (not m.key.enters) 1 0 ≡ length blocks + cond m.key.enters 1 0
count_moved room m blocks after e =
    ⊎_elim (λ t. let w = entered_was room m (put_in m blocks) after (sym (enters_is room m blocks t) ∙ e) in
    subst (λ b. length after + cond (not b) 1 0 ≡ length blocks + cond b 1 0) (sym t)
    (omega (arith, ap (λ (l : List Standing). length l) w.0, length_put m.side (record { id = m.key.id; length = m.length }) blocks)))
    (λ t. let w = without_was m.side m.key.id blocks after (left_was m (without m.side m.key.id blocks) after (sym (leaves_is room m blocks t) ∙ e)) in
    subst (λ b. length after + cond (not b) 1 0 ≡ length blocks + cond b 1 0) (sym t) (omega (arith, ap (λ (l : List Standing). length l) w.2, length_put m.side w.0 after)))
    (cases_Bool m.key.enters)

pub ok_was : (r : Result Through Stop) (f : Through → Through) (t : Through) → (r >>= (λ x. Ok (f x))) ≡ Ok t → (x : Through) × (r ≡ Ok x) × (t ≡ f x)
ok_was (Ok x) f t e = (x, refl, cc)
ok_was (Err stop) f t e = absurd (cc)

pub first_was : (r : Result (List Standing) Stop) (f : List Standing → Result Through Stop) (t : Through) → (r >>= f) ≡ Ok t
    → (blocks : List Standing) × (r ≡ Ok blocks) × (f blocks ≡ Ok t)
first_was (Ok blocks) f t e = (blocks, refl, e)
first_was (Err stop) f t e = absurd (cc)

-- what a run leaves
pub record Leaves (moves : List Move) (tracks : List (List Standing)) (t : Through) : Type 0 where
  pub steps : map (λ (p : Move × ℕ). p.0) t.steps ≡ moves
  pub sizes : length t.tracks ≡ length tracks
  pub count : blocks_on t.tracks + leaves_in moves ≡ blocks_on tracks + entries_in moves

pub run_leaves : (lengths : List ℕ) (moves : List Move) (tracks : List (List Standing)) (t : Through) → ((m : Move) → In m moves → m.track.0 < length tracks)
    → run lengths moves tracks ≡ Ok t → Leaves moves tracks t
run_leaves lengths [] tracks t ins e =
    let f : ◌≡◌ {A = Through} (record { steps = []; tracks = tracks }) t = cc in
    subst (Leaves [] tracks) f (record { steps = refl; sizes = refl; count = refl })
run_leaves lengths (m ∷ moves) tracks t ins e =
    let f = first_was (first_of lengths m tracks) (λ bs. run lengths moves (set tracks m.track.0 bs) >>= (λ x. Ok (one_more m bs x))) t e in
    let r = ok_was (run lengths moves (set tracks m.track.0 f.0)) (one_more m f.0) t f.2 in
    let lt : m.track.0 < length tracks = ins m (inl refl) in
    let rest = run_leaves lengths moves (set tracks m.track.0 f.0) r.0 (λ n i. let below = ins n (inr i) in omega (arith, length-set tracks m.track.0 f.0)) r.1 in
    subst (Leaves (m ∷ moves) tracks) (sym r.2) (record {
      steps = ap (λ (l : List Move). m ∷ l) rest.steps;
      sizes = rest.sizes ∙ length-set tracks m.track.0 f.0;
      count = (let c = rest.count in omega (
        arith,
        count_moved (get_or lengths m.track.0 0) m (get_or tracks m.track.0 []) f.0 f.1,
        sum_by-set (λ (bs : List Standing). length bs) tracks m.track.0 f.0 [] lt,
        sum_by-cons (λ (n : Move). cond n.key.enters 1 0) m moves,
        sum_by-cons (λ (n : Move). cond (not n.key.enters) 1 0) m moves,
      ));
    })

-- what a run sees of a move decides what it does
seen_ok : (room : ℕ) (m : Move) (blocks after : List Standing) → moved room m blocks ≡ Ok after ↔ moved room (seen m) blocks ≡ Ok after
seen_ok room m blocks after = ⊎_elim (λ t. (
  λ e. let w = entered_was room m (put_in m blocks) after (sym (enters_is room m blocks t) ∙ e) in enters_is room (seen m) blocks t ∙ fits (seen m) w.1
      ∙ ap (λ (l : List Standing). Ok l) (sym w.0),
  λ e. let w = entered_was room (seen m) (put_in m blocks) after (sym (enters_is room (seen m) blocks t) ∙ e) in enters_is room m blocks t ∙ fits m w.1
      ∙ ap (λ (l : List Standing). Ok l) (sym w.0),
)) (λ t. (
  λ e. leaves_is room (seen m) blocks t ∙ ap (left (seen m)) (left_was m (without m.side m.key.id blocks) after (sym (leaves_is room m blocks t) ∙ e)),
  λ e. leaves_is room m blocks t ∙ ap (left m) (left_was (seen m) (without m.side m.key.id blocks) after (sym (leaves_is room (seen m) blocks t) ∙ e)),
)) (cases_Bool m.key.enters)
  where
    fits : (n : Move) → load (put_in m blocks) ≤ room → entered room n (put_in m blocks) ≡ Ok (put_in m blocks)
    fits n le = ap (λ b. cond b (Ok (put_in m blocks)) (Err (Over n (load (put_in m blocks))))) (le-leb (load (put_in m blocks)) room le)

pub run_seen : (lengths : List ℕ) (moves : List Move) (tracks : List (List Standing)) → IsOk (run lengths moves tracks) ↔ IsOk (run lengths (map seen moves) tracks)
run_seen lengths [] tracks = (λ h. h, λ h. h)
run_seen lengths (m ∷ moves) tracks = (
  λ h. let f = run_first lengths m moves tracks h in
      let rest = (run_ok lengths m moves tracks f.0 f.1).0 h in
      (run_ok lengths (seen m) (map seen moves) tracks f.0 ((seen_ok (get_or lengths m.track.0 0) m (get_or tracks m.track.0 []) f.0).0 f.1)).1
      ((run_seen lengths moves (set tracks m.track.0 f.0)).0 rest),
  λ h. let f = run_first lengths (seen m) (map seen moves) tracks h in
      let rest = (run_ok lengths (seen m) (map seen moves) tracks f.0 f.1).0 h in
      (run_ok lengths m moves tracks f.0 ((seen_ok (get_or lengths m.track.0 0) m (get_or tracks m.track.0 []) f.0).1 f.1)).1
      ((run_seen lengths moves (set tracks m.track.0 f.0)).1 rest),
)

pub seen_alike : (lengths : List ℕ) (moves others : List Move) (tracks : List (List Standing)) → map seen moves ≡ map seen others → IsOk (run lengths moves tracks)
    → IsOk (run lengths others tracks)
seen_alike lengths moves others tracks e h = (run_seen lengths others tracks).1 (subst (λ (l : List Move). IsOk (run lengths l tracks)) e ((run_seen lengths moves tracks).0 h))
