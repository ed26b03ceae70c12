-- A stay comes among the events of its track: A lie before it, B while it stands, C after it.
use Rattle.std.proofs.Common.{◌≡◌, ◌≢◌, ⊎_elim, ℕ, ◌+◌, ◌<◌, ◌≤◌, ltb, leb, eqb, Bool, true, false, cond, ◌&&◌, List, ◌∷◌, ◌++◌, get_or, refl, sym, ap, ◌∙◌, arith, sum_by}
use Rattle.std.specs.List.{count_by}
use Rattle.std.proofs.lemmas.Bool.{eq-eqb, cases_Bool, cases_eq}
use Rattle.std.proofs.lemmas.List.Sums.{sum_by-cons, sum_by-append}
use Rattle.shunt_lists.proofs.Members.{in_left, in_right}
use Rattle.shunt_lists.specs.defs.Members.{In}
use Rattle.shunt_base.specs.declared.keys.Stay.{Stay}
use Rattle.shunt_base.specs.defs.Keys.{rank, IsWellFormed, AreStays}
use Rattle.shunt_stays.specs.defs.Crossings.{crosses, stands_at, load_at, load_after, pairs_in, overs_in}
use Rattle.shunt_stays.proofs.Halves.{formed}
use Rattle.shunt_timeline.specs.declared.events.StayEvent.{StayEvent}
use Rattle.shunt_timeline.specs.defs.Levels.{key_of, at, is_crossed, gets_over}
use Rattle.shunt_timeline.specs.defs.Kept.{IsKeptTrack, sum_on}
use Rattle.shunt_timeline.proofs.Lists.{sum_plus, sum_zero}
use Rattle.shunt_timeline.proofs.Steps.{flag}
use Rattle.shunt_timeline.proofs.Numbers.{over_ways, stays_over}
use Rattle.shunt_timeline.proofs.Ranks.{key_in}
use Rattle.shunt_timeline.proofs.Changes.{entry_at, leave_at, off_track, off_crossing, not_yet, no_more, stands_now, crossed_not_yet, crossed_no_more, count_one, load_one}
use Rattle.shunt_lists.proofs.Sums.{sum_alike}

pub record Cut (stays : List Stay) (x : Stay) (A B C : List StayEvent) : Type 0 where
  pub formed : AreStays (x ∷ stays)
  pub kept : IsKeptTrack stays x.track.0 (A ++ (B ++ C))
  pub before : (e : StayEvent) → In e A → at e < rank x.enter
  pub since : (e : StayEvent) → In e B → rank x.enter < at e
  pub until : (e : StayEvent) → In e B → at e < rank x.leave
  pub after : (e : StayEvent) → In e C → rank x.leave < at e

pub and_flag : (a b : Bool) → flag (a && b) ≡ cond a (flag b) 0
and_flag true b = refl
and_flag false b = refl

zero_cond : (b : Bool) (n : ℕ) → n ≡ 0 → cond b n 0 ≡ 0
zero_cond true n e = e
zero_cond false n e = refl

cond_zero : (b : Bool) (n : ℕ) → n ≡ 0 → cond b 0 n ≡ 0
cond_zero true n e = refl
cond_zero false n e = e

-- what no stay off the track adds to
pub sum_on_all : (t : ℕ) (f : Stay → ℕ) (stays : List Stay) → ((s : Stay) → In s stays → s.track.0 ≢ t → f s ≡ 0) → sum_on t f stays ≡ sum_by f stays
sum_on_all t f stays none = sum_alike (λ s. cond (eqb s.track.0 t) (f s) 0) f stays
    (λ s h. ⊎_elim (λ e. ap (λ b. cond b (f s) 0) (eq-eqb s.track.0 t e)) (λ ne. zero_cond (eqb s.track.0 t) (f s) (none s h ne) ∙ sym (none s h ne)) (cases_eq s.track.0 t))

pub sum_parts : (g : StayEvent → ℕ) (A B C : List StayEvent) → sum_by g (A ++ (B ++ C)) ≡ sum_by g A + (sum_by g B + sum_by g C)
sum_parts g A B C = omega (arith, sum_by-append g A (B ++ C), sum_by-append g B C)

-- who crosses itself
pub not_itself : (x : Stay) → IsWellFormed x → crosses x x ≡ false
not_itself x w = crossed_not_yet x x w w (omega arith)

module _ (stays : List Stay) (x : Stay) (A B C : List StayEvent) (c : Cut stays x A B C) where
  abbrev pub all : List StayEvent
  all = A ++ (B ++ C)

  pub wx : IsWellFormed x
  wx = c.formed.0

  pub inA : (e : StayEvent) → In e A → In e all
  inA e h = in_left A (B ++ C) e h

  pub inB : (e : StayEvent) → In e B → In e all
  inB e h = in_right A (B ++ C) e (in_left B C e h)

  pub inC : (e : StayEvent) → In e C → In e all
  inC e h = in_right A (B ++ C) e (in_right B C e h)

  pub we : (e : StayEvent) → In e all → IsWellFormed e.stay
  we e h = formed stays e.stay c.formed.2 (c.kept.each e h).stay

  pub on_t : (e : StayEvent) → In e all → e.stay.track.0 ≡ x.track.0
  on_t e h = (c.kept.each e h).track

  enter_rank : (e : StayEvent) → e.enters ≡ true → at e ≡ rank e.stay.enter
  enter_rank e t = ap rank (entry_at e t)

  pub leave_rank : (e : StayEvent) → e.enters ≡ false → at e ≡ rank e.stay.leave
  leave_rank e t = ap rank (leave_at e t)

  -- what only the events of B add to
  pub window : (g : StayEvent → ℕ) → ((e : StayEvent) → In e A → g e ≡ 0) → ((e : StayEvent) → In e C → g e ≡ 0) → sum_by g all ≡ sum_by g B
  window g a d = let p = sum_zero g A a in let q = sum_zero g C d in omega (arith, sum_parts g A B C)

  pub early_entry : (e : StayEvent) → In e A → e.enters ≡ true → crosses x e.stay ≡ false
  early_entry e h t = let lt = c.before e h in let r = enter_rank e t in crossed_not_yet x e.stay wx (we e (inA e h)) (omega arith)

  pub late_entry : (e : StayEvent) → In e C → e.enters ≡ true → crosses x e.stay ≡ false
  late_entry e h t = let lt = c.after e h in let r = enter_rank e t in crossed_no_more x e.stay wx (we e (inC e h)) (omega arith)

  entry_none : (e : StayEvent) (n : ℕ) → (e.enters ≡ true → n ≡ 0) → cond e.enters n 0 ≡ 0
  entry_none e n h = ⊎_elim (λ t. zero_cond e.enters n (h t)) (λ t. ap (λ b. cond b n 0) t) (cases_Bool e.enters)

  pub leave_none : (e : StayEvent) (n : ℕ) → (e.enters ≡ false → n ≡ 0) → cond e.enters 0 n ≡ 0
  leave_none e n h = ⊎_elim (λ t. ap (λ b. cond b 0 n) t) (λ t. cond_zero e.enters n (h t)) (cases_Bool e.enters)

  -- the entries that x crosses are the stays that it crosses
  pub crossed_is : count_by (is_crossed x) B ≡ count_by (crosses x) stays
  crossed_is =
      sum_alike (λ e. flag (is_crossed x e)) (λ e. cond e.enters (flag (crosses x e.stay)) 0) B (λ e h. and_flag e.enters (crosses x e.stay))
      ∙ sym (window (λ e. cond e.enters (flag (crosses x e.stay)) 0) (λ e h. entry_none e _ (λ t. ap flag (early_entry e h t)))
      (λ e h. entry_none e _ (λ t. ap flag (late_entry e h t))))
      ∙ c.kept.entries (λ s. flag (crosses x s))
      ∙ sum_on_all x.track.0 (λ s. flag (crosses x s)) stays (λ s h ne. ap flag (off_crossing x s (λ e. ne (sym e))))

  -- pairs with x among them
  pub pairs_more : pairs_in (x ∷ stays) ≡ pairs_in stays + (count_by (λ b. crosses b x) stays + count_by (is_crossed x) B)
  pairs_more =
      let f : Stay → ℕ = λ b. count_by (crosses b) (x ∷ stays) in
      let first : pairs_in (x ∷ stays) ≡ f x + sum_by f stays = sum_by-cons f x stays in
      let own : f x ≡ flag (crosses x x) + count_by (crosses x) stays = count_one (crosses x) x stays in
      let none : flag (crosses x x) ≡ 0 = ap flag (not_itself x wx) in
      let rest : sum_by f stays ≡ sum_by (λ b. flag (crosses b x)) stays + sum_by (λ b. count_by (crosses b) stays) stays = sum_plus (λ b. flag (crosses b x))
      (λ b. count_by (crosses b) stays) f stays (λ b h. count_one (crosses b) x stays) in
      omega (arith, crossed_is)

  -- x stands at the events of B alone
  pub keyA : (e : StayEvent) → In e A → stands_at x.track.0 (key_of e) x ≡ false
  keyA e h = not_yet x wx x.track.0 refl (key_of e) (key_in e (we e (inA e h))) (c.before e h)

  pub keyB : (e : StayEvent) → In e B → stands_at x.track.0 (key_of e) x ≡ true
  keyB e h = stands_now x wx x.track.0 refl (key_of e) (key_in e (we e (inB e h))) (c.since e h) (c.until e h)

  pub keyC : (e : StayEvent) → In e C → stands_at x.track.0 (key_of e) x ≡ false
  keyC e h = let lt = c.after e h in no_more x wx x.track.0 refl (key_of e) (key_in e (we e (inC e h))) (omega arith)

  load_of : (s : Stay) → load_after (x ∷ stays) s ≡ cond (stands_at s.track.0 s.enter x) x.length 0 + load_after stays s
  load_of s = load_one s.track.0 s.enter x stays

  -- an entry that x pushes over the room
  abbrev pushed : ℕ → Stay → Bool
  pushed room s = leb (load_after stays s) room && ltb room (load_after (x ∷ stays) s)

  unpushed : (room : ℕ) (s : Stay) → stands_at s.track.0 s.enter x ≡ false → pushed room s ≡ false
  unpushed room s f =
      let same : load_after (x ∷ stays) s ≡ load_after stays s = load_of s ∙ ap (λ b. cond b x.length 0 + load_after stays s) f ∙ omega arith in
      ap (λ n. leb (load_after stays s) room && ltb room n) same ∙ stays_over room (load_after stays s)

  at_entry : (e : StayEvent) → In e all → e.enters ≡ true → (b : Bool) → stands_at x.track.0 (key_of e) x ≡ b → stands_at e.stay.track.0 e.stay.enter x ≡ b
  at_entry e h t b f = ap (λ k. stands_at e.stay.track.0 k x) (sym (entry_at e t)) ∙ ap (λ n. stands_at n (key_of e) x) (on_t e h) ∙ f

  gets_is : (room : ℕ) (e : StayEvent) → In e B → e.enters ≡ true → flag (gets_over x room e) ≡ flag (pushed room e.stay)
  gets_is room e h t =
      let k = c.kept.each e (inB e h) in
      let old : e.load ≡ load_after stays e.stay = k.load ∙ ap (λ z. load_at stays x.track.0 z) (entry_at e t) ∙ ap (λ n. load_at stays n e.stay.enter) (sym (on_t e (inB e h))) in
      let new : e.load + x.length ≡ load_after (x ∷ stays) e.stay = let w : load_after (x ∷ stays) e.stay ≡ x.length + load_after stays e.stay = load_of e.stay
      ∙ ap (λ b. cond b x.length 0 + load_after stays e.stay) (at_entry e (inB e h) t true (keyB e h)) in omega arith in
      ap (λ b. flag (b && (leb e.load room && ltb room (e.load + x.length)))) t ∙ ap (λ n. flag (leb n room && ltb room (e.load + x.length))) old
      ∙ ap (λ n. flag (leb (load_after stays e.stay) room && ltb room n)) new

  gets_at : (room : ℕ) (e : StayEvent) → In e B → flag (gets_over x room e) ≡ cond e.enters (flag (pushed room e.stay)) 0
  gets_at room e h = ⊎_elim (λ t. gets_is room e h t ∙ sym (ap (λ b. cond b (flag (pushed room e.stay)) 0) t))
      (λ t. ap (λ b. flag (b && (leb e.load room && ltb room (e.load + x.length)))) t ∙ sym (ap (λ b. cond b (flag (pushed room e.stay)) 0) t)) (cases_Bool e.enters)

  pub over_is : (room : ℕ) → count_by (gets_over x room) B ≡ sum_on x.track.0 (λ s. flag (pushed room s)) stays
  over_is room =
      sum_alike (λ e. flag (gets_over x room e)) (λ e. cond e.enters (flag (pushed room e.stay)) 0) B (λ e h. gets_at room e h)
      ∙ sym (window (λ e. cond e.enters (flag (pushed room e.stay)) 0) (λ e h. entry_none e _ (λ t. ap flag (unpushed room e.stay (at_entry e (inA e h) t false (keyA e h)))))
      (λ e h. entry_none e _ (λ t. ap flag (unpushed room e.stay (at_entry e (inC e h) t false (keyC e h))))))
      ∙ c.kept.entries (λ s. flag (pushed room s))

  -- entries over with x among them
  pub overs_more : (lengths : List ℕ) (room : ℕ) → get_or lengths x.track.0 0 ≡ room
      → overs_in lengths (x ∷ stays) ≡ overs_in lengths stays + (flag (ltb room (load_after (x ∷ stays) x)) + count_by (gets_over x room) B)
  overs_more lengths room is =
      let over : List Stay → Stay → ℕ = λ l s. flag (ltb (get_or lengths s.track.0 0) (load_after l s)) in
      let first : overs_in lengths (x ∷ stays) ≡ over (x ∷ stays) x + sum_by (over (x ∷ stays)) stays = sum_by-cons (over (x ∷ stays)) x stays in
      let own : over (x ∷ stays) x ≡ flag (ltb room (load_after (x ∷ stays) x)) = ap (λ n. flag (ltb n (load_after (x ∷ stays) x))) is in
      let rest : sum_by (over (x ∷ stays)) stays ≡ sum_by (over stays) stays + sum_on x.track.0 (λ s. flag (pushed room s)) stays = sum_plus (over stays)
      (λ s. cond (eqb s.track.0 x.track.0) (flag (pushed room s)) 0) (over (x ∷ stays)) stays (λ s h. each_over s) in
      omega (arith, over_is room)
    where
      more : (s : Stay) → load_after stays s ≤ load_after (x ∷ stays) s
      more s = omega (arith, load_of s)

      each_over : (s : Stay) → flag (ltb (get_or lengths s.track.0 0) (load_after (x ∷ stays) s))
          ≡ flag (ltb (get_or lengths s.track.0 0) (load_after stays s)) + cond (eqb s.track.0 x.track.0) (flag (pushed room s)) 0
      each_over s = ⊎_elim (λ e.
          let r : get_or lengths s.track.0 0 ≡ room = ap (λ n. get_or lengths n 0) e ∙ is in
          ap (λ n. flag (ltb n (load_after (x ∷ stays) s))) r ∙ over_ways room (load_after stays s) (load_after (x ∷ stays) s) (more s)
          ∙ ap (λ n. flag (ltb n (load_after stays s)) + flag (pushed room s)) (sym r)
          ∙ ap (λ b. flag (ltb (get_or lengths s.track.0 0) (load_after stays s)) + cond b (flag (pushed room s)) 0) (sym (eq-eqb s.track.0 x.track.0 e)))
          (λ ne.
          let same : load_after (x ∷ stays) s ≡ load_after stays s = load_of s ∙ ap (λ b. cond b x.length 0 + load_after stays s) (off_track s.track.0 s.enter x (λ e. ne (sym e)))
          ∙ omega arith in
          let none : cond (eqb s.track.0 x.track.0) (flag (pushed room s)) 0 ≡ 0 = zero_cond (eqb s.track.0 x.track.0) _
          (ap flag (unpushed room s (off_track s.track.0 s.enter x (λ e. ne (sym e))))) in
          let left : flag (ltb (get_or lengths s.track.0 0) (load_after (x ∷ stays) s))
          ≡ flag (ltb (get_or lengths s.track.0 0) (load_after stays s)) = ap (λ n. flag (ltb (get_or lengths s.track.0 0) n)) same in
          omega arith)
          (cases_eq s.track.0 x.track.0)
