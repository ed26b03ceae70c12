-- What stands just before a moment is what stands just after the last event before it.
use Rattle.std.proofs.Common.{◌≡◌, ◌⊎◌, inl, inr, ⊎_elim, ℕ, ◌<◌, ◌≤◌, ltb, leb, eqb, Bool, true, false, cond, ◌&&◌, List, [], ◌∷◌, ◌++◌, refl, sym, subst, ap, ◌∙◌, arith}
use Rattle.std.specs.List.{count_by}
use Rattle.std.proofs.lemmas.Bool.{eqb-true, eq-eqb, cases_eq}
use Rattle.std.proofs.lemmas.Bool.Decides.{nat_tests}
use Rattle.shunt_lists.proofs.Members.{in_left, in_right, in_cases}
use Rattle.shunt_lists.specs.defs.Members.{In, Ascends}
use Rattle.shunt_base.specs.declared.keys.EventKey.{EventKey}
use Rattle.shunt_base.specs.declared.keys.Stay.{Stay}
use Rattle.shunt_base.specs.defs.Keys.{rank, IsKey, IsWellFormed, AreStays}
use Rattle.shunt_stays.specs.defs.Crossings.{stands_at, load_at}
use Rattle.shunt_stays.proofs.Halves.{formed}
use Rattle.shunt_timeline.specs.declared.events.StayEvent.{StayEvent}
use Rattle.shunt_timeline.specs.defs.Levels.{key_of, at}
use Rattle.shunt_timeline.specs.defs.Kept.{IsKeptTrack, sum_on}
use Rattle.shunt_timeline.proofs.Lists.{sum_zero, sum_some, sum_least, ascends_front, ascends_apart}
use Rattle.shunt_timeline.proofs.Steps.{flag}
use Rattle.shunt_timeline.proofs.Ranks.{key_in}
use Rattle.shunt_timeline.proofs.Changes.{inside, stands_is, off_track, entry_at, leave_at}
use Rattle.shunt_lists.proofs.Sums.{sum_alike}
use Rattle.shunt_lists.proofs.Tests.{no_span as none}

flag_some : (b : Bool) (n : ℕ) → 0 < cond b n 0 → (b ≡ true) × (0 < n)
flag_some true n lt = (refl, lt)
flag_some false n lt = absurd (omega arith)

flag_some_off : (b : Bool) (n : ℕ) → 0 < cond b 0 n → (b ≡ false) × (0 < n)
flag_some_off true n lt = absurd (omega arith)
flag_some_off false n lt = (refl, lt)

one_of : (m n : ℕ) → 0 < flag (eqb m n) → m ≡ n
one_of m n lt = eqb-true m n (flag_some (eqb m n) 1 lt).0

module _ (stays : List Stay) (t : ℕ) (events : List StayEvent) (a : AreStays stays) (k : IsKeptTrack stays t events) where
  there : (f : Stay → ℕ) (s : Stay) → In s stays → s.track.0 ≡ t → 0 < f s → 0 < sum_on t f stays
  there f s h e lt =
      let least : cond (eqb s.track.0 t) (f s) 0 ≤ sum_on t f stays = sum_least (λ u. cond (eqb u.track.0 t) (f u) 0) stays s h in
      let is : cond (eqb s.track.0 t) (f s) 0 ≡ f s = ap (λ b. cond b (f s) 0) (eq-eqb s.track.0 t e) in
      omega arith

  -- each stay on the track has its entry and its leave among the events
  pub has_entry : (s : Stay) → In s stays → s.track.0 ≡ t → (e : StayEvent) × In e events × (e.enters ≡ true) × (at e ≡ rank s.enter)
  has_entry s h on =
      let f : Stay → ℕ = λ u. flag (eqb (rank u.enter) (rank s.enter)) in
      let one : f s ≡ 1 = ap flag (eq-eqb (rank s.enter) (rank s.enter) refl) in
      let r = sum_some (λ e. cond e.enters (f e.stay) 0) events (let lt : 0 < sum_on t f stays = there f s h on (omega arith) in omega (arith, k.entries f)) in
      let p = flag_some r.0.enters (f r.0.stay) r.2 in
      (r.0, r.1, p.0, ap rank (entry_at r.0 p.0) ∙ one_of (rank r.0.stay.enter) (rank s.enter) p.1)

  pub has_leave : (s : Stay) → In s stays → s.track.0 ≡ t → (e : StayEvent) × In e events × (e.enters ≡ false) × (at e ≡ rank s.leave)
  has_leave s h on =
      let f : Stay → ℕ = λ u. flag (eqb (rank u.leave) (rank s.leave)) in
      let one : f s ≡ 1 = ap flag (eq-eqb (rank s.leave) (rank s.leave) refl) in
      let r = sum_some (λ e. cond e.enters 0 (f e.stay)) events (let lt : 0 < sum_on t f stays = there f s h on (omega arith) in omega (arith, k.leaves f)) in
      let p = flag_some_off r.0.enters (f r.0.stay) r.2 in
      (r.0, r.1, p.0, ap rank (leave_at r.0 p.0) ∙ one_of (rank r.0.stay.leave) (rank s.leave) p.1)

  formed_at : (e : StayEvent) → In e events → IsWellFormed e.stay
  formed_at e h = formed stays e.stay a (k.each e h).stay

alike : (e l m n : ℕ) → (e ≤ n) ⊎ (m < e) → (l ≤ n) ⊎ (m < l) → n < m → (leb e n && ltb n l) ≡ (leb e m && ltb m l)
alike e l m n p q lt = grind (arith, nat_tests)

-- two moments with no event of the track between them
module _ (stays : List Stay) (t : ℕ) (D E : List StayEvent) (a : AreStays stays) (k : IsKeptTrack stays t (D ++ E)) (m : EventKey) (q : IsKey m)
    (before : (e : StayEvent) → In e D → at e < rank m) (after : (e : StayEvent) → In e E → rank m < at e) where
  -- none stands before the first event
  pub level_first : D ≡ [] → (count_by (stands_at t m) stays ≡ 0) × (load_at stays t m ≡ 0)
  level_first empty = (
    sum_zero (λ s. flag (stands_at t m s)) stays (λ s h. ap flag (gone s h)),
    sum_zero (λ s. cond (stands_at t m s) s.length 0) stays (λ s h. ap (λ b. cond b s.length 0) (gone s h)),
  )
    where
      all_after : (e : StayEvent) → In e (D ++ E) → rank m < at e
      all_after e h = after e (subst (λ (l : List StayEvent). In e (l ++ E)) empty h)

      gone : (s : Stay) → In s stays → stands_at t m s ≡ false
      gone s h = ⊎_elim (λ on. let r = has_entry stays t (D ++ E) a k s h on in let lt = all_after r.0 r.1 in let is = r.3 in
          stands_is t m s q (formed stays s a h) ∙ ap (λ b. b && inside (rank m) s) (eq-eqb s.track.0 t on) ∙ none (rank s.enter) (rank s.leave) (rank m) (omega arith))
          (λ off. off_track t m s off) (cases_eq s.track.0 t)

  -- what stands just after the last event before the moment stands at the moment
  pub level_later : (front : List StayEvent) (p : StayEvent) → D ≡ front ++ p ∷ [] → (count_by (stands_at t m) stays ≡ p.standing) × (load_at stays t m ≡ p.load)
  level_later front p is = (
    sum_alike (λ s. flag (stands_at t m s)) (λ s. flag (stands_at t (key_of p) s)) stays (λ s h. ap flag (same s h)) ∙ sym (k.each p here).standing,
    sum_alike (λ s. cond (stands_at t m s) s.length 0) (λ s. cond (stands_at t (key_of p) s) s.length 0) stays (λ s h. ap (λ b. cond b s.length 0) (same s h))
        ∙ sym (k.each p here).load,
  )
    where
      last : In p D
      last = subst (In p) (sym is) (in_right front (p ∷ []) p (inl refl))

      here : In p (D ++ E)
      here = in_left D E p last

      highest : (e : StayEvent) → In e D → at e ≤ at p
      highest e h = ⊎_elim
          (λ l. let lt : at e < at p = ascends_apart at front (p ∷ []) e p (subst (Ascends at) is (ascends_front at D E k.ascends)) l (inl refl) in omega arith)
          (λ r. ⊎_elim (λ e'. omega (arith, ap at e')) (λ no. absurd no) r)
          (in_cases front (p ∷ []) e (subst (In e) is h))

      side : (e : StayEvent) → In e (D ++ E) → (at e ≤ at p) ⊎ (rank m < at e)
      side e h = ⊎_elim (λ l. inl (highest e l)) (λ r. inr (after e r)) (in_cases D E e h)

      moved : (n : ℕ) (e : StayEvent) → at e ≡ n → (at e ≤ at p) ⊎ (rank m < at e) → (n ≤ at p) ⊎ (rank m < n)
      moved n e is s = subst (λ z. (z ≤ at p) ⊎ (rank m < z)) is s

      same : (s : Stay) → In s stays → stands_at t m s ≡ stands_at t (key_of p) s
      same s h = ⊎_elim (λ on.
          let r = has_entry stays t (D ++ E) a k s h on in
          let l = has_leave stays t (D ++ E) a k s h on in
          let w = formed stays s a h in
          stands_is t m s q w
          ∙ ap (λ b. eqb s.track.0 t && b) (sym (alike (rank s.enter) (rank s.leave) (rank m) (at p) (moved (rank s.enter) r.0 r.3 (side r.0 r.1))
          (moved (rank s.leave) l.0 l.3 (side l.0 l.1)) (before p last)))
          ∙ sym (stands_is t (key_of p) s (key_in p (formed_at stays t (D ++ E) a k p here)) w))
          (λ off. off_track t m s off ∙ sym (off_track t (key_of p) s off)) (cases_eq s.track.0 t)
