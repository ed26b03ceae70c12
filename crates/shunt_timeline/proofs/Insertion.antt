-- The events of a track once a stay came, and once it went.
use Rattle.std.proofs.Common.{◌≡◌, ◌≢◌, ◌⊎◌, inl, inr, ⊎_elim, ℕ, ◌+◌, ◌<◌, eqb, Bool, true, false, cond, List, ◌∷◌, ◌++◌, map, refl, sym, subst, ap, ◌∙◌, arith, sum_by}
use Rattle.std.proofs.lemmas.Bool.{eq-eqb, cases_Bool}
use Rattle.std.proofs.lemmas.List.Sums.{sum_by-cons, sum_by-append}
use Rattle.shunt_lists.proofs.Members.{all_in, all_from, in_left, in_right, in_cases, of_map}
use Rattle.shunt_lists.specs.defs.Members.{In, Ascends}
use Rattle.shunt_base.specs.declared.keys.Stay.{Stay}
use Rattle.shunt_base.specs.defs.Keys.{rank, IsKey, IsWellFormed, AreStays}
use Rattle.shunt_stays.proofs.Halves.{later_rank, formed}
use Rattle.shunt_timeline.specs.declared.events.StayEvent.{StayEvent}
use Rattle.shunt_timeline.specs.defs.Levels.{key_of, at, raised, lowered}
use Rattle.shunt_timeline.specs.defs.Kept.{IsKeptAt, IsKeptTrack, sum_on}
use Rattle.shunt_timeline.proofs.Lists.{sum_map, ascends_front, ascends_back, ascends_apart, ascends_joined, ascends_map}
use Rattle.shunt_timeline.proofs.Ranks.{key_in}
use Rattle.shunt_timeline.proofs.Changes.{entry_at, leave_at, not_yet, no_more, stands_now, crossed_not_yet, crossed_no_more, kept_aside, aside_kept, kept_raised, kept_lowered}
use Rattle.shunt_timeline.proofs.ThreeParts.{Cut, inA, inB, inC, keyA, keyB, keyC, early_entry, late_entry, sum_parts}

abbrev pub five : List StayEvent → StayEvent → List StayEvent → StayEvent → List StayEvent → List StayEvent
five A en B le C = A ++ (en ∷ (B ++ (le ∷ C)))

sum_five : (g : StayEvent → ℕ) (A : List StayEvent) (en : StayEvent) (B : List StayEvent) (le : StayEvent) (C : List StayEvent)
    → sum_by g (five A en B le C) ≡ sum_by g A + (g en + (sum_by g B + (g le + sum_by g C)))
sum_five g A en B le C = omega (arith, sum_by-append g A (en ∷ (B ++ (le ∷ C))), sum_by-cons g en (B ++ (le ∷ C)), sum_by-append g B (le ∷ C), sum_by-cons g le C)

in_five : (A : List StayEvent) (en : StayEvent) (B : List StayEvent) (le : StayEvent) (C : List StayEvent) (e : StayEvent) → In e (five A en B le C)
    → In e A ⊎ ((e ≡ en) ⊎ (In e B ⊎ ((e ≡ le) ⊎ In e C)))
in_five A en B le C e h = ⊎_elim (λ i. inl i) (λ i. ⊎_elim (λ s. inr (inl s)) (λ j. ⊎_elim (λ k. inr (inr (inl k))) (λ k. inr (inr (inr k))) (in_cases B (le ∷ C) e j)) i)
    (in_cases A (en ∷ (B ++ (le ∷ C))) e h)

-- an entry or a leave of x
pub record IsOf (x : Stay) (enters : Bool) (e : StayEvent) : Type 0 where
  pub stay : e.stay ≡ x
  pub kind : e.enters ≡ enters

entry_rank : (x : Stay) (e : StayEvent) → IsOf x true e → at e ≡ rank x.enter
entry_rank x e i = ap rank (entry_at e i.kind) ∙ ap (λ (s : Stay). rank s.enter) i.stay

leave_rank : (x : Stay) (e : StayEvent) → IsOf x false e → at e ≡ rank x.leave
leave_rank x e i = ap rank (leave_at e i.kind) ∙ ap (λ (s : Stay). rank s.leave) i.stay

cond_at : (b c : Bool) (m n : ℕ) → b ≡ c → cond b m n ≡ cond c m n
cond_at b c m n e = ap (λ z. cond z m n) e

module _ (stays : List Stay) (x : Stay) (A B C : List StayEvent) (c : Cut stays x A B C) (en le : StayEvent) (i : IsOf x true en) (o : IsOf x false le)
    (ken : IsKeptAt (x ∷ stays) x.track.0 en) (kle : IsKeptAt (x ∷ stays) x.track.0 le) where
  lasts : rank x.enter < rank x.leave
  lasts = later_rank x c.formed.0

  raised_at : (e : StayEvent) → In e (map (raised x) B) → (rank x.enter < at e) × (at e < rank x.leave)
  raised_at e h =
      let r = of_map (raised x) B e h in
      let same : at e ≡ at r.0 = ap at r.2 in
      let p = c.since r.0 r.1 in
      let q = c.until r.0 r.1 in
      (omega arith, omega arith)

  each_new : (e : StayEvent) → In e (five A en (map (raised x) B) le C) → IsKeptAt (x ∷ stays) x.track.0 e
  each_new e h = ⊎_elim
      (λ l. kept_aside stays x x.track.0 e (keyA stays x A B C c e l) (early_entry stays x A B C c e l) (c.kept.each e (inA stays x A B C c e l)))
      (λ r. ⊎_elim
      (λ s. subst (IsKeptAt (x ∷ stays) x.track.0) (sym s) ken)
      (λ r. ⊎_elim
      (λ m. let b = of_map (raised x) B e m in subst (IsKeptAt (x ∷ stays) x.track.0) (sym b.2)
      (kept_raised stays x x.track.0 b.0 (keyB stays x A B C c b.0 b.1) (c.kept.each b.0 (inB stays x A B C c b.0 b.1))))
      (λ r. ⊎_elim
      (λ s. subst (IsKeptAt (x ∷ stays) x.track.0) (sym s) kle)
      (λ l. kept_aside stays x x.track.0 e (keyC stays x A B C c e l) (late_entry stays x A B C c e l) (c.kept.each e (inC stays x A B C c e l)))
      r)
      r)
      r)
      (in_five A en (map (raised x) B) le C e h)

  ascends_new : Ascends at (five A en (map (raised x) B) le C)
  ascends_new =
      let ren = entry_rank x en i in
      let rle = leave_rank x le o in
      let lt = lasts in
      let rest : Ascends at (B ++ C) = ascends_back at A (B ++ C) c.kept.ascends in
      let tail : Ascends at (le ∷ C) = (all_from (λ y. at le < at y) C (λ y h. let gt = c.after y h in omega arith), ascends_back at B C rest) in
      let middle : Ascends at (map (raised x) B ++ (le ∷ C)) = ascends_joined at (map (raised x) B) (le ∷ C)
      (ascends_map at (raised x) B (λ e. refl) (ascends_front at B C rest)) tail
      (λ u v h j. let p = (raised_at u h).1 in ⊎_elim (λ s. let q : at v ≡ at le = ap at s in omega arith) (λ k. let gt = c.after v k in omega arith) j) in
      let above : (y : StayEvent) → In y (map (raised x) B ++ (le ∷ C)) → at en < at y = λ y h. ⊎_elim (λ m. let p = (raised_at y m).0 in omega arith)
      (λ r. ⊎_elim (λ s. let q : at y ≡ at le = ap at s in omega arith) (λ k. let gt = c.after y k in omega arith) r) (in_cases (map (raised x) B) (le ∷ C) y h) in
      ascends_joined at A (en ∷ (map (raised x) B ++ (le ∷ C))) (ascends_front at A (B ++ C) c.kept.ascends)
      (all_from (λ y. at en < at y) (map (raised x) B ++ (le ∷ C)) above, middle)
      (λ u v h j. let p = c.before u h in ⊎_elim (λ s. let q : at v ≡ at en = ap at s in omega arith) (λ k. let q = above v k in omega arith) j)

  -- the track with x
  pub inserted : IsKeptTrack (x ∷ stays) x.track.0 (five A en (map (raised x) B) le C)
  inserted = record {
    ascends = ascends_new;
    each = each_new;
    entries = λ f.
        let g : StayEvent → ℕ = λ e. cond e.enters (f e.stay) 0 in
        let own : g en ≡ f x = cond_at en.enters true (f en.stay) 0 i.kind ∙ ap f i.stay in
        let other : g le ≡ 0 = cond_at le.enters false (f le.stay) 0 o.kind in
        let more : sum_on x.track.0 f (x ∷ stays) ≡ cond (eqb x.track.0 x.track.0) (f x) 0 + sum_on x.track.0 f stays = sum_by-cons
        (λ s. cond (eqb s.track.0 x.track.0) (f s) 0) x stays in
        let here : cond (eqb x.track.0 x.track.0) (f x) 0 ≡ f x = cond_at (eqb x.track.0 x.track.0) true (f x) 0 (eq-eqb x.track.0 x.track.0 refl) in
        let same : sum_by g (map (raised x) B) ≡ sum_by g B = sum_map g (raised x) B in
        omega (arith, sum_five g A en (map (raised x) B) le C, sum_parts g A B C, c.kept.entries f);
    leaves = λ f.
        let g : StayEvent → ℕ = λ e. cond e.enters 0 (f e.stay) in
        let own : g le ≡ f x = cond_at le.enters false 0 (f le.stay) o.kind ∙ ap f o.stay in
        let other : g en ≡ 0 = cond_at en.enters true 0 (f en.stay) i.kind in
        let more : sum_on x.track.0 f (x ∷ stays) ≡ cond (eqb x.track.0 x.track.0) (f x) 0 + sum_on x.track.0 f stays = sum_by-cons
        (λ s. cond (eqb s.track.0 x.track.0) (f s) 0) x stays in
        let here : cond (eqb x.track.0 x.track.0) (f x) 0 ≡ f x = cond_at (eqb x.track.0 x.track.0) true (f x) 0 (eq-eqb x.track.0 x.track.0 refl) in
        let same : sum_by g (map (raised x) B) ≡ sum_by g B = sum_map g (raised x) B in
        omega (arith, sum_five g A en (map (raised x) B) le C, sum_parts g A B C, c.kept.leaves f);
  }

module _ (stays : List Stay) (x : Stay) (A B C : List StayEvent) (en le : StayEvent) (a : AreStays (x ∷ stays)) (k : IsKeptTrack (x ∷ stays) x.track.0 (five A en B le C))
    (i : IsOf x true en)
    (o : IsOf x false le) where
  there : (e : StayEvent) → In e A ⊎ (In e B ⊎ In e C) → In e (five A en B le C)
  there e h = ⊎_elim (λ l. in_left A (en ∷ (B ++ (le ∷ C))) e l) (λ r. in_right A (en ∷ (B ++ (le ∷ C))) e
      (inr (⊎_elim (λ l. in_left B (le ∷ C) e l) (λ r. in_right B (le ∷ C) e (inr r)) r))) h

  back : Ascends at (en ∷ (B ++ (le ∷ C)))
  back = ascends_back at A (en ∷ (B ++ (le ∷ C))) k.ascends

  back_of_B : Ascends at (le ∷ C)
  back_of_B = ascends_back at B (le ∷ C) back.1

  pub first_before : (e : StayEvent) → In e A → at e < rank x.enter
  first_before e h = let lt : at e < at en = ascends_apart at A (en ∷ (B ++ (le ∷ C))) e en k.ascends h (inl refl) in let r = entry_rank x en i in omega arith

  first_since : (e : StayEvent) → In e B → rank x.enter < at e
  first_since e h = let lt : at en < at e = all_in (λ y. at en < at y) (B ++ (le ∷ C)) e back.0 (in_left B (le ∷ C) e h) in let r = entry_rank x en i in omega arith

  first_until : (e : StayEvent) → In e B → at e < rank x.leave
  first_until e h = let lt : at e < at le = ascends_apart at B (le ∷ C) e le back.1 h (inl refl) in let r = leave_rank x le o in omega arith

  first_after : (e : StayEvent) → In e C → rank x.leave < at e
  first_after e h = let lt : at le < at e = all_in (λ y. at le < at y) C e back_of_B.0 h in let r = leave_rank x le o in omega arith

  apart_enter : (e : StayEvent) → In e A ⊎ (In e B ⊎ In e C) → (at e ≢ rank x.enter) × (at e ≢ rank x.leave)
  apart_enter e h =
      let lt = later_rank x a.0 in
      ⊎_elim (λ l. let p = first_before e l in (λ s. absurd (omega arith), λ s. absurd (omega arith)))
      (λ r. ⊎_elim (λ l. let p = first_since e l in let q = first_until e l in (λ s. absurd (omega arith), λ s. absurd (omega arith)))
      (λ l. let p = first_after e l in (λ s. absurd (omega arith), λ s. absurd (omega arith))) r) h

  -- the other events are of other stays
  other : (e : StayEvent) → In e A ⊎ (In e B ⊎ In e C) → In e.stay stays
  other e h = ⊎_elim (λ s. absurd (⊎_elim (λ t. (apart_enter e h).0 (entry_rank x e (record { stay = s; kind = t })))
      (λ t. (apart_enter e h).1 (leave_rank x e (record { stay = s; kind = t }))) (cases_Bool e.enters))) (λ j. j) (k.each e (there e h)).stay

  w : (e : StayEvent) → In e A ⊎ (In e B ⊎ In e C) → IsWellFormed e.stay
  w e h = formed stays e.stay a.2 (other e h)

  key : (e : StayEvent) → In e A ⊎ (In e B ⊎ In e C) → IsKey (key_of e)
  key e h = key_in e (w e h)

  each_left : (e : StayEvent) → In e (A ++ (map (lowered x) B ++ C)) → IsKeptAt stays x.track.0 e
  each_left e h = ⊎_elim
      (λ l. let p = first_before e l in aside_kept stays x x.track.0 e (not_yet x a.0 x.track.0 refl (key_of e) (key e (inl l)) p)
      (λ t. let r : at e ≡ rank e.stay.enter = ap rank (entry_at e t) in crossed_not_yet x e.stay a.0 (w e (inl l)) (omega arith)) (other e (inl l))
      (k.each e (there e (inl l))))
      (λ r. ⊎_elim
      (λ m. let b = of_map (lowered x) B e m in
      subst (IsKeptAt stays x.track.0) (sym b.2) (kept_lowered stays x x.track.0 b.0
      (stands_now x a.0 x.track.0 refl (key_of b.0) (key b.0 (inr (inl b.1))) (first_since b.0 b.1) (first_until b.0 b.1)) (other b.0 (inr (inl b.1)))
      (k.each b.0 (there b.0 (inr (inl b.1))))))
      (λ l. let p = first_after e l in aside_kept stays x x.track.0 e (no_more x a.0 x.track.0 refl (key_of e) (key e (inr (inr l))) (omega arith))
      (λ t. let r : at e ≡ rank e.stay.enter = ap rank (entry_at e t) in crossed_no_more x e.stay a.0 (w e (inr (inr l))) (omega arith)) (other e (inr (inr l)))
      (k.each e (there e (inr (inr l)))))
      (in_cases (map (lowered x) B) C e r))
      (in_cases A (map (lowered x) B ++ C) e h)

  lowered_at : (e : StayEvent) → In e (map (lowered x) B) → (rank x.enter < at e) × (at e < rank x.leave)
  lowered_at e h =
      let r = of_map (lowered x) B e h in
      let same : at e ≡ at r.0 = ap at r.2 in
      let p = first_since r.0 r.1 in
      let q = first_until r.0 r.1 in
      (omega arith, omega arith)

  ascends_left : Ascends at (A ++ (map (lowered x) B ++ C))
  ascends_left =
      let lt = later_rank x a.0 in
      ascends_joined at A (map (lowered x) B ++ C) (ascends_front at A (en ∷ (B ++ (le ∷ C))) k.ascends)
      (ascends_joined at (map (lowered x) B) C (ascends_map at (lowered x) B (λ e. refl) (ascends_front at B (le ∷ C) back.1)) back_of_B.1
      (λ u v h j. let p = (lowered_at u h).1 in let q = first_after v j in omega arith))
      (λ u v h j. let p = first_before u h in ⊎_elim (λ m. let q = (lowered_at v m).0 in omega arith) (λ m. let q = first_after v m in omega arith)
      (in_cases (map (lowered x) B) C v j))

  -- the track without x
  pub removed : IsKeptTrack stays x.track.0 (A ++ (map (lowered x) B ++ C))
  removed = record {
    ascends = ascends_left;
    each = each_left;
    entries = λ f.
        let g : StayEvent → ℕ = λ e. cond e.enters (f e.stay) 0 in
        let own : g en ≡ f x = cond_at en.enters true (f en.stay) 0 i.kind ∙ ap f i.stay in
        let none : g le ≡ 0 = cond_at le.enters false (f le.stay) 0 o.kind in
        let more : sum_on x.track.0 f (x ∷ stays) ≡ cond (eqb x.track.0 x.track.0) (f x) 0 + sum_on x.track.0 f stays = sum_by-cons
        (λ s. cond (eqb s.track.0 x.track.0) (f s) 0) x stays in
        let here : cond (eqb x.track.0 x.track.0) (f x) 0 ≡ f x = cond_at (eqb x.track.0 x.track.0) true (f x) 0 (eq-eqb x.track.0 x.track.0 refl) in
        let same : sum_by g (map (lowered x) B) ≡ sum_by g B = sum_map g (lowered x) B in
        omega (arith, sum_five g A en B le C, sum_parts g A (map (lowered x) B) C, k.entries f);
    leaves = λ f.
        let g : StayEvent → ℕ = λ e. cond e.enters 0 (f e.stay) in
        let own : g le ≡ f x = cond_at le.enters false 0 (f le.stay) o.kind ∙ ap f o.stay in
        let none : g en ≡ 0 = cond_at en.enters true 0 (f en.stay) i.kind in
        let more : sum_on x.track.0 f (x ∷ stays) ≡ cond (eqb x.track.0 x.track.0) (f x) 0 + sum_on x.track.0 f stays = sum_by-cons
        (λ s. cond (eqb s.track.0 x.track.0) (f s) 0) x stays in
        let here : cond (eqb x.track.0 x.track.0) (f x) 0 ≡ f x = cond_at (eqb x.track.0 x.track.0) true (f x) 0 (eq-eqb x.track.0 x.track.0 refl) in
        let same : sum_by g (map (lowered x) B) ≡ sum_by g B = sum_map g (lowered x) B in
        omega (arith, sum_five g A en B le C, sum_parts g A (map (lowered x) B) C, k.leaves f);
  }

  -- where x stood
  pub cut : Cut stays x A (map (lowered x) B) C
  cut = record {
    formed = a;
    kept = removed;
    before = first_before;
    since = λ e h. (lowered_at e h).0;
    until = λ e h. (lowered_at e h).1;
    after = first_after;
  }
