-- The stays that stand on a track at a moment fit it, where its run goes through.
use Rattle.std.proofs.Common.{◌≡◌, ◌⊎◌, inl, inr, ⊎_elim, ℕ, ◌+◌, ◌<◌, ◌≤◌, leb, ltb, true, false, List, [], ◌∷◌, sym, subst, ap, arith}
use Rattle.std.proofs.lemmas.Bool.{true≢false, false≢true, cases_lt, and_parts, leb-true, ltb-true}
use Rattle.std.proofs.lemmas.List.Sums.{sum_by-append, sum_by-cons}
use Rattle.shunt_lists.proofs.Sums.{sum_within}
use Rattle.shunt_lists.proofs.Members.{all_in, Distinct}
use Rattle.shunt_lists.specs.defs.Members.{In, Ascends}
use Rattle.shunt_base.specs.declared.ids.Side.{Side}
use Rattle.shunt_base.specs.declared.ids.Side.TheVariants.{A, B}
use Rattle.shunt_base.specs.declared.keys.Stay.{Stay}
use Rattle.shunt_base.specs.defs.Keys.{rank, AreStays}
use Rattle.shunt_stays.specs.defs.Run.{put}
use Rattle.shunt_stays.proofs.Members.{put_here, put_there, put_cases}
use Rattle.shunt_stays.proofs.Halves.{Half, at, halves_of, ordered, same_stay}
use Rattle.shunt_stays.proofs.Track.{length_of, total, GoesOn, stands_by, total_at}

total_put : (side : Side) (s : Stay) (st : List Stay) → total (put side s st) ≡ s.length + total st
total_put A s st = sum_by-cons length_of s st
total_put B s st = omega (arith, sum_by-append length_of st (s ∷ []), sum_by-cons length_of s [])

-- who stands at the moment has its leave left, and is there or has its entry left
abbrev Comes : List Stay → ℕ → List Half → List Stay → Type 0
Comes stays moment halves st = (x : Stay) → In x stays → stands_by moment x ≡ true → In (x, false) halves × (In x st ⊎ In (x, true) halves)

begun : (moment : ℕ) (x : Stay) → stands_by moment x ≡ true → (rank x.enter ≤ moment) × (moment < rank x.leave)
begun moment x t = let b = and_parts (leb (rank x.enter) moment) (ltb moment (rank x.leave)) t in (leb-true (rank x.enter) moment b.0, ltb-true moment (rank x.leave) b.1)

-- all that is left comes after the moment
past : (stays : List Stay) (moment : ℕ) (m : Half) (halves : List Half) (st : List Stay) → Distinct stays → Ascends at (m ∷ halves) → moment < at m
    → Comes stays moment (m ∷ halves) st → total_at stays moment ≤ total st
past stays moment m halves st d a lt comes =
    sum_within length_of (stands_by moment) stays st d (λ x h t. ⊎_elim (λ i. i) (λ i. absurd (over x i (begun moment x t).0)) (comes x h t).1)
  where
    over : (x : Stay) → In (x, true) (m ∷ halves) → rank x.enter ≤ moment → ⊥
    over x (inl e) le = absurd (omega (arith, ap at e))
    over x (inr i) le = absurd (let gt : at m < rank x.enter = all_in (λ n. at m < at n) halves (x, true) a.0 i in omega arith)

holds : (room : ℕ) (stays : List Stay) (moment : ℕ) (halves : List Half) (st : List Stay) → Distinct stays → Ascends at halves → total st ≤ room → Comes stays moment halves st
    → GoesOn room halves st → total_at stays moment ≤ room
holds room stays moment [] st d a le comes go = let r = sum_within length_of (stands_by moment) stays st d (λ x h t. absurd (comes x h t).0) in omega arith
holds room stays moment ((s, true) ∷ halves) st d a le comes go =
    ⊎_elim (λ lt. let r = past stays moment (s, true) halves st d a lt comes in omega arith)
    (λ ge. holds room stays moment halves (put s.side_in s st) d a.1 go.0 (λ x h t. stays_on x (comes x h t)) go.1) (cases_lt moment (rank s.enter))
  where
    left_in : (x : Stay) → In (x, false) ((s, true) ∷ halves) → In (x, false) halves
    left_in x (inl e) = absurd (false≢true (ap (λ (m : Half). m.1) e))
    left_in x (inr i) = i

    come_in : (x : Stay) → In (x, true) ((s, true) ∷ halves) → In x (put s.side_in s st) ⊎ In (x, true) halves
    come_in x (inl e) = inl (subst (λ (z : Stay). In z (put s.side_in s st)) (sym (same_stay x s true true e)) (put_here s.side_in s st))
    come_in x (inr i) = inr i

    stays_on : (x : Stay) → In (x, false) ((s, true) ∷ halves) × (In x st ⊎ In (x, true) ((s, true) ∷ halves))
        → In (x, false) halves × (In x (put s.side_in s st) ⊎ In (x, true) halves)
    stays_on x c = (left_in x c.0, ⊎_elim (λ i. inl (put_there s.side_in s x st i)) (λ i. come_in x i) c.1)
holds room stays moment ((s, false) ∷ halves) st d a le comes go =
    ⊎_elim (λ lt. let r = past stays moment (s, false) halves st d a lt comes in omega arith)
    (λ ge. holds room stays moment halves go.0 d a.1 (omega (arith, ap total go.1, total_put s.side_out s go.0)) (λ x h t. stays_on x ge (begun moment x t).1 (comes x h t)) go.2)
    (cases_lt moment (rank s.leave))
  where
    left_in : (x : Stay) → (x ≡ s → ⊥) → In (x, false) ((s, false) ∷ halves) → In (x, false) halves
    left_in x ne (inl e) = absurd (ne (same_stay x s false false e))
    left_in x ne (inr i) = i

    come_in : (x : Stay) → In (x, true) ((s, false) ∷ halves) → In (x, true) halves
    come_in x (inl e) = absurd (true≢false (ap (λ (m : Half). m.1) e))
    come_in x (inr i) = i

    stays_on : (x : Stay) → rank s.leave ≤ moment → moment < rank x.leave → In (x, false) ((s, false) ∷ halves) × (In x st ⊎ In (x, true) ((s, false) ∷ halves))
        → In (x, false) halves × (In x go.0 ⊎ In (x, true) halves)
    stays_on x ge lt c =
        let ne : x ≡ s → ⊥ = λ e. absurd (omega (arith, ap (λ (z : Stay). rank z.leave) e)) in (
          left_in x ne c.0,
          ⊎_elim (λ i. ⊎_elim (λ e. absurd (ne e)) (λ j. inl j) (put_cases s.side_out s x go.0 (subst (λ (l : List Stay). In x l) go.1 i)))
              (λ i. inr (come_in x i)) c.1,
        )

pub fits_at : (room : ℕ) (stays : List Stay) (moment : ℕ) → AreStays stays → GoesOn room (halves_of stays) [] → total_at stays moment ≤ room
fits_at room stays moment a go =
    let o = ordered stays a in
    holds room stays moment (halves_of stays) [] o.distinct o.ascends (omega arith) (λ x h t. ((o.leaves x).1 h, inr ((o.enters x).1 h))) go
