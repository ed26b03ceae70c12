-- How many units the made trains have.
use Rattle.std.proofs.Common.{◌≡◌, ◌⊎◌, inl, inr, ⊎_elim, ℕ, zero, suc, ◌+◌, ◌*◌, ◌%◌, ◌<◌, ◌≤◌, min, cond, ◌&&◌, ◌==◌, List, [], length, map, refl, sym, ap, ◌∙◌, arith}
use Rattle.std.specs.List.{range_with_len}
use Rattle.std.proofs.lemmas.Bool.{false≢true, cases_Bool, cases_eq, eqb-true, eq-eqb, and_parts, and_from}
use Rattle.std.proofs.lemmas.List.{length-reverse}
use Rattle.std.proofs.lemmas.List.FromFn.{length-range_with_len, map-range_with_len_more}
use Rattle.std.proofs.lemmas.List.Sums.{sum_by_push}
use Rattle.shunt_instance.specs.declared.records.Train.{Train}
use Rattle.shunt_instance.specs.defs.Words.{unit_count}
use Rattle.shunt_make.specs.defs.Draws.{after}
use Rattle.shunt_make.specs.defs.Made.{track_count, station_of, train_count, size_of, kind_of, arriving_of, arriving, departing, timetable_of}
use Rattle.shunt_make.proofs.Chain.{drawn_length}
use Rattle.shunt_make.proofs.Formed.{tracks_long}
use Rattle.shunt_make.proofs.Timed.{arriving_length, departing_length}
use Rattle.shunt_make.proofs.Counted.{same_sums}

size_cases : (units i : ℕ) → ((size_of units i ≡ 1) × (units % 2 ≡ 1) × (i + 1 ≡ train_count units)) ⊎ ((size_of units i ≡ 2) × (units % 2 ≡ 1 → i + 1 ≡ train_count units → ⊥))
size_cases units i = ⊎_elim
    (λ is. let parts = and_parts (units % 2 == 1) (i + 1 == train_count units) is in inl
    (ap (λ b. cond b 1 2) is, eqb-true (units % 2) 1 parts.0, eqb-true (i + 1) (train_count units) parts.1))
    (λ is. inr (
      ap (λ b. cond b 1 2) is,
      λ odd last. false≢true (sym is ∙ and_from (units % 2 == 1) (i + 1 == train_count units) (eq-eqb (units % 2) 1 odd)
          (eq-eqb (i + 1) (train_count units) last)),
    ))
    (cases_Bool (units % 2 == 1 && i + 1 == train_count units))

-- with train i as many units are there as two for each train so far, but not more than there are to be
pub taken : (units i : ℕ) → i < train_count units → min (2 * i) units + size_of units i ≡ min (2 * (i + 1)) units
taken units i lt = ⊎_elim
    (λ h. omega (arith, h.0, h.1, h.2))
    (λ h. ⊎_elim
    (λ last. ⊎_elim (λ odd. absurd (h.1 odd last)) (λ even. omega (arith, h.0, last, even)) (cases_eq (units % 2) 1))
    (λ other. omega (arith, h.0, other)) (cases_eq (i + 1) (train_count units))) (size_cases units i)

sized : (x units n : ℕ) → n ≤ train_count units → unit_count (map (arriving_of x units) (range_with_len 0 n)) ≡ min (2 * n) units
sized x units zero le = omega arith
sized x units (suc n) le =
    let longer : suc n ≡ n + 1 = omega arith in
    let long : length (arriving_of x units n).units ≡ size_of units n = drawn_length kind_of (after x (2 * n)) (range_with_len 0 (size_of units n))
    ∙ length-range_with_len 0 (size_of units n) in
    let more : unit_count (map (arriving_of x units) (range_with_len 0 (suc n))) ≡ unit_count (map (arriving_of x units) (range_with_len 0 n)) + length
    (arriving_of x units n).units =
    ap (λ m. unit_count (map (arriving_of x units) (range_with_len 0 m))) longer
    ∙ ap unit_count (map-range_with_len_more (arriving_of x units) 0 n n (omega arith))
    ∙ sum_by_push (λ (t : Train). length t.units) (map (arriving_of x units) (range_with_len 0 n)) (arriving_of x units n) in
    omega (arith, more, long, sized x units n (omega arith), taken units n (omega arith))

arriving_units : (x units : ℕ) → unit_count (arriving x units) ≡ units
unfolding arriving
arriving_units x units = omega (arith, sized x units (train_count units) (omega arith))

departing_units : (x : ℕ) (arrive : List Train) → unit_count (departing x arrive) ≡ unit_count arrive
departing_units x arrive = same_sums length length-reverse x arrive

pub made_arrive : (y units : ℕ) → (length (timetable_of y units).arrive ≡ train_count units) × (unit_count (timetable_of y units).arrive ≡ units)
unfolding timetable_of
made_arrive y units = (arriving_length y units, arriving_units y units)

pub made_depart : (y units : ℕ) → (length (timetable_of y units).depart ≡ train_count units) × (unit_count (timetable_of y units).depart ≡ units)
unfolding timetable_of
made_depart y units = (departing_length (after y units) (arriving y units) ∙ arriving_length y units, departing_units (after y units) (arriving y units) ∙ arriving_units y units)

pub made_tracks : (x units : ℕ) → length (station_of x units).tracks ≡ track_count units
unfolding station_of
made_tracks x units = tracks_long x units

pub made_permits : (x units : ℕ) → (station_of x units).permits ≡ []
unfolding station_of
made_permits x units = refl
