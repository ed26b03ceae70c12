-- The events of each night have numbers.
use Rattle.std.proofs.Common.{⊎_elim, ℕ, ◌+◌, ◌-◌, ◌*◌, ◌<◌, ◌≤◌, List, length, take, ap, arith}
use Rattle.std.proofs.lemmas.Bool.{cases_lt}
use Rattle.shunt_instance.specs.declared.records.Train.{Train}
use Rattle.shunt_instance.specs.defs.Words.{train_at, unit_count}
use Rattle.shunt_instance.specs.defs.Wellformed.{IsTrain}
use Rattle.shunt_instance.specs.defs.Instance.{Night, IsInstance, IsOrderedNight, IsUnitAt, IsPositionAt, unit_at, position_at, unit_total, position_total}
use Rattle.shunt_stacks.specs.defs.Numbers.{arrives, departs, IsNumbering, entry_number, leave_number}

-- what the laws of the crates below say
pub record NumberLaws : Type 0 where
  pub opened : (night : Night) → IsInstance night → IsOrderedNight night
  pub unit : (night : Night) (u : ℕ) → IsInstance night → u < unit_total night → IsUnitAt night u (unit_at night u)
  pub position : (night : Night) (v : ℕ) → IsInstance night → v < position_total night → IsPositionAt night v (position_at night v)
  pub units_few : (night : Night) → IsInstance night → unit_total night ≤ 160
  pub behind : (trains : List Train) (i j : ℕ) → i < j → i < length trains → unit_count (take i trains) + length (train_at trains i).units ≤ unit_count (take j trains)

module _ (laws : NumberLaws) (night : Night) (i : IsInstance night) where
  h : IsOrderedNight night
  h = laws.opened night i

  train_rises : (u w : ℕ) → u < w → w < unit_total night → (unit_at night u).train.0 ≤ (unit_at night w).train.0
  train_rises u w lt within =
      let x = laws.unit night u i (omega (arith, lt, within)) in
      let y = laws.unit night w i within in
      ⊎_elim
      (λ more. absurd (omega (arith, laws.behind night.arrive (unit_at night w).train.0 (unit_at night u).train.0 more y.train, x.number, y.number, y.place, x.placed, lt)))
      (λ le. le)
      (cases_lt (unit_at night w).train.0 (unit_at night u).train.0)

  arrival_rises : (u w : ℕ) → u < w → w < unit_total night → arrives night u ≤ arrives night w
  arrival_rises u w lt within = h.arrive_rises (unit_at night u).train.0 (unit_at night w).train.0 _ (train_rises u w lt within) (laws.unit night w i within).train

  departure_rises : (t u : ℕ) → t ≤ u → u < length night.depart → (train_at night.depart t).minute ≤ (train_at night.depart u).minute
  departure_rises t u le lt = h.depart_rises t u _ le lt

  arrival_small : (u : ℕ) → u < unit_total night → arrives night u < 2880
  arrival_small u within = let t : IsTrain night.station (train_at night.arrive (unit_at night u).train.0) = h.timetable.arrive.each (unit_at night u).train.0 _
      (laws.unit night u i within).train in t.minute

  departure_small : (v : ℕ) → v < position_total night → departs night v < 2880
  departure_small v within = let t : IsTrain night.station (train_at night.depart (position_at night v).train.0) = h.timetable.depart.each (position_at night v).train.0 _
      (laws.position night v i within).train in t.minute

  place_small : (v : ℕ) → v < position_total night → (position_at night v).place ≤ 8
  place_small v within =
      let x = laws.position night v i within in
      let t : IsTrain night.station (train_at night.depart (position_at night v).train.0) = h.timetable.depart.each (position_at night v).train.0 _ x.train in
      omega (arith, x.place, t.few)

  number_small : (v : ℕ) → v < position_total night → 8 * (position_at night v).train.0 + (8 - (position_at night v).place) < 1000
  number_small v within = omega (arith, (laws.position night v i within).train, h.timetable.depart.few)

  pub numbered : IsNumbering night 5760000 (entry_number night) (leave_number night)
  numbered = record {
    entries = λ u w lt within. omega (arith, arrival_rises u w lt within, lt);
    leaves = λ v w a b before. ⊎_elim
        (λ lt. omega (
          arith,
          departure_rises (position_at night v).train.0 (position_at night w).train.0 (omega (arith, lt)) (laws.position night w i b).train,
          lt,
          (laws.position night v i a).placed,
        ))
        (λ same.
        let minutes = ap (λ (t : ℕ). (train_at night.depart t).minute) same.0 in
        omega (arith, minutes, same.0, same.1, place_small v a))
        before;
    leave_first = λ u v a b le. omega (arith, le, number_small v b);
    entry_first = λ u v a b lt. omega (arith, lt, a, laws.units_few night i);
    entries_in = λ u a. omega (arith, a, laws.units_few night i, arrival_small u a);
    leaves_in = λ v b. omega (arith, number_small v b, departure_small v b);
  }
