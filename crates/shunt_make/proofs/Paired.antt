-- A made night has a matching.
use Rattle.std.proofs.Common.{◌≡◌, ⊎_elim, ℕ, ◌<◌, ◌≤◌, Bool, true, false, ◌&&◌, List, [], ◌∷◌, length, map, get_or, refl, sym, ap, ◌∙◌, leb, arith, sum_by}
use Rattle.std.specs.Prelude.{All, codes}
use Rattle.std.proofs.lemmas.Bool.{cases_lt, and_parts, and_from, le-leb, lt-leb}
use Rattle.std.proofs.lemmas.List.{length-map}
use Rattle.std.proofs.lemmas.List.Elements.{All-nil, All-cons, All-map, All-weaker}
use Rattle.std.proofs.lemmas.List.Sorted.{All-permutation, sum_by-IsPermutation}
use Rattle.shunt_lists.proofs.CountsBelow.{count_below-le, count_below-none}
use Rattle.shunt_instance.specs.declared.records.UnitType.{UnitType}
use Rattle.shunt_instance.specs.declared.records.Station.{Station}
use Rattle.shunt_instance.specs.declared.records.Train.{Train}
use Rattle.shunt_instance.specs.declared.records.Timetable.{Timetable}
use Rattle.shunt_instance.specs.defs.Words.{minute_at, is_standing}
use Rattle.shunt_instance.specs.defs.Wellformed.{IsStation, IsTimetable}
use Rattle.shunt_instance.specs.defs.Instance.{sort_by_minute, Night, night_of, IsOrderedNight, make_unit, make_position, units_of, positions_of, unit_at, position_at, ready_of, leaves_of, ready, leaves}
use Rattle.shunt_instance.specs.defs.Matching.{Entry, entry_at, unit_entries, position_entries}
use Rattle.shunt_instance.proofs.Orders.{sort_moves, night_is}
use Rattle.shunt_instance.proofs.Facts.{unit_at_is, position_at_is, unit_entry_is, position_entry_is, units_rise, positions_rise}
use Rattle.shunt_matching.specs.defs.Counts.{is_of_kind, is_by_minute, count_of_kind, IsBalanced, first_fit_of}
use Rattle.shunt_matching.specs.defs.Nights.{HasMatching}
use Rattle.shunt_matching.proofs.ByCounts.{matched}
use Rattle.shunt_matching.proofs.Nights.{length-unit_entries, length-position_entries}
use Rattle.shunt_make.specs.defs.Draws.{after}
use Rattle.shunt_make.specs.defs.Made.{unit_types, arriving, departing, timetable_of, station_of}
use Rattle.shunt_make.proofs.Formed.{station_formed}
use Rattle.shunt_make.proofs.Timed.{IsMade, arriving_all, arriving_length, departing_all, timetable_formed}
use Rattle.shunt_make.proofs.Counted.{own, count_of_trains, same_units}

and_false : (a b : Bool) → b ≡ false → (a && b) ≡ false
and_false true b e = e
and_false false b e = refl

-- where each type has as many units as positions, and all units are ready before any position leaves, the counts allow a matching
in_time : (us vs : List Entry) (noon : ℕ) → ((kind : ℕ) → count_of_kind us [] kind ≡ count_of_kind vs [] kind) → ((i : ℕ) → i < length us → (entry_at us i).minute ≤ noon)
    → ((i : ℕ) → i < length vs → noon ≤ (entry_at vs i).minute) → IsBalanced us vs [] []
in_time us vs noon same before behind = record {
  same = same;
  enough = λ kind m. ⊎_elim
      (λ early. omega (
        arith,
        count_below-none (length vs) (is_by_minute vs [] kind m)
            (λ i lt. and_false (is_of_kind vs [] kind i) (leb (entry_at vs i).minute m) (lt-leb (entry_at vs i).minute m (omega (arith, behind i lt)))),
      ))
      (λ late. omega (
        arith,
        same kind,
        count_below-le (length vs) (is_by_minute vs [] kind m) (is_of_kind vs [] kind) (λ i lt passes. (and_parts _ _ passes).0),
        count_below-le (length us) (is_of_kind us [] kind) (is_by_minute us [] kind m)
            (λ i lt passes. and_from _ _ passes (le-leb (entry_at us i).minute m (omega (arith, before i lt)))),
      )) (cases_lt m noon);
}

-- ---- minutes

minutes_at : (P : ℕ → Type 0) (ts : List Train) (k : ℕ) → All (λ t. P t.minute) ts → k < length ts → P (minute_at ts k)
minutes_at P ts k all lt = All-map P (λ (t : Train). t.minute) ts all k 0 (omega (arith, length-map ts (λ (t : Train). t.minute)))

turns_at : (s : Station) (k : ℕ) → All (λ (t : UnitType). t.turn ≤ 30) s.types → k < length s.types → get_or (map (λ (t : UnitType). t.turn) s.types) k 0 ≤ 30
turns_at s k all lt = All-map (λ n. n ≤ 30) (λ (t : UnitType). t.turn) s.types all k 0 (omega (arith, length-map s.types (λ (t : UnitType). t.turn)))

module _ (night : Night) (is : IsOrderedNight night) where
  ready_by : (u : ℕ) → u < length (units_of night.arrive) → All (λ t. t.minute ≤ 1674) night.arrive → All (λ (t : UnitType). t.turn ≤ 30) night.station.types → ready night u ≤ 1704
  ready_by u lt early quick =
      let at = unit_at_is night u is lt in
      omega (arith, minutes_at (λ m. m ≤ 1674) night.arrive (unit_at night u).train.0 early at.train, turns_at night.station (unit_at night u).kind.0 quick at.kind_in)

  leaves_from : (v : ℕ) → v < length (positions_of night.depart) → All (λ t. 1740 ≤ t.minute) night.depart → 1740 ≤ leaves night v
  leaves_from v lt late = minutes_at (λ m. 1740 ≤ m) night.depart (position_at night v).train.0 late (position_at_is night v is lt).train

  -- types, trains that come early and trains that leave late
  matching : All (λ t. t.minute ≤ 1674) night.arrive → All (λ t. 1740 ≤ t.minute) night.depart → All (λ (t : UnitType). t.turn ≤ 30) night.station.types
      → ((kind : ℕ) → count_of_kind (unit_entries night) [] kind ≡ count_of_kind (position_entries night) [] kind) → HasMatching night [] []
  matching early late quick same = (
    first_fit_of (unit_entries night) (position_entries night) [] [],
    matched (unit_entries night) (position_entries night) [] [] (units_rise night is) (positions_rise night is)
        (in_time (unit_entries night) (position_entries night) 1740 same
        (λ i lt.
        let there : i < length (units_of night.arrive) = omega (arith, length-unit_entries night) in
        let by = ready_by i there early quick in
        let minute : (entry_at (unit_entries night) i).minute ≡ ready night i = ap (λ (e : Entry). e.minute) (unit_entry_is night i there) in
        omega arith)
        (λ i lt.
        let there : i < length (positions_of night.depart) = omega (arith, length-position_entries night) in
        let from = leaves_from i there late in
        let minute : (entry_at (position_entries night) i).minute ≡ leaves night i = ap (λ (e : Entry). e.minute) (position_entry_is night i there) in
        omega arith)),
  )

quick_types : All (λ (t : UnitType). t.turn ≤ 30) unit_types
quick_types =
    All-cons (λ (t : UnitType). t.turn ≤ 30) (record { name = codes "K"; length = 250; turn = 10 })
    (record { name = codes "L"; length = 500; turn = 20 } ∷ record { name = codes "M"; length = 750; turn = 30 } ∷ []) (omega arith)
    (All-cons (λ (t : UnitType). t.turn ≤ 30) (record { name = codes "L"; length = 500; turn = 20 }) (record { name = codes "M"; length = 750; turn = 30 } ∷ []) (omega arith)
    (All-cons (λ (t : UnitType). t.turn ≤ 30) (record { name = codes "M"; length = 750; turn = 30 }) [] (omega arith) (All-nil (λ (t : UnitType). t.turn ≤ 30))))

-- a station and trains with as many units of each type
same_counts : (s : Station) (t : Timetable) → ((kind : ℕ) → sum_by (own kind) t.depart ≡ sum_by (own kind) t.arrive) → (kind : ℕ)
    → count_of_kind (unit_entries (night_of s t)) [] kind ≡ count_of_kind (position_entries (night_of s t)) [] kind
same_counts s t same kind =
    count_of_trains make_unit (λ u. record { kind = u.kind.0; minute = ready_of s (sort_by_minute t.arrive) u }) (λ a p k. refl) kind (sort_by_minute t.arrive)
    ∙ sum_by-IsPermutation (own kind) t.arrive (sort_by_minute t.arrive) (sort_moves t.arrive)
    ∙ sym (same kind)
    ∙ sym (sum_by-IsPermutation (own kind) t.depart (sort_by_minute t.depart) (sort_moves t.depart))
    ∙ sym (count_of_trains make_position (λ v. record { kind = v.kind.0; minute = leaves_of (sort_by_minute t.depart) v }) (λ a p k. refl) kind (sort_by_minute t.depart))

night_matched : (s : Station) (t : Timetable) → IsStation s → IsTimetable s t → All (λ r. r.minute ≤ 1674) t.arrive → All (λ r. 1740 ≤ r.minute) t.depart
    → All (λ (r : UnitType). r.turn ≤ 30) s.types → ((kind : ℕ) → sum_by (own kind) t.depart ≡ sum_by (own kind) t.arrive) → HasMatching (night_of s t) [] []
night_matched s t station timetable early late quick same =
    matching (night_of s t) (night_is s t station timetable)
    (All-permutation (λ r. r.minute ≤ 1674) t.arrive (sort_by_minute t.arrive) (sort_moves t.arrive) early)
    (All-permutation (λ r. 1740 ≤ r.minute) t.depart (sort_by_minute t.depart) (sort_moves t.depart) late) quick (same_counts s t same)

-- what a made station has for its trains
pub two_platforms : (x units : ℕ) → length (station_of x units).platforms ≡ 2
unfolding station_of
two_platforms x units = refl

pub three_types : (x units : ℕ) → 3 ≤ length (station_of x units).types
unfolding station_of
three_types x units = omega arith

quick_station : (x units : ℕ) → All (λ (t : UnitType). t.turn ≤ 30) (station_of x units).types
unfolding station_of
quick_station x units = quick_types

same_trains : (y units kind : ℕ) → sum_by (own kind) (timetable_of y units).depart ≡ sum_by (own kind) (timetable_of y units).arrive
unfolding timetable_of
same_trains y units kind = same_units (after y units) kind (arriving y units)

early_trains : (s : Station) (y units : ℕ) → length s.platforms ≡ 2 → units ≤ 160 → All (λ r. r.minute ≤ 1674) (timetable_of y units).arrive
unfolding timetable_of
early_trains s y units two few = All-weaker (IsMade s 1200) (λ r. r.minute ≤ 1674) (λ r m. omega (arith, m.until)) (arriving y units) (arriving_all s y units two few)

late_trains : (s : Station) (y units : ℕ) → length s.platforms ≡ 2 → units ≤ 160 → All (λ r. 1740 ≤ r.minute) (timetable_of y units).depart
unfolding timetable_of
late_trains s y units two few =
    All-weaker (IsMade s 1740) (λ r. 1740 ≤ r.minute) (λ r m. omega (arith, m.from)) (departing (after y units) (arriving y units))
    (departing_all s (after y units) (arriving y units) two (arriving_all s y units two few) (omega (arith, arriving_length y units)))

pub made_formed : (x y units : ℕ) → units ≤ 160 → IsTimetable (station_of x units) (timetable_of y units)
made_formed x y units few = timetable_formed (station_of x units) y units (two_platforms x units) (three_types x units) few

pub made_matched : (x y units : ℕ) → units ≤ 160 → HasMatching (night_of (station_of x units) (timetable_of y units)) [] []
made_matched x y units few =
    night_matched (station_of x units) (timetable_of y units) (station_formed x units few) (made_formed x y units few)
    (early_trains (station_of x units) y units (two_platforms x units) few)
    (late_trains (station_of x units) y units (two_platforms x units) few)
    (quick_station x units) (same_trains y units)

pub made_moving : (y units : ℕ) → units ≤ 160 → All (λ t. is_standing t ≡ false) (timetable_of y units).arrive
unfolding timetable_of
made_moving y units few = All-weaker (IsMade (station_of 0 0) 1200) (λ t. is_standing t ≡ false) (λ t m. m.moving) (arriving y units)
    (arriving_all (station_of 0 0) y units (two_platforms 0 0) few)
