-- What is true of each unit and position of an instance.
use Rattle.std.specs.Prelude.{All}
use Rattle.std.specs.List.Sorted.{IsNonDecreasingBy}
use Rattle.std.proofs.Common.{◌≡◌, ℕ, ◌+◌, ◌-◌, ◌<◌, ◌≤◌, List, length, get_or, take, sym, ap, ◌∙◌, subst, arith}
use Rattle.std.proofs.lemmas.List.{get_or-map, length-map}
use Rattle.shunt_base.specs.declared.ids.TypeId.{TypeId}
use Rattle.shunt_instance.specs.declared.records.Station.{Station}
use Rattle.shunt_instance.specs.declared.records.Train.{Train}
use Rattle.shunt_instance.specs.declared.records.Unit.{Unit as TrainUnit}
use Rattle.shunt_instance.specs.declared.records.Position.{Position}
use Rattle.shunt_instance.specs.defs.Words.{train_at, kind_at, minute_at, turn_of, unit_count}
use Rattle.shunt_instance.specs.defs.Wellformed.{AreTrains}
use Rattle.shunt_instance.specs.defs.Instance.{Night, IsOrderedNight, make_unit, make_position, units_of, positions_of, unit_at, position_at, ready_of, ready, leaves_of, leaves, first_unit, first_position, IsUnitAt, IsPositionAt}
use Rattle.shunt_instance.specs.defs.Matching.{Entry, entry_at, unit_entries, position_entries, RisesByKind}
use Rattle.shunt_instance.proofs.Numbers.{Stands, located, train_rises, numbered_at}

abbrev no_type : TypeId
no_type = record { 0 = 0 }

abbrev type_at : List Train → ℕ → ℕ → TypeId
type_at ts i p = get_or (train_at ts i).units p no_type

-- the type at a place is one of the station's
kind_in : (s : Station) (ts : List Train) (i p : ℕ) → AreTrains s ts → i < length ts → p < length (train_at ts i).units → (type_at ts i p).0 < length s.types
kind_in s ts i p h lt within = (h.each i _ lt).kinds p no_type within

there : (ts : List Train) (i p : ℕ) → type_at ts i p ≡ kind_at (train_at ts i) (p + 1)
there ts i p =
    let back : p + 1 - 1 ≡ p = omega arith in
    ap (λ (n : ℕ). get_or (train_at ts i).units n no_type) (sym back)

number_is : (c p u : ℕ) → u ≡ c + p → c + (p + 1) ≡ u + 1
number_is c p u e = omega arith

unit_is : (a b p : ℕ) (k : TypeId) → a ≡ b → make_unit a p k ≡ make_unit b p k
unit_is a b p k e = cc

position_is : (a b p : ℕ) (k : TypeId) → a ≡ b → make_position a p k ≡ make_position b p k
position_is a b p k e = cc

unit_facts : (night : Night) (u : ℕ) (x : TrainUnit) → IsOrderedNight night → Stands make_unit 0 night.arrive u x → IsUnitAt night u x
unit_facts night u x h s = subst (IsUnitAt night u) (sym (s.is ∙ unit_is (0 + s.i) s.i (s.p + 1) (type_at night.arrive s.i s.p) (omega arith))) record {
  train = s.i_in;
  placed = omega arith;
  place = omega (arith, s.p_in);
  kind = there night.arrive s.i s.p;
  kind_in = kind_in night.station night.arrive s.i s.p h.timetable.arrive s.i_in s.p_in;
  number = number_is (unit_count (take s.i night.arrive)) s.p u s.number;
}

position_facts : (night : Night) (v : ℕ) (x : Position) → IsOrderedNight night → Stands make_position 0 night.depart v x → IsPositionAt night v x
position_facts night v x h s = subst (IsPositionAt night v) (sym (s.is ∙ position_is (0 + s.i) s.i (s.p + 1) (type_at night.depart s.i s.p) (omega arith))) record {
  train = s.i_in;
  placed = omega arith;
  place = omega (arith, s.p_in);
  kind = there night.depart s.i s.p;
  kind_in = kind_in night.station night.depart s.i s.p h.timetable.depart s.i_in s.p_in;
  number = number_is (unit_count (take s.i night.depart)) s.p v s.number;
}

-- the unit and the position with a number are what their definitions say
pub unit_at_is : (night : Night) (u : ℕ) → IsOrderedNight night → u < length (units_of night.arrive) → IsUnitAt night u (unit_at night u)
unit_at_is night u h lt = unit_facts night u (unit_at night u) h (located make_unit 0 night.arrive u (make_unit 0 0 no_type) lt)

pub position_at_is : (night : Night) (v : ℕ) → IsOrderedNight night → v < length (positions_of night.depart) → IsPositionAt night v (position_at night v)
position_at_is night v h lt = position_facts night v (position_at night v) h (located make_position 0 night.depart v (make_position 0 0 no_type) lt)

-- the trains and types of these units are there
pub units_in : (s : Station) (ts : List Train) → AreTrains s ts → All (λ u. (u.train.0 < length ts) × (u.kind.0 < length s.types)) (units_of ts)
units_in s ts h k d lt =
    let at = located make_unit 0 ts k d lt in
    subst (λ (x : TrainUnit). (x.train.0 < length ts) × (x.kind.0 < length s.types)) (sym (at.is ∙ unit_is (0 + at.i) at.i (at.p + 1) (type_at ts at.i at.p) (omega arith)))
    (at.i_in, kind_in s ts at.i at.p h at.i_in at.p_in)

pub positions_in : (ts : List Train) → All (λ v. v.train.0 < length ts) (positions_of ts)
positions_in ts k d lt =
    let at = located make_position 0 ts k d lt in
    subst (λ (x : Position). x.train.0 < length ts) (sym (at.is ∙ position_is (0 + at.i) at.i (at.p + 1) (type_at ts at.i at.p) (omega arith))) at.i_in

-- the minutes of trains in their order rise
minute_rises : (ts : List Train) (i j : ℕ) → IsNonDecreasingBy (λ t. t.minute) ts → i ≤ j → j < length ts → minute_at ts i ≤ minute_at ts j
minute_rises ts i j h le lt = rw (get_or-map (λ (t : Train). t.minute) ts i (train_at ts j) 0 (omega arith), get_or-map (λ (t : Train). t.minute) ts j (train_at ts j) 0 lt)
    (h i j (train_at ts j) le lt)

turn_same : (s : Station) (k l : TypeId) → k.0 ≡ l.0 → turn_of s k ≡ turn_of s l
turn_same s k l e = ap (λ (n : ℕ). turn_of s (record { 0 = n })) e

le_along : (a b c d : ℕ) → a ≡ b → c ≡ d → b ≤ d → a ≤ c
le_along a b c d e f le = omega arith

-- a later unit's train is no earlier
unit_trains : (ts : List Train) (i j : ℕ) → i ≤ j → j < length (units_of ts) → ((get_or (units_of ts) i (make_unit 0 0 no_type)).train.0 ≤
    (get_or (units_of ts) j (make_unit 0 0 no_type)).train.0) × ((get_or (units_of ts) j (make_unit 0 0 no_type)).train.0 < length ts)
unit_trains ts i j le lt =
    let x = get_or (units_of ts) i (make_unit 0 0 no_type) in
    let y = get_or (units_of ts) j (make_unit 0 0 no_type) in
    let s = located make_unit 0 ts i (make_unit 0 0 no_type) (omega arith) in
    let t = located make_unit 0 ts j (make_unit 0 0 no_type) lt in
    let first : x.train.0 ≡ 0 + s.i = ap (λ (u : TrainUnit). u.train.0) s.is in
    let second : y.train.0 ≡ 0 + t.i = ap (λ (u : TrainUnit). u.train.0) t.is in
    (omega (arith, first, second, train_rises make_unit 0 ts i j x y s t le), omega (arith, second, t.i_in))

position_trains : (ts : List Train) (i j : ℕ) → i ≤ j → j < length (positions_of ts)
    → ((get_or (positions_of ts) i (make_position 0 0 no_type)).train.0 ≤ (get_or (positions_of ts) j (make_position 0 0 no_type)).train.0)
    × ((get_or (positions_of ts) j (make_position 0 0 no_type)).train.0 < length ts)
position_trains ts i j le lt =
    let x = get_or (positions_of ts) i (make_position 0 0 no_type) in
    let y = get_or (positions_of ts) j (make_position 0 0 no_type) in
    let s = located make_position 0 ts i (make_position 0 0 no_type) (omega arith) in
    let t = located make_position 0 ts j (make_position 0 0 no_type) lt in
    let first : x.train.0 ≡ 0 + s.i = ap (λ (u : Position). u.train.0) s.is in
    let second : y.train.0 ≡ 0 + t.i = ap (λ (u : Position). u.train.0) t.is in
    (omega (arith, first, second, train_rises make_position 0 ts i j x y s t le), omega (arith, second, t.i_in))

-- of two units of one type the later one is ready no earlier
pub ready_rises : (night : Night) (i j : ℕ) → IsOrderedNight night → i ≤ j → j < length (units_of night.arrive) → (unit_at night i).kind.0 ≡ (unit_at night j).kind.0
    → ready night i ≤ ready night j
ready_rises night i j h le lt same =
    let t = unit_trains night.arrive i j le lt in
    let minutes = minute_rises night.arrive (unit_at night i).train.0 (unit_at night j).train.0 h.arrive_rises t.0 t.1 in
    let turns = turn_same night.station (unit_at night i).kind (unit_at night j).kind same in
    omega (arith, minutes, turns)

-- a later position leaves no earlier
pub leaves_rise : (night : Night) (i j : ℕ) → IsOrderedNight night → i ≤ j → j < length (positions_of night.depart) → leaves night i ≤ leaves night j
leaves_rise night i j h le lt =
    let t = position_trains night.depart i j le lt in
    minute_rises night.depart (position_at night i).train.0 (position_at night j).train.0 h.depart_rises t.0 t.1

abbrev unit_entry : Night → TrainUnit → Entry
unit_entry night u = record { kind = u.kind.0; minute = ready_of night.station night.arrive u }

abbrev position_entry : Night → Position → Entry
position_entry night v = record { kind = v.kind.0; minute = leaves_of night.depart v }

-- the entries of an instance by their numbers
pub unit_entry_is : (night : Night) (u : ℕ) → u < length (units_of night.arrive) → entry_at (unit_entries night) u
    ≡ record { kind = (unit_at night u).kind.0; minute = ready night u }
unit_entry_is night u lt = get_or-map (unit_entry night) (units_of night.arrive) u (make_unit 0 0 no_type) (record { kind = 0; minute = 0 }) lt

pub position_entry_is : (night : Night) (v : ℕ) → v < length (positions_of night.depart)
    → entry_at (position_entries night) v ≡ record { kind = (position_at night v).kind.0; minute = leaves night v }
position_entry_is night v lt = get_or-map (position_entry night) (positions_of night.depart) v (make_position 0 0 no_type) (record { kind = 0; minute = 0 }) lt

pub units_rise : (night : Night) → IsOrderedNight night → RisesByKind (unit_entries night)
units_rise night h i j le lt same =
    let within : j < length (units_of night.arrive) = rw length-map at lt in
    let before : i < length (units_of night.arrive) = omega arith in
    let one = unit_entry_is night i before in
    let two = unit_entry_is night j within in
    le_along _ _ _ _ (ap (λ (e : Entry). e.minute) one) (ap (λ (e : Entry). e.minute) two)
    (ready_rises night i j h (omega arith) within (sym (ap (λ (e : Entry). e.kind) one) ∙ same ∙ ap (λ (e : Entry). e.kind) two))

pub positions_rise : (night : Night) → IsOrderedNight night → RisesByKind (position_entries night)
positions_rise night h i j le lt same =
    let within : j < length (positions_of night.depart) = rw length-map at lt in
    let before : i < length (positions_of night.depart) = omega arith in
    let one = position_entry_is night i before in
    let two = position_entry_is night j within in
    le_along _ _ _ _ (ap (λ (e : Entry). e.minute) one) (ap (λ (e : Entry). e.minute) two) (leaves_rise night i j h (omega arith) within)

-- the unit and the position at a place of a train
pub unit_there : (night : Night) (a q : ℕ) → a < length night.arrive → 1 ≤ q → q ≤ length (train_at night.arrive a).units
    → unit_at night (first_unit night a + (q - 1)) ≡ make_unit a q (kind_at (train_at night.arrive a) q)
unit_there night a q lt some within =
    let again : q - 1 + 1 ≡ q = omega arith in
    numbered_at make_unit 0 night.arrive a (q - 1) (make_unit 0 0 no_type) lt (omega arith) ∙ unit_is (0 + a) a (q - 1 + 1) (type_at night.arrive a (q - 1)) (omega arith)
    ∙ ap (λ (n : ℕ). make_unit a n (kind_at (train_at night.arrive a) q)) again

pub position_there : (night : Night) (d q : ℕ) → d < length night.depart → 1 ≤ q → q ≤ length (train_at night.depart d).units
    → position_at night (first_position night d + (q - 1)) ≡ make_position d q (kind_at (train_at night.depart d) q)
position_there night d q lt some within =
    let again : q - 1 + 1 ≡ q = omega arith in
    numbered_at make_position 0 night.depart d (q - 1) (make_position 0 0 no_type) lt (omega arith)
    ∙ position_is (0 + d) d (q - 1 + 1) (type_at night.depart d (q - 1)) (omega arith) ∙ ap (λ (n : ℕ). make_position d n (kind_at (train_at night.depart d) q)) again
