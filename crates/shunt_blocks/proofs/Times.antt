-- Blocks that aren't too soon enter before they leave.
use Rattle.std.specs.Prelude.{IfSome, map, if◌then◌else◌, Option, Some, None}
use Rattle.std.specs.Ordering.{nat_cmp, bool_cmp, ordering_then}
use Rattle.std.specs.declared.cmp.Ordering.{Ordering}
use Rattle.std.specs.declared.cmp.Ordering.TheVariants.{Less}
use Rattle.std.proofs.Common.{◌≡◌, ⊎_elim, ℕ, ◌+◌, ◌-◌, ◌*◌, ◌^◌, ◌<◌, ◌≤◌, Bool, true, false, List, [], length, refl, sym, ap, subst, ◌∙◌, arith}
use Rattle.std.proofs.lemmas.Bool.{cases_lt, leb-true, not-false}
use Rattle.std.proofs.lemmas.Bool.Decides.{nat_tests}
use Rattle.std.proofs.lemmas.List.{get_or-map, get_or_past, length-map}
use Rattle.shunt_lists.proofs.SumsBelow.{sum_below-small}
use Rattle.shunt_lists.proofs.TestsBelow.{each_passes}
use Rattle.shunt_base.specs.declared.ids.TypeId.{TypeId}
use Rattle.shunt_base.specs.declared.keys.EventKey.{EventKey}
use Rattle.shunt_base.specs.declared.keys.Stay.{Stay}
use Rattle.shunt_base.specs.defs.Keys.{IsBefore, IsWellFormed}
use Rattle.shunt_instance.specs.declared.records.Station.{Station}
use Rattle.shunt_instance.specs.declared.records.Train.{Train}
use Rattle.shunt_instance.specs.declared.records.UnitType.{UnitType}
use Rattle.shunt_instance.specs.declared.records.Unit.{Unit as TrainUnit}
use Rattle.shunt_instance.specs.declared.records.Position.{Position}
use Rattle.shunt_instance.specs.defs.Words.{train_at, kind_at, minute_at, turn_of}
use Rattle.shunt_instance.specs.defs.Wellformed.{IsStation, IsTrain}
use Rattle.shunt_instance.specs.defs.Instance.{Night, IsInstance, IsOrderedNight, make_unit, make_position, unit_at, position_at, ready, leaves, first_unit, first_position}
use Rattle.shunt_instance.proofs.Facts.{unit_there, position_there}
use Rattle.shunt_blocks.specs.declared.records.Shape.{Shape}
use Rattle.shunt_blocks.specs.declared.records.Block.{Block}
use Rattle.shunt_blocks.specs.declared.records.Park.{Park}
use Rattle.shunt_blocks.specs.defs.Shapes.{shape_of, AreRunsWithin, IsOnTrack, IsWithinTrains, unit_from, position_from}
use Rattle.shunt_blocks.specs.defs.Stays.{length_of, shape_length, leave_minute, is_too_soon, enter_key, leave_key, parked_stay, stay_with, stay_of}

-- ---- trains, units and positions

pub minute_is : (ts : List Train) (k : ℕ) → k < length ts → minute_at ts k ≡ (train_at ts k).minute
minute_is ts k lt = get_or-map (λ (t : Train). t.minute) ts k _ 0 lt

pub arrival : (night : Night) (a : ℕ) → IsOrderedNight night → a < length night.arrive → IsTrain night.station (train_at night.arrive a)
arrival night a h lt = h.timetable.arrive.each a _ lt

pub departure : (night : Night) (d : ℕ) → IsOrderedNight night → d < length night.depart → IsTrain night.station (train_at night.depart d)
departure night d h lt = h.timetable.depart.each d _ lt

abbrev no_type : UnitType
no_type = record { name = []; length = 0; turn = 0 }

pub turn_some : (s : Station) (kind : TypeId) → IsStation s → kind.0 < length s.types → 1 ≤ turn_of s kind
turn_some s kind h lt = omega (arith, get_or-map (λ (t : UnitType). t.turn) s.types kind.0 no_type 0 lt, (h.types kind.0 no_type lt).turns)

pub unit_is : (night : Night) (s : Shape) (k : ℕ) → AreRunsWithin night s → k < s.n
    → unit_at night (unit_from night s + k) ≡ make_unit s.arr.0 (s.p + k) (kind_at (train_at night.arrive s.arr.0) (s.p + k))
unit_is night s k h lt =
    let at : first_unit night s.arr.0 + (s.p + k - 1) ≡ unit_from night s + k = omega (arith, h.p) in
    subst (λ (u : ℕ). unit_at night u ≡ make_unit s.arr.0 (s.p + k) (kind_at (train_at night.arrive s.arr.0) (s.p + k))) at
    (unit_there night s.arr.0 (s.p + k) h.arr (omega (arith, h.p)) (omega (arith, h.units, lt)))

pub position_is : (night : Night) (s : Shape) (k : ℕ) → AreRunsWithin night s → k < s.n
    → position_at night (position_from night s + k) ≡ make_position s.dep.0 (s.q + k) (kind_at (train_at night.depart s.dep.0) (s.q + k))
position_is night s k h lt =
    let at : first_position night s.dep.0 + (s.q + k - 1) ≡ position_from night s + k = omega (arith, h.q) in
    subst (λ (v : ℕ). position_at night v ≡ make_position s.dep.0 (s.q + k) (kind_at (train_at night.depart s.dep.0) (s.q + k))) at
    (position_there night s.dep.0 (s.q + k) h.dep (omega (arith, h.q)) (omega (arith, h.positions, lt)))

pub leaves_is : (night : Night) (s : Shape) (k : ℕ) → AreRunsWithin night s → k < s.n → leaves night (position_from night s + k) ≡ leave_minute night s
leaves_is night s k h lt = ap (λ (v : Position). minute_at night.depart v.train.0) (position_is night s k h lt) ∙ minute_is night.depart s.dep.0 h.dep

pub ready_is : (night : Night) (s : Shape) (k : ℕ) → AreRunsWithin night s → k < s.n
    → ready night (unit_from night s + k) ≡ (train_at night.arrive s.arr.0).minute + turn_of night.station (kind_at (train_at night.arrive s.arr.0) (s.p + k))
ready_is night s k h lt = ap (λ (u : TrainUnit). minute_at night.arrive u.train.0 + turn_of night.station u.kind) (unit_is night s k h lt)
    ∙ ap (λ (m : ℕ). m + turn_of night.station (kind_at (train_at night.arrive s.arr.0) (s.p + k))) (minute_is night.arrive s.arr.0 h.arr)

pub kind_there : (night : Night) (s : Shape) (k : ℕ) → IsOrderedNight night → AreRunsWithin night s → k < s.n
    → (kind_at (train_at night.arrive s.arr.0) (s.p + k)).0 < length night.station.types
kind_there night s k h r lt = (arrival night s.arr.0 h r.arr).kinds (s.p + k - 1) _ (omega (arith, r.p, r.units, lt))

pub ready_in_time : (night : Night) (s : Shape) (k : ℕ) → is_too_soon night s ≡ false → k < s.n → ready night (unit_from night s + k) ≤ leave_minute night s
ready_in_time night s k soon lt = leb-true _ _ (each_passes s.n _ (not-false _ soon) k lt)

enters_first : (night : Night) (s : Shape) → IsOrderedNight night → AreRunsWithin night s → is_too_soon night s ≡ false
    → (train_at night.arrive s.arr.0).minute < leave_minute night s
enters_first night s h r soon = omega (
  arith,
  ready_in_time night s 0 soon (omega (arith, r.n)),
  ready_is night s 0 r (omega (arith, r.n)),
  turn_some night.station (kind_at (train_at night.arrive s.arr.0) (s.p + 0)) h.station (kind_there night s 0 h r (omega (arith, r.n))),
)

-- ---- lengths

pub length_small : (s : Station) (kind : TypeId) → IsStation s → length_of s kind ≤ 5000
length_small s kind h = ⊎_elim
    (λ lt. omega (arith, get_or-map (λ (t : UnitType). t.length) s.types kind.0 no_type 0 lt, (h.types kind.0 no_type lt).long))
    (λ le. omega (arith, get_or_past (map (λ (t : UnitType). t.length) s.types) kind.0 0 (rw length-map le)))
    (cases_lt kind.0 (length s.types))

block_small : (night : Night) (b : Block) → IsOrderedNight night → shape_length night (shape_of b) ≤ 5000 * b.n
block_small night b h = sum_below-small b.n 5000 _ (λ k. length_small night.station (unit_at night (unit_from night (shape_of b) + k)).kind h.station)

-- ---- stays

pub before : (k l : EventKey) → k.minute < l.minute → IsBefore k l
before k l lt = ap (λ (o : Ordering). ordering_then o (ordering_then (bool_cmp k.enters l.enters)
    (ordering_then (nat_cmp k.train l.train) (ordering_then (nat_cmp k.place l.place) (nat_cmp k.id l.id))))) (less k.minute l.minute lt)
  where
    less : (a b : ℕ) → a < b → nat_cmp a b ≡ Less
    less a b lt = grind (arith, nat_tests)

well_formed : (night : Night) (b : Block) (k : Park) → IsOrderedNight night → AreRunsWithin night (shape_of b) → b.id < 2 ^ 32 → k.track.0 < length night.station.tracks
    → is_too_soon night (shape_of b) ≡ false → IsWellFormed (parked_stay night b k)
well_formed night b k h r id track soon =
    let a = arrival night b.arr.0 h r.arr in
    let d = departure night b.dep.0 h r.dep in
    record {
      enters = refl;
      leaves = refl;
      enter_id = refl;
      leave_id = refl;
      later = before (enter_key night b) (leave_key night b) (enters_first night (shape_of b) h r soon);
      enter_in = record { minute = omega (arith, a.minute); train = omega (arith, r.arr, h.timetable.arrive.few); place = omega (arith, r.units, r.n, a.few); id = id };
      leave_in = record { minute = omega (arith, d.minute); train = omega (arith, r.dep, h.timetable.depart.few); place = omega arith; id = id };
      length_in = omega (arith, block_small night b h, r.n, r.p, r.units, a.few);
      track_in = omega (arith, track, h.station.few_tracks);
    }

if_formed : (soon : Bool) (s : Stay) → (soon ≡ false → IsWellFormed s) → IfSome (if soon then None else Some s) IsWellFormed
if_formed true s h = tt
if_formed false s h = h refl

with_formed : (night : Night) (b : Block) (o : Option Park) → IsOrderedNight night → AreRunsWithin night (shape_of b) → b.id < 2 ^ 32 → IsOnTrack night.station o
    → IfSome (stay_with night b o) IsWellFormed
with_formed night b None h r id track = tt
with_formed night b (Some k) h r id track = if_formed (is_too_soon night (shape_of b)) (parked_stay night b k) (λ soon. well_formed night b k h r id track soon)

pub stay_formed : (night : Night) (b : Block) → IsInstance night → IsWithinTrains night b → b.id < 2 ^ 32 → IfSome (stay_of night b) IsWellFormed
unfolding IsInstance
stay_formed night b h w id = with_formed night b b.park h w.runs id w.track

-- the same of the stay that a call gives
pub given_formed : (night : Night) (b : Block) (o : Option Stay) → o ≡ stay_of night b → IsInstance night → IsWithinTrains night b → IfSome o (λ s. b.id < 2 ^ 32)
    → IfSome o IsWellFormed
given_formed night b None e h w id = tt
given_formed night b (Some s) e h w id = subst (λ (p : Option Stay). IfSome p IsWellFormed) (sym e) (stay_formed night b h w id)
