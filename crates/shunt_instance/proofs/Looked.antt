-- What is read from the tables of an instance.
use Rattle.std.specs.Prelude.{Option, None, Some, IfSome, IsTrue, slice_get, option_map, position, bytes_eq}
use Rattle.std.proofs.Common.{◌≡◌, ℕ, ◌+◌, ◌<◌, ◌≤◌, Bool, false, List, [], length, map, get_or, take, sym, ap, ◌∙◌, subst, arith, refl}
use Rattle.std.proofs.lemmas.List.{get_or-map}
use Rattle.std.proofs.lemmas.Grind.{get_or_default_zero}
use Rattle.std.proofs.lemmas.List.Sums.{sum_by_more_le}
use Rattle.std.proofs.lemmas.Option.{get_or_from_slice_get, slice_get_read}
use Rattle.shunt_lists.specs.defs.Members.{AreDistinct}
use Rattle.shunt_base.specs.declared.ids.ArrId.{ArrId}
use Rattle.shunt_base.specs.declared.ids.DepId.{DepId}
use Rattle.shunt_base.specs.declared.ids.PlatformId.{PlatformId}
use Rattle.shunt_base.specs.declared.ids.TrackId.{TrackId}
use Rattle.shunt_base.specs.declared.ids.Side.{Side}
use Rattle.shunt_instance.specs.declared.records.Origin.TheVariants as origin
use Rattle.shunt_instance.specs.declared.records.Station.{Station}
use Rattle.shunt_instance.specs.declared.records.Track.{Track}
use Rattle.shunt_instance.specs.declared.records.Train.{Train}
use Rattle.shunt_instance.specs.declared.records.Unit.{Unit as TrainUnit}
use Rattle.shunt_instance.specs.declared.records.Position.{Position}
use Rattle.shunt_instance.specs.declared.records.UnitType.{UnitType}
use Rattle.shunt_instance.specs.defs.Words.{names_of, train_of_name, train_at, minute_at, turn_of, unit_count, is_open_at, route_cost}
use Rattle.shunt_instance.specs.defs.Wellformed.{IsStation, IsTimetable, AreTrains}
use Rattle.shunt_instance.specs.defs.Instance.{Night, IsOrderedNight, sort_by_minute, make_unit, make_position, units_of, positions_of, unit_total, position_total, unit_at, position_at, ready, leaves, first_unit, first_position, ready_of, leaves_of, IsUnitAt, IsPositionAt}
use Rattle.shunt_instance.specs.defs.Tables.{AreEntries, AreFirsts, AreCosts, route_cell}
use Rattle.shunt_instance.proofs.Numbers.{length_through}
use Rattle.shunt_instance.proofs.Orders.{trains_stay, sort_moves, night_is}
use Rattle.shunt_instance.proofs.Facts.{unit_at_is, position_at_is}
use Rattle.shunt_instance.proofs.Found.{found_has, found_there, cost_small, side_open}

-- at most 160 units and positions
pub units_few : (night : Night) → IsOrderedNight night → unit_total night ≤ 160
units_few night h = omega (arith, length_through make_unit 0 night.arrive, h.timetable.arrive.units)

pub positions_few : (night : Night) → IsOrderedNight night → position_total night ≤ 160
positions_few night h = omega (arith, length_through make_position 0 night.depart, h.timetable.depart.units)

abbrev no_train : Train
no_train = record { name = []; minute = 0; origin = origin.Platform (record { 0 = 0 }); units = []; placed = [] }

-- a train's units are within all
pub unit_room : (night : Night) (k : ℕ) → k < length night.arrive → first_unit night k + length (train_at night.arrive k).units ≤ unit_total night
unit_room night k lt = omega (arith, length_through make_unit 0 night.arrive, sum_by_more_le (λ (t : Train). length t.units) night.arrive k no_train lt)

pub position_room : (night : Night) (k : ℕ) → k < length night.depart → first_position night k + length (train_at night.depart k).units ≤ position_total night
position_room night k lt = omega (arith, length_through make_position 0 night.depart, sum_by_more_le (λ (t : Train). length t.units) night.depart k no_train lt)

-- the minutes of trains and the turns of types
minute_small : (s : Station) (ts : List Train) (k : ℕ) → AreTrains s ts → k < length ts → minute_at ts k < 2880
minute_small s ts k h lt = rw (get_or-map (λ (t : Train). t.minute) ts k (train_at ts k) 0 lt) (h.each k (train_at ts k) lt).minute

abbrev no_kind : UnitType
no_kind = record { name = []; length = 0; turn = 0 }

turn_small : (s : Station) (k : ℕ) → IsStation s → k < length s.types → turn_of s (record { 0 = k }) ≤ 1440
turn_small s k h lt = rw (get_or-map (λ (t : UnitType). t.turn) s.types k no_kind 0 lt) (h.types k no_kind lt).turn

pub ready_small : (night : Night) (u : ℕ) → IsOrderedNight night → u < unit_total night → ready night u < 4320
ready_small night u h lt =
    let at = unit_at_is night u h lt in
    let minute = minute_small night.station night.arrive (unit_at night u).train.0 h.timetable.arrive at.train in
    let turn = turn_small night.station (unit_at night u).kind.0 h.station at.kind_in in
    omega (arith, minute, turn)

pub leaves_small : (night : Night) (v : ℕ) → IsOrderedNight night → v < position_total night → leaves night v < 2880
leaves_small night v h lt = minute_small night.station night.depart (position_at night v).train.0 h.timetable.depart (position_at_is night v h lt).train

-- sorted trains are within the limits
pub sorted_trains : (s : Station) (ts us vs : List Train) → AreTrains s ts → vs ≡ us → us ≡ sort_by_minute ts → AreTrains s vs
sorted_trains s ts us vs h e f = subst (AreTrains s) (sym (e ∙ f)) (trains_stay s ts (sort_by_minute ts) (sort_moves ts) h)

whichever : {X : Type 0} (xs : List X) (i : ℕ) (x d : X) → i < length xs → x ≡ get_or xs i x → x ≡ get_or xs i d
whichever xs i x d lt is = sym (get_or_from_slice_get xs i x d (slice_get_read xs (length xs) i x refl lt is))

-- what is read is what the definitions say, of the night that a caller sees
pub unit_read : (n m : Night) (units : List TrainUnit) (positions : List Position) (ready leaves : List ℕ) (u : ℕ) (x : TrainUnit) → n ≡ m → IsOrderedNight n
    → AreEntries n units positions ready leaves → u < unit_total m → x ≡ get_or units u x → IsUnitAt m u x
unit_read n m units positions ready leaves u x e h t lt is =
    let within : u < length (units_of n.arrive) = subst (λ (k : Night). u < unit_total k) (sym e) lt in
    let here : x ≡ get_or (units_of n.arrive) u x = is ∙ ap (λ (us : List TrainUnit). get_or us u x) t.unit_list in
    let same : x ≡ unit_at m u = whichever (units_of n.arrive) u x (make_unit 0 0 (record { 0 = 0 })) within here ∙ ap (λ (k : Night). unit_at k u) e in
    subst (IsUnitAt m u) (sym same) (unit_at_is m u (subst IsOrderedNight e h) lt)

pub position_read : (n m : Night) (units : List TrainUnit) (positions : List Position) (ready leaves : List ℕ) (v : ℕ) (x : Position) → n ≡ m → IsOrderedNight n
    → AreEntries n units positions ready leaves → v < position_total m → x ≡ get_or positions v x → IsPositionAt m v x
position_read n m units positions ready leaves v x e h t lt is =
    let within : v < length (positions_of n.depart) = subst (λ (k : Night). v < position_total k) (sym e) lt in
    let here : x ≡ get_or (positions_of n.depart) v x = is ∙ ap (λ (us : List Position). get_or us v x) t.position_list in
    let same : x ≡ position_at m v = whichever (positions_of n.depart) v x (make_position 0 0 (record { 0 = 0 })) within here ∙ ap (λ (k : Night). position_at k v) e in
    subst (IsPositionAt m v) (sym same) (position_at_is m v (subst IsOrderedNight e h) lt)

pub units_counted : (n : Night) (units : List TrainUnit) (positions : List Position) (ready leaves : List ℕ) (count : ℕ) → IsOrderedNight n
    → AreEntries n units positions ready leaves → count ≡ length units → count ≤ 160
units_counted n units positions ready leaves count h t is = omega (arith, is, ap (λ (us : List TrainUnit). length us) t.unit_list, units_few n h)

pub positions_counted : (n : Night) (units : List TrainUnit) (positions : List Position) (ready leaves : List ℕ) (count : ℕ) → IsOrderedNight n
    → AreEntries n units positions ready leaves → count ≡ length positions → count ≤ 160
positions_counted n units positions ready leaves count h t is = omega (arith, is, ap (λ (us : List Position). length us) t.position_list, positions_few n h)

below_along : (a b n : ℕ) → a ≡ b → b < n → a < n
below_along a b n e lt = omega arith

pub ready_read : (n m : Night) (units : List TrainUnit) (positions : List Position) (ready leaves : List ℕ) (u r : ℕ) → n ≡ m → IsOrderedNight n
    → AreEntries n units positions ready leaves → u < unit_total m → r ≡ get_or ready u r → r < 4320
ready_read n m units positions ready leaves u r e h t lt is =
    let within : u < length (units_of n.arrive) = subst (λ (k : Night). u < unit_total k) (sym e) lt in
    below_along _ _ 4320 (is ∙ ap (λ (rs : List ℕ). get_or rs u r) (t.ready_list ∙ ap (map (ready_of n.station n.arrive)) t.unit_list)
    ∙ get_or-map (ready_of n.station n.arrive) (units_of n.arrive) u (make_unit 0 0 (record { 0 = 0 })) r within) (ready_small n u h within)

pub leave_read : (n m : Night) (units : List TrainUnit) (positions : List Position) (ready leaves : List ℕ) (v r : ℕ) → n ≡ m → IsOrderedNight n
    → AreEntries n units positions ready leaves → v < position_total m → r ≡ get_or leaves v r → r < 2880
leave_read n m units positions ready leaves v r e h t lt is =
    let within : v < length (positions_of n.depart) = subst (λ (k : Night). v < position_total k) (sym e) lt in
    below_along _ _ 2880 (is ∙ ap (λ (rs : List ℕ). get_or rs v r) (t.leave_list ∙ ap (map (leaves_of n.depart)) t.position_list)
    ∙ get_or-map (leaves_of n.depart) (positions_of n.depart) v (make_position 0 0 (record { 0 = 0 })) r within) (leaves_small n v h within)

pub cost_read : (n m : Night) (costs : List (Option ℕ)) (p : PlatformId) (t : TrackId) (s : Side) (cell : ℕ) (r : Option ℕ) → n ≡ m → IsOrderedNight n
    → AreCosts n.station.routes costs → p.0 < length m.station.platforms → t.0 < length m.station.tracks → cell ≡ route_cell p t s → r ≡ get_or costs cell r
    → r ≡ route_cost m.station p t s
cost_read n m costs p t s cell r e h c a b at is =
    let w = subst IsOrderedNight e h in
    let platform : p.0 < 30 = omega (arith, w.station.few_platforms) in
    let track : t.0 < 60 = omega (arith, w.station.few_tracks) in
    is ∙ ap (λ (k : ℕ). get_or costs k r) at ∙ get_or_from_slice_get costs (route_cell p t s) (route_cost n.station p t s) r (c.each p t s platform track)
    ∙ ap (λ (k : Night). route_cost k.station p t s) e

-- the cost that is read is small, and the side is open
pub cost_bound : (m : Night) (p : PlatformId) (t : TrackId) (s : Side) (r : Option ℕ) → IsOrderedNight m → r ≡ route_cost m.station p t s → IfSome r (λ c. c ≤ 1000000)
cost_bound m p t s r h e = subst (λ (o : Option ℕ). IfSome o (λ c. c ≤ 1000000)) (sym e) (cost_small m.station p t s h.station)

pub cost_open : (m : Night) (p : PlatformId) (t : TrackId) (s : Side) (r : Option ℕ) → IsOrderedNight m → r ≡ route_cost m.station p t s
    → IfSome r (λ c. IsTrue (is_open_at m.station t s))
cost_open m p t s r h e = subst (λ (o : Option ℕ). IfSome o (λ c. IsTrue (is_open_at m.station t s))) (sym e) (side_open m.station p t s h.station)

-- numbers of first units, read
pub first_read : (n m : List Train) (firsts : List ℕ) (k r : ℕ) → n ≡ m → AreFirsts n firsts → k < length m → r ≡ get_or firsts k r → r ≡ unit_count (take k m)
first_read n m firsts k r e h lt is =
    let within : k < length n = subst (λ (ts : List Train). k < length ts) (sym e) lt in
    is ∙ default firsts k r (rw h.size within) ∙ h.each k within ∙ ap (λ (ts : List Train). unit_count (take k ts)) e
  where
    default : (xs : List ℕ) (k r : ℕ) → k < length xs → get_or xs k r ≡ get_or xs k 0
    default xs k r lt = get_or_default_zero xs k r lt

-- the invariant of what `join` makes
pub formed_of : (s : Station) (arrive depart ts us : List Train) → IsStation s → IsTimetable s (record { arrive = arrive; depart = depart }) → ts ≡ sort_by_minute arrive
    → us ≡ sort_by_minute depart → IsOrderedNight (record { station = s; arrive = ts; depart = us })
formed_of s arrive depart ts us p q e f = subst (λ (xs : List Train). IsOrderedNight (record { station = s; arrive = xs; depart = us })) (sym e)
    (subst (λ (xs : List Train). IsOrderedNight (record { station = s; arrive = sort_by_minute arrive; depart = xs })) (sym f)
    (night_is s (record { arrive = arrive; depart = depart }) p q))

-- names, read
pub train_has : (ts us : List Train) (name : List ℕ) (k : ℕ) → ts ≡ us → Some k ≡ train_of_name ts name → slice_get (names_of us) k ≡ Some name
train_has ts us name k e is = found_has (λ (t : Train). t.name) us name k no_train (ap (λ (xs : List Train). train_of_name xs name) (sym e) ∙ sym is)

pub train_there : (ts us : List Train) (name : List ℕ) (o : Option ℕ) (k : ℕ) → ts ≡ us → o ≡ train_of_name ts name → AreDistinct (names_of us)
    → slice_get (names_of us) k ≡ Some name → o ≡ Some k
train_there ts us name o k e is h there = is ∙ ap (λ (xs : List Train). train_of_name xs name) e ∙ found_there (λ (t : Train). t.name) us name k no_train h there

abbrev no_track : Track
no_track = record { name = []; length = 0; side_a = false; side_b = false }

abbrev name_test : List ℕ → Track → Bool
name_test name t = bytes_eq t.name name

pub track_has : (ts us : List Track) (name : List ℕ) (k : ℕ) → ts ≡ us → Some k ≡ position (name_test name) ts → slice_get (map (λ (t : Track). t.name) us) k ≡ Some name
track_has ts us name k e is = found_has (λ (t : Track). t.name) us name k no_track (ap (position (name_test name)) (sym e) ∙ sym is)

pub track_there : (ts us : List Track) (name : List ℕ) (o : Option ℕ) (k : ℕ) → ts ≡ us → o ≡ position (name_test name) ts → AreDistinct (map (λ (t : Track). t.name) us)
    → slice_get (map (λ (t : Track). t.name) us) k ≡ Some name → o ≡ Some k
track_there ts us name o k e is h there = is ∙ ap (position (name_test name)) e ∙ found_there (λ (t : Track). t.name) us name k no_track h there

-- numbers as ids
abbrev pub as_arr : Option ℕ → Option ArrId
as_arr o = option_map (λ k. record { 0 = k }) o

abbrev pub as_dep : Option ℕ → Option DepId
as_dep o = option_map (λ k. record { 0 = k }) o

abbrev pub as_track : Option ℕ → Option TrackId
as_track o = option_map (λ k. record { 0 = k }) o

-- the lists of what `join` makes
pub entries_of : (s : Station) (ar dp a b e f : List Train) (units us : List TrainUnit) (positions ps : List Position) (ready leaves : List ℕ) → a ≡ ar → b ≡ dp
    → units ≡ units_of a → positions ≡ positions_of b → e ≡ ar → us ≡ units → ready ≡ map (ready_of s e) us → f ≡ dp → ps ≡ positions → leaves ≡ map (leaves_of f) ps
    → AreEntries (record { station = s; arrive = ar; depart = dp }) units positions ready leaves
entries_of s ar dp a b e f units us positions ps ready leaves ae be ue pe ee uu re fe pp le = record {
  unit_list = ue ∙ ap units_of ae;
  position_list = pe ∙ ap positions_of be;
  ready_list = re ∙ ap (λ (ts : List Train). map (ready_of s ts) us) ee ∙ ap (map (ready_of s ar)) uu;
  leave_list = le ∙ ap (λ (ts : List Train). map (leaves_of ts) ps) fe ∙ ap (map (leaves_of dp)) pp;
}

-- the place of a name is that of the train, or the track, that has it
pub few_places : (o : Option ℕ) (n : ℕ) → IfSome o (λ k. k < n) → n ≤ 100 → IfSome o (λ k. k < 256)
few_places None n h le = tt
few_places (Some k) n h le = omega arith
