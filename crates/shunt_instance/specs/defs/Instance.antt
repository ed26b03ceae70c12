-- One night: a station with its trains in their order, and their units and positions numbered.
use Rattle.std.specs.Prelude.{◌≡◌, ℕ, ◌+◌, ◌<◌, ◌≤◌, nat_le, if◌then◌else◌, List, [], ◌∷◌, ◌++◌, length, take, Option, option_map, slice_index_or}
use Rattle.std.specs.List.Sorted.{IsNonDecreasingBy}
use Rattle.shunt_base.specs.declared.ids.ArrId.{ArrId}
use Rattle.shunt_base.specs.declared.ids.DepId.{DepId}
use Rattle.shunt_base.specs.declared.ids.TypeId.{TypeId}
use Rattle.shunt_instance.specs.declared.records.Station.{Station}
use Rattle.shunt_instance.specs.declared.records.Train.{Train}
use Rattle.shunt_instance.specs.declared.records.Timetable.{Timetable}
use Rattle.shunt_instance.specs.declared.records.Unit.{Unit as TrainUnit}
use Rattle.shunt_instance.specs.declared.records.Position.{Position}
use Rattle.shunt_instance.specs.defs.Words.{train_of_name, train_at, kind_at, minute_at, turn_of, unit_count}
use Rattle.shunt_instance.specs.defs.Wellformed.{IsStation, IsTimetable}

-- a train goes before the first one that has its minute or a later one
abbrev pub insert_by_minute : Train → List Train → List Train
insert_by_minute t [] = t ∷ []
insert_by_minute t (u ∷ us) = if nat_le t.minute u.minute then t ∷ u ∷ us else u ∷ insert_by_minute t us

-- the trains by minute, and those of one minute in the order in which they came
abbrev pub sort_by_minute : List Train → List Train
sort_by_minute [] = []
sort_by_minute (t ∷ ts) = insert_by_minute t (sort_by_minute ts)

-- a station and its trains, which are numbered from 0 in these orders
pub record Night : Type 0 where
  pub station : Station
  pub arrive : List Train
  pub depart : List Train

-- the night that a station and a timetable make
abbrev pub night_of : Station → Timetable → Night
night_of s t = record { station = s; arrive = sort_by_minute t.arrive; depart = sort_by_minute t.depart }

-- station and trains are well formed, and the trains are in their order
pub record IsOrderedNight (night : Night) : Type 0 where
  pub station : IsStation night.station
  pub timetable : IsTimetable night.station (record { arrive = night.arrive; depart = night.depart })
  pub arrive_rises : IsNonDecreasingBy (λ t. t.minute) night.arrive
  pub depart_rises : IsNonDecreasingBy (λ t. t.minute) night.depart

-- the same as one word, which no tactic opens, so that what states it stays quick to prove
unfoldable pub IsInstance : Night → Type 0
IsInstance night = IsOrderedNight night

-- what `make` makes of a train's number, each place from `p` on and its type, for these types in turn
abbrev pub numbered_from : {X : Type 0} → (ℕ → ℕ → TypeId → X) → ℕ → ℕ → List TypeId → List X
numbered_from make a p [] = []
numbered_from make a p (k ∷ ks) = make a p k ∷ numbered_from make a (p + 1) ks

-- the same through these trains, of which the first has the number `a`, each from its place 1
abbrev pub numbered_through : {X : Type 0} → (ℕ → ℕ → TypeId → X) → ℕ → List Train → List X
numbered_through make a [] = []
numbered_through make a (t ∷ ts) = numbered_from make a 1 t.units ++ numbered_through make (a + 1) ts

-- a unit and a position by train, place and type
abbrev pub make_unit : ℕ → ℕ → TypeId → TrainUnit
make_unit a p k = record { train = record { 0 = a }; place = p; kind = k }

abbrev pub make_position : ℕ → ℕ → TypeId → Position
make_position d p k = record { train = record { 0 = d }; place = p; kind = k }

-- the units of arriving trains by their numbers
abbrev pub units_of : List Train → List TrainUnit
units_of trains = numbered_through make_unit 0 trains

-- the positions of departing trains by their numbers
abbrev pub positions_of : List Train → List Position
positions_of trains = numbered_through make_position 0 trains

-- how many units a night has
abbrev pub unit_total : Night → ℕ
unit_total night = length (units_of night.arrive)

-- how many positions a night has
abbrev pub position_total : Night → ℕ
position_total night = length (positions_of night.depart)

-- the unit with a number
abbrev pub unit_at : Night → ℕ → TrainUnit
unit_at night u = slice_index_or (units_of night.arrive) u (make_unit 0 0 (record { 0 = 0 }))

-- the position with a number
abbrev pub position_at : Night → ℕ → Position
position_at night v = slice_index_or (positions_of night.depart) v (make_position 0 0 (record { 0 = 0 }))

-- when a unit is ready: its train's minute and the turn of its type after it
abbrev pub ready_of : Station → List Train → TrainUnit → ℕ
ready_of s arrive u = minute_at arrive u.train.0 + turn_of s u.kind

-- when the unit with a number is ready
abbrev pub ready : Night → ℕ → ℕ
ready night u = ready_of night.station night.arrive (unit_at night u)

-- when a position leaves: its train's minute
abbrev pub leaves_of : List Train → Position → ℕ
leaves_of depart v = minute_at depart v.train.0

-- when the position with a number leaves
abbrev pub leaves : Night → ℕ → ℕ
leaves night v = leaves_of night.depart (position_at night v)

-- how many units the trains before one have, which is the number of its unit at place 1
abbrev pub first_unit : Night → ℕ → ℕ
first_unit night a = unit_count (take a night.arrive)

-- how many positions the trains before one have, which is the number of its position at place 1
abbrev pub first_position : Night → ℕ → ℕ
first_position night d = unit_count (take d night.depart)

-- the arriving train with a name
abbrev pub arr_of_name : Night → List ℕ → Option ArrId
arr_of_name night name = option_map (λ k. record { 0 = k }) (train_of_name night.arrive name)

-- the departing train with a name
abbrev pub dep_of_name : Night → List ℕ → Option DepId
dep_of_name night name = option_map (λ k. record { 0 = k }) (train_of_name night.depart name)

-- what is true of the unit with a number: its train and its type are the night's, and its place tells its number
pub record IsUnitAt (night : Night) (u : ℕ) (x : TrainUnit) : Type 0 where
  pub train : x.train.0 < length night.arrive
  pub placed : 1 ≤ x.place
  pub place : x.place ≤ length (train_at night.arrive x.train.0).units
  pub kind : x.kind ≡ kind_at (train_at night.arrive x.train.0) x.place
  pub kind_in : x.kind.0 < length night.station.types
  pub number : first_unit night x.train.0 + x.place ≡ u + 1

-- the same of the position with a number
pub record IsPositionAt (night : Night) (v : ℕ) (x : Position) : Type 0 where
  pub train : x.train.0 < length night.depart
  pub placed : 1 ≤ x.place
  pub place : x.place ≤ length (train_at night.depart x.train.0).units
  pub kind : x.kind ≡ kind_at (train_at night.depart x.train.0) x.place
  pub kind_in : x.kind.0 < length night.station.types
  pub number : first_position night x.train.0 + x.place ≡ v + 1
