-- The format of a timetable over a station.
use Rattle.std.specs.Prelude.{ℕ, zero, suc, ◌+◌, ◌-◌, ◌==◌, Bool, true, false, not, ◌&&◌, ◌||◌, nat_lt, nat_le, List, [], ◌∷◌, ◌++◌, length, take, drop, position, Option, Some, None, unwrap_or, if◌then◌else◌, codes, bytes_eq}
use Rattle.std.specs.List.{list_any}
use Rattle.shunt_base.specs.declared.ids.TypeId.{TypeId}
use Rattle.shunt_base.specs.declared.ids.TrackId.{TrackId}
use Rattle.shunt_base.specs.declared.ids.Side.{Side}
use Rattle.shunt_base.specs.defs.Spelling.{is_name_text, decimal_of}
use Rattle.shunt_rows.specs.declared.fault.RowKind.TheVariants as kinds
use Rattle.shunt_rows.specs.defs.Records.{at}
use Rattle.shunt_rows.specs.defs.Checks.{Judged, must, says, found, ◌>>=◌}
use Rattle.shunt_rows.specs.defs.Fields.{is_word, no_word, is_within, fields_in, number_in, minute_in, side_in, named_in}
use Rattle.shunt_rows.specs.defs.Formats.{Format}
use Rattle.shunt_instance.specs.declared.records.Station.{Station}
use Rattle.shunt_instance.specs.declared.records.Track.{Track}
use Rattle.shunt_instance.specs.declared.records.Train.{Train}
use Rattle.shunt_instance.specs.declared.records.TrackEnd.{TrackEnd}
use Rattle.shunt_instance.specs.declared.records.PlacedRun.{PlacedRun}
use Rattle.shunt_instance.specs.declared.records.UnitType.{UnitType}
use Rattle.shunt_instance.specs.declared.records.Timetable.{Timetable}
use Rattle.shunt_instance.specs.declared.records.Origin.{Origin}
use Rattle.shunt_instance.specs.declared.records.Origin.TheVariants as origin
use Rattle.shunt_instance.specs.defs.Words.{unit_count, is_standing, is_open_at, train_at, track_of_name}

-- what the records so far state: the version, the trains of both kinds, and whether an `arrive` or `depart` record was among them
pub record Listed : Type 0 where
  pub version : ℕ
  pub arrive : List Train
  pub depart : List Train
  pub moving : Bool

-- `timetable,VERSION`, with VERSION 1, 2 or 3
unfoldable pub first_of : List (List ℕ) → Judged Listed
first_of row = do
  _ ← must (is_word row (codes "timetable")) 1 kinds.Kind
  _ ← fields_in row 2 2
  version ← number_in row 2 1 3
  says record { version = version; arrive = []; depart = []; moving = false }

-- the field is a track of these, or a platform
abbrev pub track_in : List Track → List (List ℕ) → ℕ → Judged Origin
track_in tracks row k = do
  track ← named_in (λ x. x.name) tracks row k
  says (origin.Track (record { 0 = track }))

abbrev pub platform_in : List (List ℕ) → List (List ℕ) → ℕ → Judged Origin
platform_in platforms row k = do
  platform ← named_in (λ x. x) platforms row k
  says (origin.Platform (record { 0 = platform }))

-- whether one of these trains has this name
abbrev pub has_train : List Train → List ℕ → Bool
has_train trains name = list_any (λ t. bytes_eq t.name name) trains

-- the field is the type of one more unit, behind that many units of trains of its word; the 161st is Limit
abbrev pub kind_of : List UnitType → ℕ → List (List ℕ) → ℕ → Judged TypeId
kind_of types before row k = do
  kind ← named_in (λ x. x.name) types row k
  _ ← must (nat_lt before 160) k kinds.Limit
  says (record { 0 = kind })

-- a train with one more unit, whose type is this field; the trains before it have that many units
unfoldable pub unit_of : Station → ℕ → Train → List (List ℕ) → ℕ → Judged Train
unit_of station before t row k = do
  kind ← kind_of station.types (before + length t.units) row k
  says record t { units = t.units ++ kind ∷ [] }

-- that many such fields, from this one on
unfoldable pub units_from : Station → ℕ → Train → List (List ℕ) → ℕ → ℕ → Judged Train
units_from station before t row k zero = says t
units_from station before t row k (suc more) = do
  u ← unit_of station before t row k
  units_from station before u row (k + 1) more

-- the name of one more train behind these; the 101st is Limit, and a name that one of them has is Repeat
abbrev pub name_of : List Train → List (List ℕ) → Judged (List ℕ)
name_of trains row = do
  _ ← must (nat_lt (length trains) 100) 1 kinds.Limit
  _ ← must (is_name_text (at row 2)) 2 kinds.Name
  _ ← must (not (has_train trains (at row 2))) 2 kinds.Repeat
  says (at row 2)

-- a train without units
abbrev pub empty_train : List ℕ → ℕ → Origin → Train
empty_train name minute place = record { name = name; minute = minute; origin = place; units = []; placed = [] }

-- `stand,TRAIN,TRACK,TYPE..` behind these trains of its word
unfoldable pub standing_of : Station → List Train → List (List ℕ) → Judged Train
standing_of station trains row = do
  _ ← fields_in row 4 11
  name ← name_of trains row
  track ← track_in station.tracks row 3
  units_from station (unit_count trains) (empty_train name 0 track) row 4 (length row - 3)

-- `WORD,TRAIN,MINUTE,PLATFORM,TYPE..` behind these trains of its word
unfoldable pub moving_of : Station → List Train → List (List ℕ) → Judged Train
moving_of station trains row = do
  _ ← fields_in row 5 12
  name ← name_of trains row
  minute ← minute_in row 3
  platform ← platform_in station.platforms row 4
  units_from station (unit_count trains) (empty_train name minute platform) row 5 (length row - 4)

-- a train that stands when the night opens: it is one of the arriving trains
unfoldable pub stand_of : Station → Listed → List (List ℕ) → Judged Listed
stand_of station s row = do
  t ← standing_of station s.arrive row
  says record s { arrive = s.arrive ++ t ∷ [] }

-- a train that arrives
unfoldable pub arrive_of : Station → Listed → List (List ℕ) → Judged Listed
arrive_of station s row = do
  t ← moving_of station s.arrive row
  says record s { arrive = s.arrive ++ t ∷ []; moving = true }

-- a train that departs
unfoldable pub depart_of : Station → Listed → List (List ℕ) → Judged Listed
depart_of station s row = do
  t ← moving_of station s.depart row
  says record s { depart = s.depart ++ t ∷ []; moving = true }

-- `stand` is a word of versions 2 and 3, and comes before each `arrive` and `depart` record
abbrev pub may_stand : Listed → Bool
may_stand s = nat_le 2 s.version && not s.moving

-- whether one of that many units of a train, from this place on, is one of a placed run
abbrev pub meets_units : ℕ → ℕ → PlacedRun → Bool
meets_units first count r = nat_lt 0 count && nat_lt first (r.first + r.count) && nat_lt r.first (first + count)

-- the third field is the place of the first unit, and the fourth how many there are, none of which has come by one of these runs: the run that has been cleared away
unfoldable pub units_in : Train → List (List ℕ) → Judged PlacedRun
units_in t row = do
  first ← found 0 (decimal_of (at row 3)) 3 kinds.Number
  _ ← must (not (list_any (meets_units first (unwrap_or (decimal_of (at row 4)) 0)) t.placed)) 3 kinds.Repeat
  _ ← must (is_within 1 (length t.units) first) 3 kinds.Limit
  count ← number_in row 4 1 (length t.units + 1 - first)
  says record { first = first; count = count; came_by = None }

-- the number of the track with a name
unfoldable pub track_number : Station → List ℕ → Option TrackId
track_number station name = track_of_name station name

-- an open side of a track, at this field
abbrev pub open_side_in : Station → TrackId → List (List ℕ) → ℕ → Judged Side
open_side_in station track row k = do
  side ← side_in row k
  _ ← must (is_open_at station track side) k kinds.ClosedSide
  says side

-- `park,TRACK,SIDE` from the fifth field on, of a train that doesn't stand on a track itself
unfoldable pub parked_end : Station → Train → List (List ℕ) → Judged (Option TrackEnd)
parked_end station t row = do
  _ ← must (bytes_eq (at row 5) (codes "park") && not (is_standing t)) 5 kinds.Kind
  track ← found (record { 0 = 0 }) (track_number station (at row 6)) 6 kinds.Unknown
  side ← open_side_in station track row 7
  says (Some record { track = track; side = side })

-- `unparked` at the fifth field
unfoldable pub no_end : List (List ℕ) → Judged (Option TrackEnd)
no_end row = do
  _ ← must (bytes_eq (at row 5) (codes "unparked")) 5 kinds.Kind
  says None

-- the end by which a run came, or none where the record has five fields
unfoldable pub end_in : Station → Train → List (List ℕ) → Judged (Option TrackEnd)
end_in station t row = if length row == 5 then no_end row else parked_end station t row

-- the number of the first of these runs that begins later than one, or how many there are
abbrev pub place_among : PlacedRun → List PlacedRun → ℕ
place_among r runs = unwrap_or (position (λ s. nat_lt r.first s.first) runs) (length runs)

-- a run among others, before the first one that begins later
abbrev pub with_run : PlacedRun → List PlacedRun → List PlacedRun
with_run r runs = take (place_among r runs) runs ++ r ∷ drop (place_among r runs) runs

-- a train with one more placed run
abbrev pub placed_train : PlacedRun → Train → Train
placed_train r t = record t { placed = with_run r t.placed }

-- these trains, of which the one with a number has one more placed run
abbrev pub with_placed : ℕ → PlacedRun → List Train → List Train
with_placed k r trains = take k trains ++ placed_train r (train_at trains k) ∷ drop (k + 1) trains

-- `placed,TRAIN,P,N,park,TRACK,SIDE` or `placed,TRAIN,P,N,unparked`
unfoldable pub placed_of : Station → Listed → List (List ℕ) → Judged Listed
placed_of station s row = do
  _ ← must (length row == 5 || length row == 7) 1 kinds.Fields
  k ← named_in (λ t. t.name) s.arrive row 2
  run ← units_in (train_at s.arrive k) row
  end ← end_in station (train_at s.arrive k) row
  says record s { arrive = with_placed k (record run { came_by = end }) s.arrive }

-- a later record, by its word
unfoldable pub later_of : Station → Listed → List (List ℕ) → Judged Listed
later_of station s row =
    if is_word row (codes "arrive") then arrive_of station s row
    else if is_word row (codes "depart") then depart_of station s row
    else if may_stand s && is_word row (codes "stand") then stand_of station s row
    else if s.version == 3 && is_word row (codes "placed") then placed_of station s row
    else no_word s

-- the timetable that the records state; there is no last record, and none is missing behind the first
abbrev pub timetable_of : Listed → Timetable
timetable_of s = record { arrive = s.arrive; depart = s.depart }

abbrev pub timetable_format : Station → Format Listed Timetable
timetable_format station = record { first = first_of; later = later_of station; has_ended = λ s. false; is_whole = λ s. true; value = timetable_of }
