-- The station and the timetable that are made of a number, and of how many units there are to be. In what is made of one draw, x is the
-- state that this draw leaves behind; in a list, the state before its first draw.
use Rattle.std.specs.Prelude.{ℕ, ◌+◌, ◌*◌, ◌/◌, ◌%◌, true, cond, ◌&&◌, ◌==◌, if◌then◌else◌, List, [], ◌∷◌, ◌++◌, map, reverse, length, codes}
use Rattle.std.specs.List.{range_with_len}
use Rattle.std.specs.Fmt.{decimal}
use Rattle.shunt_base.specs.declared.ids.Side.TheVariants.{A, B}
use Rattle.shunt_base.specs.declared.ids.PlatformId.{PlatformId}
use Rattle.shunt_base.specs.declared.ids.TrackId.{TrackId}
use Rattle.shunt_base.specs.declared.ids.TypeId.{TypeId}
use Rattle.shunt_instance.specs.declared.records.UnitType.{UnitType}
use Rattle.shunt_instance.specs.declared.records.Track.{Track}
use Rattle.shunt_instance.specs.declared.records.Route.{Route}
use Rattle.shunt_instance.specs.declared.records.Station.{Station}
use Rattle.shunt_instance.specs.declared.records.Origin.TheVariants as origin
use Rattle.shunt_instance.specs.declared.records.Train.{Train}
use Rattle.shunt_instance.specs.declared.records.Timetable.{Timetable}
use Rattle.shunt_instance.specs.defs.Words.{train_at}
use Rattle.shunt_make.specs.declared.stations.OpenWay.{OpenWay}
use Rattle.shunt_make.specs.defs.Draws.{next, after, drawn, drawn_for}

-- a letter and a number in decimals
abbrev pub numbered : ℕ → ℕ → List ℕ
numbered letter n = letter ∷ decimal n

-- ---- the station

-- K of 250 dm, L of 500 dm and M of 750 dm, which are ready 10, 20 and 30 minutes after their train
abbrev pub unit_types : List UnitType
unit_types =
    record { name = codes "K"; length = 250; turn = 10 }
    ∷ record { name = codes "L"; length = 500; turn = 20 }
    ∷ record { name = codes "M"; length = 750; turn = 30 }
    ∷ []

-- P1 and P2
abbrev pub platform_names : List (List ℕ)
platform_names = numbered 80 1 ∷ numbered 80 2 ∷ []

-- two tracks, and one more for each four units
abbrev pub track_count : ℕ → ℕ
track_count units = 2 + units / 4

-- track k, named T and k: its length is 1000 dm and 250 dm for each that a draw below 5 gives; it is open at A, and at B too where k
-- is a multiple of 3
abbrev pub track_of : ℕ → ℕ → Track
track_of k x = record { name = numbered 84 k; length = 1000 + 250 * drawn x 5; side_a = true; side_b = k % 3 == 0 }

-- the tracks, from T1 on
abbrev pub tracks_of : ℕ → ℕ → List Track
tracks_of x units = drawn_for track_of x (range_with_len 1 (track_count units))

-- the ways from a platform to the sides at which a track is open, A first
abbrev pub open_ways : PlatformId → TrackId → Track → List OpenWay
open_ways p id t =
    cond t.side_a (record { platform = p; track = id; side = A } ∷ []) []
    ++ cond t.side_b (record { platform = p; track = id; side = B } ∷ []) []

-- the same for each of these tracks, of which the first has the number k
abbrev pub ways_from : PlatformId → ℕ → List Track → List OpenWay
ways_from p k [] = []
ways_from p k (t ∷ tracks) = open_ways p (record { 0 = k }) t ++ ways_from p (k + 1) tracks

-- the ways from each platform, to each track, by each open side
abbrev pub ways_of : List Track → List OpenWay
ways_of tracks = ways_from (record { 0 = 0 }) 0 tracks ++ ways_from (record { 0 = 1 }) 0 tracks

-- the route along a way: it costs one more than a draw below 20 gives
abbrev pub route_of : OpenWay → ℕ → Route
route_of w x = record { platform = w.platform; track = w.track; side = w.side; cost = 1 + drawn x 20 }

-- the station, drawn from the state x on: first its tracks, then its routes
unfoldable pub station_of : ℕ → ℕ → Station
station_of x units = record {
  name = codes "G";
  types = unit_types;
  platforms = platform_names;
  tracks = tracks_of x units;
  routes = drawn_for route_of (after x (track_count units)) (ways_of (tracks_of x units));
  permits = [];
  split = 10;
  couple = 10;
  unparked = 500;
}

-- the state that its draws leave behind
unfoldable pub after_station : ℕ → ℕ → ℕ
after_station x units = after (after x (track_count units)) (length (ways_of (tracks_of x units)))

-- ---- the trains

-- how many trains there are of each word: half as many as units, rounded up
abbrev pub train_count : ℕ → ℕ
train_count units = (units + 1) / 2

-- train i, from 0, named by the letter and i + 1: the first has this minute, and each other comes 6 minutes after the one before it; none of its
-- units has come already
abbrev pub train_of : ℕ → ℕ → ℕ → ℕ → List TypeId → Train
train_of letter first i platform kinds =
    record { name = numbered letter (i + 1); minute = first + 6 * i; origin = origin.Platform (record { 0 = platform }); units = kinds; placed = [] }

-- an arriving train has 2 units, but the last one has 1 where the number of units is odd
abbrev pub size_of : ℕ → ℕ → ℕ
size_of units i = if units % 2 == 1 && i + 1 == train_count units then 1 else 2

-- K, L or M, as a draw below 3 gives 0, 1 or 2
abbrev pub kind_of : ℕ → ℕ → TypeId
kind_of place x = record { 0 = drawn x 3 }

-- arriving train i comes from 20:00 on, at P1 where i is even, else at P2; x is the state before the first train, and each train before
-- this one took two draws
abbrev pub arriving_of : ℕ → ℕ → ℕ → Train
arriving_of x units i = train_of 97 1200 i (if i % 2 == 0 then 0 else 1) (drawn_for kind_of (after x (2 * i)) (range_with_len 0 (size_of units i)))

-- the arriving trains, drawn from the state x on
unfoldable pub arriving : ℕ → ℕ → List Train
arriving x units = map (arriving_of x units) (range_with_len 0 (train_count units))

-- these types, in the opposite order where a draw below 2 gives 1
abbrev pub turned : ℕ → List TypeId → List TypeId
turned x kinds = if drawn x 2 == 1 then reverse kinds else kinds

-- departing train i leaves from 29:00 on, at P2 where i is even, else at P1, with the types of the arriving train that stands so far
-- behind train i, round past the last one
abbrev pub departing_of : List Train → ℕ → ℕ → ℕ → Train
departing_of arrive shift i x = train_of 100 1740 i (if i % 2 == 0 then 1 else 0) (turned x (train_at arrive ((i + shift) % length arrive)).units)

-- as many departing trains: where there are any, the shift is drawn first
unfoldable pub departing : ℕ → List Train → List Train
departing x arrive =
    if length arrive == 0 then []
    else drawn_for (departing_of arrive (drawn (next x) (length arrive))) (next x) (range_with_len 0 (length arrive))

-- the timetable, drawn from the state x on: first the arriving trains, with a draw for each unit, then the departing ones
unfoldable pub timetable_of : ℕ → ℕ → Timetable
timetable_of x units = record { arrive = arriving x units; depart = departing (after x units) (arriving x units) }
