-- Ways between trains and tracks.
use Rattle.std.specs.Prelude.{ℕ, ◌+◌, ◌≤◌, ◌==◌, ◌&&◌, ◌||◌, not, nat_lt, Bool, false, List, Option, Some, None, IfSome, if◌then◌else◌}
use Rattle.std.specs.List.{list_any}
use Rattle.shunt_lists.specs.defs.Below.{all_below}
use Rattle.shunt_base.specs.declared.ids.ArrId.{ArrId}
use Rattle.shunt_base.specs.declared.ids.DepId.{DepId}
use Rattle.shunt_base.specs.declared.ids.TrackId.{TrackId}
use Rattle.shunt_base.specs.declared.ids.Side.{Side}
use Rattle.shunt_base.specs.declared.ids.Side.TheVariants.{A, B}
use Rattle.shunt_base.specs.defs.Sides.{same_side}
use Rattle.shunt_instance.specs.declared.records.Station.{Station}
use Rattle.shunt_instance.specs.declared.records.Origin.{Origin}
use Rattle.shunt_instance.specs.declared.records.Origin.TheVariants as origin
use Rattle.shunt_instance.specs.declared.records.TrackEnd.{TrackEnd}
use Rattle.shunt_instance.specs.declared.records.PlacedRun.{PlacedRun}
use Rattle.shunt_instance.specs.defs.Words.{train_at, route_cost, permits}
use Rattle.shunt_instance.specs.defs.Instance.{Night, unit_at}
use Rattle.shunt_blocks.specs.declared.records.Shape.{Shape}
use Rattle.shunt_blocks.specs.declared.records.Block.{Block}
use Rattle.shunt_blocks.specs.declared.records.Park.{Park}
use Rattle.shunt_blocks.specs.defs.Shapes.{shape_of, unit_from}

-- the cost of the way from a train's origin to a track by a side: the route from its platform, or 0 by B to the track on which it stands
abbrev pub way_from : Station → Origin → TrackId → Side → Option ℕ
way_from s (origin.Platform p) track side = route_cost s p track side
way_from s (origin.Track own) track A = None
way_from s (origin.Track own) track B = if own.0 == track.0 then Some 0 else None

-- the cost of the way to a departing train, the route from its platform
abbrev pub way_to : Station → Origin → TrackId → Side → Option ℕ
way_to s (origin.Platform p) track side = route_cost s p track side
way_to s (origin.Track own) track side = None

-- whether a shape has a unit of a placed run
abbrev pub meets_run : Shape → PlacedRun → Bool
meets_run s r = nat_lt s.p (r.first + r.count) && nat_lt r.first (s.p + s.n)

-- whether one of a shape's units has come already
abbrev pub has_placed : Night → Shape → Bool
has_placed night s = list_any (meets_run s) (train_at night.arrive s.arr.0).placed

-- whether what came by an end, if by one at all, came to this track by this side
abbrev pub came_to : TrackId → Side → Option TrackEnd → Bool
came_to track side None = false
came_to track side (Some e) = e.track.0 == track.0 && same_side e.side side

-- whether a shape's units are exactly those of a placed run that came to a track by a side
abbrev pub is_run_there : Shape → TrackId → Side → PlacedRun → Bool
is_run_there s track side r = r.first == s.p && r.count == s.n && came_to track side r.came_by

-- whether a shape's units may come to a track by a side, by what has come already: none of them has, or they came there together
abbrev pub may_come : List PlacedRun → Shape → TrackId → Side → Bool
may_come runs s track side = not (list_any (meets_run s) runs) || list_any (is_run_there s track side) runs

-- the cost of the way of an arriving train to a track by a side
abbrev pub train_way_in : Night → ArrId → TrackId → Side → Option ℕ
train_way_in night a track side = way_from night.station (train_at night.arrive a.0).origin track side

-- the cost of a shape's way in: that of its train, where its units may come by it
abbrev pub shape_way_in : Night → Shape → TrackId → Side → Option ℕ
shape_way_in night s track side = if may_come (train_at night.arrive s.arr.0).placed s track side then train_way_in night s.arr track side else None

-- the same of an option
abbrev pub park_way_in : Night → Shape → Park → Option ℕ
park_way_in night s k = shape_way_in night s k.track k.side_in

-- the cost of the way out to a departing train
abbrev pub park_way_out : Night → DepId → Park → Option ℕ
park_way_out night dep k = way_to night.station (train_at night.depart dep.0).origin k.track k.side_out

-- the way in of an arriving train, where there is one, costs no less
abbrev pub IsUnderIn : Night → ArrId → Park → ℕ → Type 0
IsUnderIn night a k least = IfSome (train_way_in night a k.track k.side_in) (λ c. least ≤ c)

-- the way out to a departing train, where there is one, costs no less
abbrev pub IsUnderOut : Night → DepId → Park → ℕ → Type 0
IsUnderOut night d k least = IfSome (park_way_out night d k) (λ c. least ≤ c)

-- the cost of the way in where something is parked; what isn't parked has no way
abbrev pub option_way_in : Night → Shape → Option Park → Option ℕ
option_way_in night s None = None
option_way_in night s (Some k) = park_way_in night s k

abbrev pub option_way_out : Night → DepId → Option Park → Option ℕ
option_way_out night dep None = None
option_way_out night dep (Some k) = park_way_out night dep k

-- the cost of a block's way in and of its way out
abbrev pub way_in : Night → Block → Option ℕ
way_in night b = option_way_in night (shape_of b) b.park

abbrev pub way_out : Night → Block → Option ℕ
way_out night b = option_way_out night b.dep b.park

-- whether a track permits the types of all units of a shape
abbrev pub permits_units : Night → Shape → TrackId → Bool
permits_units night s track = all_below s.n (λ k. permits night.station track (unit_at night (unit_from night s + k)).kind)
