-- Blocks, their costs and feasible lists by version 1 of the files, over instances without standing trains, placed units and permits.
use Rattle.std.specs.Prelude.{◌≡◌, ◌≢◌, ℕ, ◌+◌, ◌<◌, ◌≤◌, ◌==◌, false, cond, unwrap_or, All, List, [], map, sum_by, length, IsSome, Option, Some, None}
use Rattle.shunt_lists.specs.defs.Members.{AreDistinct}
use Rattle.shunt_base.specs.declared.ids.TypeId.{TypeId}
use Rattle.shunt_base.specs.declared.ids.TrackId.{TrackId}
use Rattle.shunt_base.specs.declared.ids.Side.{Side}
use Rattle.shunt_instance.specs.declared.records.Station.{Station}
use Rattle.shunt_instance.specs.declared.records.Origin.{Origin}
use Rattle.shunt_instance.specs.declared.records.Origin.TheVariants as origin
use Rattle.shunt_instance.specs.declared.records.Train.{Train}
use Rattle.shunt_instance.specs.defs.Words.{train_at, kind_at, turn_of, route_cost, is_standing}
use Rattle.shunt_instance.specs.defs.Instance.{Night}
use Rattle.shunt_blocks.specs.declared.records.Block.{Block}
use Rattle.shunt_blocks.specs.declared.records.Park.{Park}
use Rattle.shunt_blocks.specs.defs.Lists.{Covers, RunsThrough}

-- no arriving train stands there when the night opens, none has units that have come already, and no track permits some types alone
pub record IsPlain (night : Night) : Type 0 where
  pub arrive : All (λ t. is_standing t ≡ false) night.arrive
  pub to_come : All (λ t. t.placed ≡ []) night.arrive
  pub permits : night.station.permits ≡ []

-- the block's trains
abbrev pub arriving : Night → Block → Train
arriving night b = train_at night.arrive b.arr.0

abbrev pub departing : Night → Block → Train
departing night b = train_at night.depart b.dep.0

-- the type of its unit with a number, from 0, and that of its position
abbrev pub unit_kind : Night → Block → ℕ → TypeId
unit_kind night b k = kind_at (arriving night b) (b.p + k)

abbrev pub position_kind : Night → Block → ℕ → TypeId
position_kind night b k = kind_at (departing night b) (b.q + k)

-- a run of n units of one arriving train and a run of n positions of one departing train; pair by pair they have one type, and the
-- train leaves no earlier than the unit is ready
pub record HasShape (night : Night) (b : Block) : Type 0 where
  pub arr : b.arr.0 < length night.arrive
  pub dep : b.dep.0 < length night.depart
  pub p : 1 ≤ b.p
  pub n : 1 ≤ b.n
  pub q : 1 ≤ b.q
  pub units : b.p + b.n ≤ length (arriving night b).units + 1
  pub positions : b.q + b.n ≤ length (departing night b).units + 1
  pub types : (k : ℕ) → k < b.n → (unit_kind night b k).0 ≡ (position_kind night b k).0
  pub times : (k : ℕ) → k < b.n → (arriving night b).minute + turn_of night.station (unit_kind night b k) ≤ (departing night b).minute

-- the cost of the route between a train's platform and a track by a side
abbrev pub route : Station → Origin → TrackId → Side → Option ℕ
route s (origin.Platform platform) track side = route_cost s platform track side
route s (origin.Track own) track side = None

abbrev pub route_in : Night → Block → Park → Option ℕ
route_in night b k = route night.station (arriving night b).origin k.track k.side_in

abbrev pub route_out : Night → Block → Park → Option ℕ
route_out night b k = route night.station (departing night b).origin k.track k.side_out

-- a track with two sides for which the two routes exist
pub record HasRoutes (night : Night) (b : Block) (k : Park) : Type 0 where
  pub track : k.track.0 < length night.station.tracks
  pub route_in : IsSome (route_in night b k)
  pub route_out : IsSome (route_out night b k)

-- unparked, or such a track
abbrev pub HasOption : Night → Block → Option Park → Type 0
HasOption night b None = Unit {0}
HasOption night b (Some k) = HasRoutes night b k

-- a shape with one of its options and an id from 1 to 1,000,000
pub record IsBlock (night : Night) (b : Block) : Type 0 where
  pub from : 1 ≤ b.id
  pub to : b.id ≤ 1000000
  pub shape : HasShape night b
  pub option : HasOption night b b.park

-- the two route costs, of which an absent one counts 0; or `unparked`
abbrev pub option_cost : Night → Block → Option Park → ℕ
option_cost night b None = night.station.unparked
option_cost night b (Some k) = unwrap_or (route_in night b k) 0 + unwrap_or (route_out night b k) 0

-- `split` where its first unit isn't first in its train, `couple` where its first position isn't, and its option
abbrev pub block_cost : Night → Block → ℕ
block_cost night b = cond (b.p == 1) 0 night.station.split + cond (b.q == 1) 0 night.station.couple + option_cost night b b.park

-- what blocks cost together
abbrev pub total_cost : Night → List Block → ℕ
total_cost night blocks = sum_by (block_cost night) blocks

-- these blocks with distinct ids have each unit and each position once, and their run goes through
pub record IsFeasible (night : Night) (blocks : List Block) : Type 0 where
  pub ids : AreDistinct (map (λ b. b.id) blocks)
  pub each : All (IsBlock night) blocks
  pub covers : Covers night blocks
  pub through : RunsThrough night blocks

-- a pair of the block has two types
pub record HasTwoTypes (night : Night) (b : Block) : Type 0 where
  pub at : ℕ
  pub within : at < b.n
  pub differ : (unit_kind night b at).0 ≢ (position_kind night b at).0

-- the block is parked and its route in is absent
pub record LacksRouteIn (night : Night) (b : Block) : Type 0 where
  pub park : Park
  pub parked : b.park ≡ Some park
  pub absent : route_in night b park ≡ None

-- the block is parked and its route out is absent
pub record LacksRouteOut (night : Night) (b : Block) : Type 0 where
  pub park : Park
  pub parked : b.park ≡ Some park
  pub absent : route_out night b park ≡ None
