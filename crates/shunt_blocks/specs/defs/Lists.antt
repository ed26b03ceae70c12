-- Lists of blocks: which units and positions they have, what they cost, and when they are a plan that can be done.
use Rattle.std.specs.Prelude.{◌≡◌, ℕ, ◌+◌, ◌^◌, ◌<◌, ◌≤◌, ◌==◌, nat_le, nat_lt, Bool, not, ◌&&◌, All, List, [], ◌∷◌, map, length, count_by, sum_by}
use Rattle.std.specs.List.{filter_map, range_with_len}
use Rattle.shunt_lists.specs.defs.Members.{AreDistinct}
use Rattle.shunt_base.specs.declared.keys.Stay.{Stay}
use Rattle.shunt_stays.specs.defs.Run.{GoesThrough}
use Rattle.shunt_instance.specs.declared.records.Station.{Station}
use Rattle.shunt_instance.specs.defs.Instance.{Night, unit_total, position_total}
use Rattle.shunt_blocks.specs.declared.records.Shape.{Shape}
use Rattle.shunt_blocks.specs.declared.records.Block.{Block}
use Rattle.shunt_blocks.specs.defs.Shapes.{shape_of, unit_from, position_from, IsWithinTrains, IsInRange}
use Rattle.shunt_blocks.specs.defs.Blocks.{IsBlock}
use Rattle.shunt_blocks.specs.defs.Costs.{block_cost}
use Rattle.shunt_blocks.specs.defs.Stays.{stay_of}

-- whether `HasUnit` holds
abbrev pub has_unit : Night → Shape → ℕ → Bool
has_unit night s u = nat_le (unit_from night s) u && nat_lt u (unit_from night s + s.n)

-- whether `HasPosition` holds
abbrev pub has_position : Night → Shape → ℕ → Bool
has_position night s v = nat_le (position_from night s) v && nat_lt v (position_from night s + s.n)

-- how many of these blocks have a unit
abbrev pub times_unit : Night → List Block → ℕ → ℕ
times_unit night blocks u = count_by (λ b. has_unit night (shape_of b) u) blocks

-- how many of them have a position
abbrev pub times_position : Night → List Block → ℕ → ℕ
times_position night blocks v = count_by (λ b. has_position night (shape_of b) v) blocks

-- for each unit whether one of these blocks has it
abbrev pub units_taken : Night → List Block → List Bool
units_taken night blocks = map (λ u. not (times_unit night blocks u == 0)) (range_with_len 0 (unit_total night))

-- for each position whether one of them has it
abbrev pub positions_taken : Night → List Block → List Bool
positions_taken night blocks = map (λ v. not (times_position night blocks v == 0)) (range_with_len 0 (position_total night))

-- each unit and each position is in exactly one block
pub record Covers (night : Night) (blocks : List Block) : Type 0 where
  pub units : (u : ℕ) → u < unit_total night → times_unit night blocks u ≡ 1
  pub positions : (v : ℕ) → v < position_total night → times_position night blocks v ≡ 1

-- no unit and no position is in two of them
pub record ShareNothing (night : Night) (blocks : List Block) : Type 0 where
  pub units : (u : ℕ) → times_unit night blocks u ≤ 1
  pub positions : (v : ℕ) → times_position night blocks v ≤ 1

-- at most 400 blocks in range, of which no two have one id
pub record AreInRange (night : Night) (blocks : List Block) : Type 0 where
  pub few : length blocks ≤ 400
  pub each : All (IsInRange night) blocks
  pub ids : AreDistinct (map (λ b. b.id) blocks)

-- blocks with distinct ids that fit their type, whose trains, runs and tracks are the night's
pub record CanStand (night : Night) (blocks : List Block) : Type 0 where
  pub within : All (IsWithinTrains night) blocks
  pub small : All (λ b. b.id < 2 ^ 32) blocks
  pub ids : AreDistinct (map (λ b. b.id) blocks)

-- the lengths of the tracks in dm
abbrev pub track_lengths : Station → List ℕ
track_lengths s = map (λ t. t.length) s.tracks

-- the stays of those that have one
abbrev pub stays_of : Night → List Block → List Stay
stays_of night blocks = filter_map (stay_of night) blocks

-- the run of their stays goes through
abbrev pub RunsThrough : Night → List Block → Type 0
RunsThrough night blocks = GoesThrough (track_lengths night.station) (stays_of night blocks)

-- blocks with distinct ids that have each unit and each position once, and whose run goes through
pub record IsFeasible (night : Night) (blocks : List Block) : Type 0 where
  pub ids : AreDistinct (map (λ b. b.id) blocks)
  pub each : All (IsBlock night) blocks
  pub covers : Covers night blocks
  pub through : RunsThrough night blocks

-- what they cost together
abbrev pub total_cost : Night → List Block → ℕ
total_cost night blocks = sum_by (block_cost night) blocks

-- blocks with their places in the list as ids, from a number on
abbrev pub placed_from : ℕ → List Block → List Block
placed_from k [] = []
placed_from k (b ∷ blocks) = record b { id = k } ∷ placed_from (k + 1) blocks

-- the same from place 1
abbrev pub placed : List Block → List Block
placed blocks = placed_from 1 blocks
