-- What blocks cost.
use Rattle.std.specs.Prelude.{◌≡◌, ℕ, ◌+◌, ◌≤◌, ◌==◌, cond, unwrap_or, Option, Some, None}
use Rattle.shunt_instance.specs.defs.Instance.{Night}
use Rattle.shunt_blocks.specs.declared.records.Shape.{Shape}
use Rattle.shunt_blocks.specs.declared.records.Block.{Block}
use Rattle.shunt_blocks.specs.declared.records.Park.{Park}
use Rattle.shunt_blocks.specs.defs.Shapes.{shape_of}
use Rattle.shunt_blocks.specs.defs.Ways.{park_way_in, park_way_out}
use Rattle.shunt_blocks.specs.defs.Blocks.{IsOption}

-- what it costs to take the units out of their train and to put them into the other: `split` but at the front of the one, `couple` but at the front of the other
abbrev pub shape_cost : Night → Shape → ℕ
shape_cost night s = cond (s.p == 1) 0 night.station.split + cond (s.q == 1) 0 night.station.couple

-- what an option costs: `unparked`, or the ways in and out, of which an absent one counts 0
abbrev pub option_cost : Night → Shape → Option Park → ℕ
option_cost night s None = night.station.unparked
option_cost night s (Some k) = unwrap_or (park_way_in night s k) 0 + unwrap_or (park_way_out night s.dep k) 0

-- what a shape costs with an option
abbrev pub cost_with : Night → Shape → Option Park → ℕ
cost_with night s park = shape_cost night s + option_cost night s park

-- what a block costs
abbrev pub block_cost : Night → Block → ℕ
block_cost night b = cost_with night (shape_of b) b.park

-- the least cost over the options of a shape
pub record IsCheapest (night : Night) (s : Shape) (cost : ℕ) : Type 0 where
  pub option : Option Park
  pub is_option : IsOption night s option
  pub is : cost ≡ cost_with night s option
  pub least : (other : Option Park) → IsOption night s other → cost ≤ cost_with night s other
