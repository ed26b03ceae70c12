-- What is asked of one shape, one track and one unit, where duals are to hold in a case.
use Rattle.std.specs.Prelude.{◌≡◌, ℕ, ◌+◌, ◌*◌, ◌<◌, ◌≤◌, ℤ, pos, ◌≤ℤ◌, All, List, Option, Some, None}
use Rattle.shunt_base.specs.declared.ids.Side.{Side}
use Rattle.shunt_base.specs.declared.ids.TrackId.{TrackId}
use Rattle.shunt_base.specs.declared.duals.Price.{Price}
use Rattle.shunt_base.specs.declared.duals.Duals.{Duals}
use Rattle.shunt_base.specs.declared.duals.Case.{Case}
use Rattle.shunt_instance.specs.defs.Instance.{Night}
use Rattle.shunt_blocks.specs.declared.records.Shape.{Shape}
use Rattle.shunt_blocks.specs.declared.records.Block.{Block}
use Rattle.shunt_blocks.specs.declared.records.Park.{Park}
use Rattle.shunt_blocks.specs.defs.Blocks.{IsOption, IsParkable}
use Rattle.shunt_blocks.specs.defs.Costs.{cost_with}
use Rattle.shunt_blocks.specs.defs.Stays.{shape_length}
use Rattle.shunt_choices.specs.defs.Paths.{Masks, masks_of}
use Rattle.shunt_choices.specs.defs.Choices.{IsFreeShape}
use Rattle.shunt_prices.specs.defs.Prices.{track_length, price_part_with}
use Rattle.shunt_prices.specs.defs.Cases.{duals_over, weight_with, HasRoom, HoldsInCase}
use Rattle.shunt_stacks.specs.defs.Stacks.{stack_of}
use Rattle.shunt_stacks.specs.defs.Cases.{HoldsBesideStacks}
use Rattle.shunt_dual.specs.declared.feasibility.Asked.{Asked}
use Rattle.shunt_dual.specs.declared.feasibility.Asked.TheVariants.{Every, BesideStacks}

-- whether an option is among those that are asked: each one is, or each that is of no stack
abbrev pub IsAsked : Asked → Option Park → Type 0
IsAsked Every park = Unit {0}
IsAsked BesideStacks park = stack_of park ≡ None

-- a way to park a shape weighs at least a sum, where the prices on its track come to a part, or it isn't asked, or the shape can't be
-- parked so
abbrev pub ParkHolds : Asked → Night → Shape → ℤ → ℕ → Park → Type 0
ParkHolds asked night s sum part k = IsAsked asked (Some k) → IsParkable night s k → sum ≤ℤ pos (1000 * cost_with night s (Some k) + part)

-- each way to park a shape on a track by one side in weighs at least a sum
pub record SideHolds (asked : Asked) (night : Night) (s : Shape) (sum : ℤ) (part : ℕ) (track : TrackId) (side_in : Side) : Type 0 where
  pub holds : (side_out : Side) → ParkHolds asked night s sum part (record { track = track; side_in = side_in; side_out = side_out })

-- each way to park a shape on a track weighs at least a sum, unless the shape is longer than the track
pub record TrackHolds (asked : Asked) (night : Night) (s : Shape) (sum : ℤ) (part : ℕ) (track : TrackId) : Type 0 where
  pub holds : (k : Park) → k.track ≡ track → shape_length night s ≤ track_length night track.0 → ParkHolds asked night s sum part k

-- each way to park a shape on one of that many tracks that is long enough for it weighs at least a sum
pub record TracksHold (asked : Asked) (night : Night) (prices : List Price) (s : Shape) (sum : ℤ) (tracks : ℕ) : Type 0 where
  pub holds : (k : Park) → k.track.0 < tracks → shape_length night s ≤ track_length night k.track.0 → ParkHolds asked night s sum (price_part_with night prices s (Some k)) k

-- the one case that these duals are with a multiplier
abbrev pub case_of : ℤ → Duals → Case
case_of multiplier d = record { to = 160; multiplier = multiplier; duals = d }

-- no option of a shape that is asked and has room weighs less than the shape's duals
pub record ShapeHolds (asked : Asked) (night : Night) (c : Case) (s : Shape) : Type 0 where
  pub holds : (park : Option Park) → IsAsked asked park → IsOption night s park → HasRoom night s park → duals_over night c.duals s ≤ℤ weight_with night c s park

-- the same of each free shape that begins at a unit
pub record UnitHolds (asked : Asked) (night : Night) (covered : Masks) (c : Case) (u : ℕ) : Type 0 where
  pub holds : (s : Shape) → IsFreeShape night covered u s → ShapeHolds asked night c s

-- the same of each free shape
abbrev pub CaseHolds : Asked → Night → Masks → Case → Type 0
CaseHolds Every night covered c = HoldsInCase night covered c
CaseHolds BesideStacks night covered c = HoldsBesideStacks night covered c

-- the same of each of these cases, at a path
abbrev pub AllHold : Asked → Night → List Block → List Case → Type 0
AllHold asked night path cases = All (CaseHolds asked night (masks_of night path)) cases
