-- Shares: what each pair gets of the cheapest block that could hold it.
use Rattle.std.specs.Prelude.{◌≡◌, ℕ, ◌+◌, ◌*◌, ◌/◌, ◌<◌, ◌≤◌, List, length, Option, Some, None, slice_index_or}
use Rattle.shunt_instance.specs.defs.Instance.{Night, unit_total, position_total}
use Rattle.shunt_blocks.specs.declared.records.Shape.{Shape}
use Rattle.shunt_blocks.specs.declared.records.Park.{Park}
use Rattle.shunt_blocks.specs.defs.Shapes.{IsPair, IsShape, unit_from, position_from}
use Rattle.shunt_blocks.specs.defs.Blocks.{IsOption}
use Rattle.shunt_blocks.specs.defs.Costs.{cost_with}

-- a shape has the unit and the position at one place of its two runs
pub record Holds (night : Night) (s : Shape) (u v : ℕ) : Type 0 where
  pub shape : IsShape night s
  pub place : ℕ
  pub within : place < s.n
  pub unit : u ≡ unit_from night s + place
  pub position : v ≡ position_from night s + place

-- what a shape costs with an option, in thousandths of a cost unit, divided by its number of units and rounded down
abbrev pub part_with : Night → Shape → Option Park → ℕ
part_with night s option = 1000 * cost_with night s option / s.n

-- the share of a matchable pair: the least of these parts over the shapes that hold it, each with its options
pub record IsShare (night : Night) (u v share : ℕ) : Type 0 where
  pub pair : IsPair night u v
  pub shape : Shape
  pub holds : Holds night shape u v
  pub option : Option Park
  pub is_option : IsOption night shape option
  pub is : share ≡ part_with night shape option
  pub least : (other : Shape) (o : Option Park) → Holds night other u v → IsOption night other o → share ≤ part_with night other o

-- entries for that many units and positions, unit by unit
pub record Table : Type 0 where
  pub units : ℕ
  pub positions : ℕ
  pub entries : List (Option ℕ)

-- the entry of a unit and a position
abbrev pub share_at : Table → ℕ → ℕ → Option ℕ
share_at t u v = slice_index_or t.entries (u * t.positions + v) None

-- what stands at a unit and a position: their share where they are matchable, and else nothing
abbrev pub IsEntry : Night → ℕ → ℕ → Option ℕ → Type 0
IsEntry night u v None = IsPair night u v → ⊥
IsEntry night u v (Some share) = IsShare night u v share

-- the table of the shares of a night
pub record AreShares (night : Night) (t : Table) : Type 0 where
  pub units : t.units ≡ unit_total night
  pub positions : t.positions ≡ position_total night
  pub size : length t.entries ≡ unit_total night * position_total night
  pub each : (u v : ℕ) → u < unit_total night → v < position_total night → IsEntry night u v (share_at t u v)
