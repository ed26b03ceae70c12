-- Sides.
use Rattle.std.specs.Prelude.{Bool, true, false}
use Rattle.shunt_base.specs.declared.ids.Side.{Side}
use Rattle.shunt_base.specs.declared.ids.Side.TheVariants.{A, B}

-- whether two sides are one
abbrev pub same_side : Side → Side → Bool
same_side A A = true
same_side A B = false
same_side B A = false
same_side B B = true
