use Rattle.std.proofs.Common.{◌+◌, ◌-◌}
use Rattle.shunt_dual.specs.defs.Tables.{cost_at, top}
use Rattle.shunt_dual.specs.defs.Tree.{IsGrown}
use Rattle.shunt_dual.proofs.table.grow.Given as goal

abbrev pub invariant-turns : goal.invariant-turns
invariant-turns l = IsGrown l.n l.rows top l.joined (cost_at l.table l.n) l.alpha l.debt l.place l.owner l.distance l.way l.when

abbrev pub decreases-turns : goal.decreases-turns
decreases-turns l = l.n + 1 - l.joined
