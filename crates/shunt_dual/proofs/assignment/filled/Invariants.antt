use Rattle.std.proofs.Common.{◌≡◌, map, take}
use Rattle.shunt_dual.specs.defs.Tables.{or_top}
use Rattle.shunt_dual.proofs.assignment.filled.Given as goal

abbrev pub invariant-loop-entry : goal.invariant-loop-entry
invariant-loop-entry l = l.table.items ≡ map or_top (take l.entry-index l.entries)
