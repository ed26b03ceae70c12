use Rattle.std.proofs.Common.{◌≡◌, map, take}
use Rattle.shunt_dual.specs.defs.Tables.{minus}
use Rattle.shunt_dual.proofs.table.negated.Given as goal

abbrev pub invariant-loop-number : goal.invariant-loop-number
invariant-loop-number l = l.all.items ≡ map minus (take l.number-index l.numbers)
