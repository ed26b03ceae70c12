use Rattle.std.proofs.Common.{◌≡◌, map, pos, take}
use Rattle.shunt_dual.proofs.table.signed.Given as goal

abbrev pub invariant-loop-number : goal.invariant-loop-number
invariant-loop-number l = l.all.items ≡ map pos (take l.number-index l.numbers)
