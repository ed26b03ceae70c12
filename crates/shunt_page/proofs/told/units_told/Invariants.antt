use Rattle.std.proofs.Common.{◌≡◌, ◌+◌, map}
use Rattle.std.specs.List.{range_with_len}
use Rattle.shunt_page.specs.defs.Told.{unit_told}
use Rattle.shunt_page.proofs.told.units_told.Given as goal

abbrev pub invariant-loop-k : goal.invariant-loop-k
invariant-loop-k l = l.units.items ≡ map (λ k. unit_told l.instance (l.from + k)) (range_with_len 0 l.k)
