use Rattle.std.proofs.Common.{◌≡◌, ◌*◌, take}
use Rattle.shunt_prices.specs.defs.Sums.{sum_z, IsWithin}
use Rattle.shunt_prices.specs.defs.Cases.{weight}
use Rattle.shunt_checker.proofs.bounds.weights.Given as goal

abbrev pub invariant-loop-block : goal.invariant-loop-block
invariant-loop-block l = record {
  exact : l.total ≡ sum_z (weight l.instance l.fn.case) (take l.block-index l.blocks);
  small : IsWithin (l.block-index * 23040939999999999) l.total;
}
