use Rattle.std.proofs.Common.{◌≡◌, List}
use Rattle.shunt_blocks.specs.declared.records.Block.{Block}
use Rattle.shunt_prices.specs.defs.Bounds.{unparked_in}
use Rattle.shunt_fillings.specs.defs.Least.{IsLeastBelow}
use Rattle.shunt_fillings.proofs.bounds.least_bound.Given as goal

abbrev pub invariant-loop-k : goal.invariant-loop-k
invariant-loop-k l = (path : List Block) → l.unparked ≡ unparked_in path → IsLeastBelow l.cases path l.sums l.k l.least
