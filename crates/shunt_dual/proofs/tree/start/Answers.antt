use Rattle.std.proofs.Common.{arith}
use Rattle.shunt_dual.proofs.Counts.{all_but_last}
use Rattle.shunt_dual.proofs.tree.start.Goals as goal

pub returns-clause-count : goal.returns-clause-count
returns-clause-count c = all_but_last _ _ c.fill.new.self (omega arith) (c.fill.ensures.after (λ y e. e))
