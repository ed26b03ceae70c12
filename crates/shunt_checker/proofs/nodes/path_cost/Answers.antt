use Rattle.std.proofs.Common.{◌≡◌, List, subst}
use Rattle.shunt_blocks.specs.declared.records.Block.{Block}
use Rattle.shunt_blocks.specs.defs.Lists.{total_cost}
use Rattle.shunt_checker.proofs.nodes.path_cost.Goals as goal

pub returns-clause-exact : goal.returns-clause-exact
returns-clause-exact c = subst (λ (bs : List Block). c.cost_of.result ≡ total_cost c.args.instance.now bs) c.blocks-2.ensures c.cost_of.ensures.exact
