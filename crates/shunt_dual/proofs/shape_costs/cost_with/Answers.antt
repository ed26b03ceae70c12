use Rattle.std.proofs.Common.{ap, ◌∙◌}
use Rattle.shunt_blocks.specs.declared.records.Block.{Block}
use Rattle.shunt_blocks.specs.defs.Costs.{block_cost}
use Rattle.shunt_dual.proofs.shape_costs.cost_with.Goals as goal

pub returns-clause-exact : goal.returns-clause-exact
returns-clause-exact c = c.block_cost.ensures.exact ∙ ap (λ (b : Block). block_cost c.args.instance.now b) c.block_with.ensures
