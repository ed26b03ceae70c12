use Rattle.shunt_page.proofs.Summed.{parts_through}
use Rattle.shunt_page.proofs.parts.parts_of.Goals as goal

pub returns-clause-together : goal.returns-clause-together
returns-clause-together c = parts_through c.args.instance.now c.args.blocks.now c.loop-block.parts c.loop-block.block-index c.loop-block.invariant.exact c.loop-block-test.false
