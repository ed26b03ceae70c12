use Rattle.shunt_moves.proofs.Filled.{new_before, few_before}
use Rattle.shunt_moves.proofs.bench.fill.Goals as goal

pub come-requires-clause-new : goal.come-requires-clause-new
come-requires-clause-new c = new_before c.args.blocks.now c.rest.left _ c.rest.present.state.blocks c.rest-test.true c.rest.invariant.within c.requires.in_range.ids
    c.rest.invariant.blocks

pub come-requires-clause-few : goal.come-requires-clause-few
come-requires-clause-few c = few_before c.args.blocks.now c.rest.left c.rest.present.state.blocks c.rest-test.true c.rest.invariant.within c.requires.in_range.few
    c.rest.invariant.blocks
