use Rattle.shunt_lists.proofs.Members.{in_place}
use Rattle.shunt_delay.specs.defs.Late.{late}
use Rattle.shunt_delay.proofs.Found.{at_too_soon}
use Rattle.shunt_delay.proofs.first.first_too_soon.Goals as goal

pub returns-then-becomes_too_soon : goal.returns-then-becomes_too_soon
returns-then-becomes_too_soon c = at_too_soon (late c.args.train.0 c.args.minutes c.args.instance.now) c.args.blocks.now c.loop-block.block-index _ c.becomes_too_soon.result
    c.loop-block-test.true c.loop-block.invariant c.becomes_too_soon.ensures c.if-becomes_too_soon.true

pub becomes_too_soon-requires-clause-in_time : goal.becomes_too_soon-requires-clause-in_time
becomes_too_soon-requires-clause-in_time c = c.requires.ready.feasible.in_time _ (in_place c.args.blocks.now c.loop-block.block-index _ c.loop-block-test.true)
