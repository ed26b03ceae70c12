use Rattle.std.proofs.Common.{arith}
use Rattle.shunt_blocks.specs.defs.Lists.{times_position}
use Rattle.shunt_checker.specs.defs.Stops.{IsPlaceFault}
use Rattle.shunt_checker.proofs.Badness.{once_more}
use Rattle.shunt_checker.proofs.plan_faults.place_fault.Goals as goal

pub loop-v-preserved : goal.loop-v-preserved
loop-v-preserved c = once_more (IsPlaceFault c.args.instance.now c.args.blocks.now) (times_position c.args.instance.now c.args.blocks.now) c.loop-v.v
    (λ x h. h.other) c.loop-v.invariant
    (omega (arith, c.times_position.ensures, c.if-times_position-ne1.false))

pub returns : goal.returns
returns c = λ x h. c.loop-v.invariant x h (let there = h.there in omega (arith, there, c.loop-v-test.false, c.positions-v-end.ensures.exact))
