use Rattle.std.proofs.Common.{arith}
use Rattle.shunt_blocks.specs.defs.Lists.{times_unit}
use Rattle.shunt_checker.specs.defs.Stops.{IsUnitFault}
use Rattle.shunt_checker.proofs.Badness.{once_more}
use Rattle.shunt_checker.proofs.plan_faults.unit_fault.Goals as goal

pub loop-u-preserved : goal.loop-u-preserved
loop-u-preserved c = once_more (IsUnitFault c.args.instance.now c.args.blocks.now) (times_unit c.args.instance.now c.args.blocks.now) c.loop-u.u (λ x h. h.other) c.loop-u.invariant
    (omega (arith, c.times_unit.ensures, c.if-times_unit-ne1.false))

pub returns : goal.returns
returns c = λ x h. c.loop-u.invariant x h (let there = h.there in omega (arith, there, c.loop-u-test.false, c.units-u-end.ensures.exact))
