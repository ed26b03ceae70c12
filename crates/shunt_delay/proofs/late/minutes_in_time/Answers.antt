use Rattle.std.proofs.Common.{◌≡◌, ◌-◌, ◌+◌, arith, ap}
use Rattle.shunt_instance.specs.defs.Instance.{ready}
use Rattle.shunt_blocks.specs.declared.records.Shape.{Shape}
use Rattle.shunt_blocks.specs.defs.Shapes.{shape_of, unit_from}
use Rattle.shunt_blocks.specs.defs.Stays.{leave_minute}
use Rattle.shunt_delay.proofs.InTime.{one_ready, own_in_time, other_in_time}
use Rattle.shunt_delay.proofs.late.minutes_in_time.Goals as goal

pub loop-k-preserved : goal.loop-k-preserved
loop-k-preserved c =
    let shape = shape_of c.args.block.now in
    let count = ap (λ (s : Shape). s.n) c.shape_of-shape.ensures in
    let left : c.saturating_sub.result ≡ leave_minute c.args.instance.now shape - ready c.args.instance.now (unit_from c.args.instance.now shape + c.loop-k.k) = cc in
    record {
      few = omega (arith, c.min-minutes.ensures, c.loop-k.invariant.few);
      below = one_ready c.args.instance.now shape c.loop-k.k c.loop-k.minutes c.saturating_sub.result c.min-minutes.result c.requires.in_time
          (omega (arith, count, c.loop-k-test.true)) c.loop-k.invariant.below left c.min-minutes.ensures;
    }

pub returns-clause-in_time : goal.returns-clause-in_time
returns-clause-in_time c = own_in_time c.places.ensures.unit c.args.train.0 c.loop-k.minutes c.args.instance.now c.args.block.now c.loop-k.k c.requires.within.runs
    c.if-block-train.false (omega (arith, ap (λ (s : Shape). s.n) c.shape_of-shape.ensures, c.loop-k-test.false)) c.loop-k.invariant.below

pub returns-then-block-train-clause-in_time : goal.returns-then-block-train-clause-in_time
returns-then-block-train-clause-in_time c = other_in_time c.places.ensures.unit c.args.train.0 120 c.args.instance.now c.args.block.now c.requires.within.runs c.if-block-train.true
    c.requires.in_time
