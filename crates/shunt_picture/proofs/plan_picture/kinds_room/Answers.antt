use Rattle.shunt_picture.specs.defs.Layouts.{kind_width}
use Rattle.shunt_picture.proofs.Widest.{widest_noted, widest_all}
use Rattle.shunt_picture.proofs.plan_picture.kinds_room.Goals as goal

pub loop-kind-preserved : goal.loop-kind-preserved
loop-kind-preserved c = record {
  each = widest_noted kind_width c.args.kinds.now c.loop-kind.kind-index c.kind-item.result c.loop-kind.room _ c.loop-kind-test.true c.kind-item.is c.loop-kind.invariant.each
      c.with_kind-room.ensures.exact;
  small = c.with_kind-room.ensures.small c.loop-kind.invariant.small;
}

pub returns-clause-each : goal.returns-clause-each
returns-clause-each c = widest_all kind_width c.args.kinds.now c.loop-kind.kind-index c.loop-kind.room c.loop-kind.invariant.each c.loop-kind-test.false
