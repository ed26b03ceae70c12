use Rattle.shunt_picture.specs.defs.Layouts.{loose_width}
use Rattle.shunt_picture.proofs.Widest.{widest_noted, widest_all}
use Rattle.shunt_picture.proofs.plan_picture.looses_room.Goals as goal

pub loop-loose-preserved : goal.loop-loose-preserved
loop-loose-preserved c = record {
  each = widest_noted loose_width c.args.looses.now c.loop-loose.loose-index c.loose-item.result c.loop-loose.room _ c.loop-loose-test.true c.loose-item.is
      c.loop-loose.invariant.each c.with_loose-room.ensures.exact;
  small = c.with_loose-room.ensures.small c.loop-loose.invariant.small;
}

pub returns-clause-each : goal.returns-clause-each
returns-clause-each c = widest_all loose_width c.args.looses.now c.loop-loose.loose-index c.loop-loose.room c.loop-loose.invariant.each c.loop-loose-test.false
