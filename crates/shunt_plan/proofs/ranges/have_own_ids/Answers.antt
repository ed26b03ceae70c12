use Rattle.shunt_plan.proofs.Fronts.{own_ids_not, own_ids_more, own_ids_whole}
use Rattle.shunt_plan.proofs.ranges.have_own_ids.Goals as goal

pub returns-then-has_id : goal.returns-then-has_id
returns-then-has_id c = own_ids_not c.args.blocks.now c.loop-i.i _ c.loop-i-test.true c.if-has_id.ensures

pub loop-i-preserved : goal.loop-i-preserved
loop-i-preserved c = own_ids_more c.args.blocks.now c.loop-i.i _ c.loop-i-test.true c.if-has_id.ensures c.loop-i.invariant

pub returns : goal.returns
returns c = own_ids_whole c.args.blocks.now c.loop-i.i c.loop-i-test.false c.loop-i.invariant
