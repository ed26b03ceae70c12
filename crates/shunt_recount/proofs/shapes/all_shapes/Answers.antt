use Rattle.shunt_recount.proofs.ShapeLists.{next_unit}
use Rattle.shunt_recount.proofs.shapes.all_shapes.Goals as goal

pub loop-u-preserved : goal.loop-u-preserved
loop-u-preserved c = next_unit c.args.instance.now c.args.covered.now c.loop-u.u c.loop-u.shapes.items c.add_at.new.shapes.items c.loop-u.invariant c.in_ok-add_at.ensures
