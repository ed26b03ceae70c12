use Rattle.shunt_recount.specs.defs.Offers.{HasUnits, GoesWith}
use Rattle.shunt_recount.proofs.ShapeLists.{train_of, one_more}
use Rattle.shunt_recount.proofs.shapes.add_of.Goals as goal

pub loop-dep-preserved : goal.loop-dep-preserved
loop-dep-preserved c =
    one_more c.args.instance.now c.args.covered.now (HasUnits c.args.unit c.args.n) train_of c.loop-dep.dep c.args.shapes.now.items c.loop-dep.shapes.items c.loop-dep.invariant
    (GoesWith c.args.unit c.args.n c.loop-dep.dep) c.add_with.new.shapes.items (λ s free h at. (h, at)) c.in_ok-add_with.ensures
