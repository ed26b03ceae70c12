use Rattle.std.proofs.Common.{◌≡◌}
use Rattle.shunt_recount.specs.defs.Offers.{GoesWith}
use Rattle.shunt_recount.proofs.ShapeLists.{place_from, one_more, from_place}
use Rattle.shunt_recount.proofs.shapes.add_with.Goals as goal

pub loop-q-preserved : goal.loop-q-preserved
loop-q-preserved c =
    let unit = c.args.unit in
    one_more c.args.instance.now c.args.covered.now (GoesWith unit c.args.n c.args.dep.0) place_from c.loop-q.q c.args.shapes.now.items c.loop-q.shapes.items c.loop-q.invariant
    (λ s. s ≡ record { arr = unit.train; p = unit.place; n = c.args.n; dep = c.args.dep; q = c.loop-q.q }) c.add_shape.new.shapes.items
    (λ s free with at. from_place unit c.args.n c.args.dep c.loop-q.q s with at) c.in_ok-add_shape.ensures
