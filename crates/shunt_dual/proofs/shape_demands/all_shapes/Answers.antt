use Rattle.std.proofs.Common.{◌+◌, subst, sym, arith}
use Rattle.shunt_dual.specs.defs.Asks.{AreFreeBelow}
use Rattle.shunt_dual.proofs.Gathered.{more_shapes, all_free, all_within}
use Rattle.shunt_dual.proofs.shape_demands.all_shapes.Goals as goal

pub loop-u-preserved : goal.loop-u-preserved
loop-u-preserved c =
    subst (AreFreeBelow c.args.instance.now c.args.covered.now (c.loop-u.u + 1)) (sym c.in_ok-add_shapes.ensures)
    (more_shapes c.args.instance.now c.args.covered.now c.loop-u.u c.loop-u.shapes.items
    (λ s. c.free_shapes.ensures.members c.args.instance.now c.args.covered.now c.loop-u.u s c.units-u-end.ensures.formed
    (omega (arith, c.loop-u-test.true, c.units-u-end.ensures.exact))) c.loop-u.invariant)

pub returns-clause-exact : goal.returns-clause-exact
returns-clause-exact c =
    all_free c.args.instance.now c.args.covered.now c.loop-u.u c.loop-u.shapes.items (omega (arith, c.loop-u-test.false, c.units-u-end.ensures.exact))
    (c.rooms_of_trains.ensures.unit c.args.instance.now) c.loop-u.invariant

pub returns-clause-within : goal.returns-clause-within
returns-clause-within c =
    all_within c.args.instance.now c.args.covered.now c.loop-u.shapes.items
    (all_free c.args.instance.now c.args.covered.now c.loop-u.u c.loop-u.shapes.items (omega (arith, c.loop-u-test.false, c.units-u-end.ensures.exact))
    (c.rooms_of_trains.ensures.unit c.args.instance.now) c.loop-u.invariant)
