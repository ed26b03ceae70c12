use Rattle.std.proofs.Common.{◌+◌, ◌≤◌, length, sym, subst, arith}
use Rattle.shunt_instance.specs.declared.records.Train.{Train}
use Rattle.shunt_instance.specs.declared.records.Unit.{Unit as TrainUnit}
use Rattle.shunt_instance.specs.defs.Words.{train_at}
use Rattle.shunt_instance.specs.defs.Instance.{unit_at}
use Rattle.shunt_recount.specs.defs.Offers.{BeginsAt, HasUnits, GoesOn}
use Rattle.shunt_recount.proofs.ShapeLists.{units_of, one_more, all_there, of_unit, units_fit}
use Rattle.shunt_recount.proofs.shapes.add_at.Goals as goal

pub loop-n-preserved : goal.loop-n-preserved
loop-n-preserved c =
    let night = c.args.instance.now in
    one_more night c.args.covered.now (BeginsAt night c.args.u) units_of c.loop-n.n c.args.shapes.now.items c.loop-n.shapes.items c.loop-n.invariant
    (HasUnits (unit_at night c.args.u) c.loop-n.n) c.add_of.new.shapes.items
    (λ s free first at. (of_unit night (λ t k within lt. c.places.ensures.unit night t k within lt) c.args.u s free.shape.within first, at))
    (subst (λ (x : TrainUnit). GoesOn night c.args.covered.now (HasUnits x c.loop-n.n) c.loop-n.shapes.items c.add_of.new.shapes.items) c.unit-unit.ensures.exact
    c.in_ok-add_of.ensures)

pub returns : goal.returns
returns c =
    let night = c.args.instance.now in
    all_there night c.args.covered.now (BeginsAt night c.args.u) units_of c.loop-n.n c.args.shapes.now.items c.loop-n.shapes.items c.loop-n.invariant
    (λ s free first.
    let fit : c.unit-unit.result.place + s.n ≤ length c.arrive.result.now.units + 1 =
    subst (λ (t : Train). c.unit-unit.result.place + s.n ≤ length t.units + 1) (sym c.arrive.ensures.exact)
    (subst (λ (x : TrainUnit). x.place + s.n ≤ length (train_at night.arrive x.train.0).units + 1) (sym c.unit-unit.ensures.exact)
    (units_fit night (λ t k within lt. c.places.ensures.unit night t k within lt) c.args.u s free.shape.within first)) in
    omega (arith, fit, c.len-units.ensures, c.loop-n-test.false))
