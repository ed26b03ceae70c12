use Rattle.shunt_recount.specs.defs.Offers.{GoesOn, HasUnits}
use Rattle.shunt_recount.proofs.ShapeLists.{Below, train_of}
use Rattle.shunt_recount.proofs.shapes.add_of.Given as goal

abbrev pub invariant-loop-dep : goal.invariant-loop-dep
invariant-loop-dep l = GoesOn l.fn.instance l.fn.covered (Below (HasUnits l.fn.unit l.fn.n) train_of l.dep) l.fn.shapes.items l.shapes.items
