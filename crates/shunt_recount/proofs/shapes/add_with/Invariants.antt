use Rattle.shunt_recount.specs.defs.Offers.{GoesOn, GoesWith}
use Rattle.shunt_recount.proofs.ShapeLists.{Below, place_from}
use Rattle.shunt_recount.proofs.shapes.add_with.Given as goal

abbrev pub invariant-loop-q : goal.invariant-loop-q
invariant-loop-q l = GoesOn l.fn.instance l.fn.covered (Below (GoesWith l.fn.unit l.fn.n l.fn.dep.0) place_from l.q) l.fn.shapes.items l.shapes.items
