use Rattle.shunt_recount.specs.defs.Offers.{GoesOn, BeginsAt}
use Rattle.shunt_recount.proofs.ShapeLists.{Below, units_of}
use Rattle.shunt_recount.proofs.shapes.add_at.Given as goal

abbrev pub invariant-loop-n : goal.invariant-loop-n
invariant-loop-n l = GoesOn l.fn.instance l.fn.covered (Below (BeginsAt l.fn.instance l.fn.u) units_of l.n) l.fn.shapes.items l.shapes.items
