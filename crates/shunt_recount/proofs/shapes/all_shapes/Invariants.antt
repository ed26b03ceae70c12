use Rattle.std.proofs.Common.{[]}
use Rattle.shunt_recount.specs.defs.Offers.{GoesOn}
use Rattle.shunt_recount.proofs.ShapeLists.{BeginsBelow}
use Rattle.shunt_recount.proofs.shapes.all_shapes.Given as goal

abbrev pub invariant-loop-u : goal.invariant-loop-u
invariant-loop-u l = GoesOn l.instance l.covered (BeginsBelow l.instance l.u) [] l.shapes.items
