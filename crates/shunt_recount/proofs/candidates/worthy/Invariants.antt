use Rattle.std.proofs.Common.{take}
use Rattle.shunt_recount.specs.defs.Offers.{AreCandidatesOf}
use Rattle.shunt_recount.proofs.candidates.worthy.Given as goal

abbrev pub invariant-shapes : goal.invariant-shapes
invariant-shapes l = AreCandidatesOf l.instance l.case (take l.shape-index l.shapes) l.candidates.items
