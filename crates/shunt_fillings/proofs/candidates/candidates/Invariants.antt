use Rattle.std.proofs.Common.{take}
use Rattle.shunt_fillings.specs.defs.Pieces.{seen, AreTaken}
use Rattle.shunt_fillings.proofs.candidates.candidates.Given as goal

abbrev pub invariant-offers : goal.invariant-offers
invariant-offers l = AreTaken l.instance (seen l.stack) (take l.offer-index l.offers) l.candidates.items
