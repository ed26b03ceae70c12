use Rattle.std.proofs.Common.{◌≡◌, take}
use Rattle.shunt_gains.specs.defs.Tables.{spans_of}
use Rattle.shunt_fillings.specs.defs.Pieces.{spans_with}
use Rattle.shunt_fillings.proofs.pieces.free_pieces.Given as goal

abbrev pub invariant-candidates : goal.invariant-candidates
invariant-candidates l = spans_of l.pieces.items ≡ spans_with l.instance l.events (take l.candidate-index l.candidates)
