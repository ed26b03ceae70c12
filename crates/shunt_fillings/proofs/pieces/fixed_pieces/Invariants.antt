use Rattle.std.proofs.Common.{◌≡◌, take}
use Rattle.shunt_gains.specs.defs.Tables.{spans_of}
use Rattle.shunt_fillings.specs.defs.Pieces.{seen, fixed_of_stack}
use Rattle.shunt_fillings.proofs.pieces.fixed_pieces.Given as goal

abbrev pub invariant-blocks-2 : goal.invariant-blocks-2
invariant-blocks-2 l = spans_of l.pieces.items ≡ fixed_of_stack l.instance l.events (take l.block-index l.path) (seen l.stack)
