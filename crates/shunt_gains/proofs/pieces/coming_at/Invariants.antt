use Rattle.std.proofs.Common.{◌≡◌, take}
use Rattle.shunt_stacks.specs.defs.Spans.{coming_at}
use Rattle.shunt_gains.specs.defs.Tables.{spans_of}
use Rattle.shunt_gains.proofs.pieces.coming_at.Given as goal

abbrev pub invariant-pieces : goal.invariant-pieces
invariant-pieces l = spans_of l.coming.items ≡ coming_at l.x (spans_of (take l.piece-index l.pieces))
