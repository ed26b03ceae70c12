use Rattle.std.specs.Prelude.{All}
use Rattle.std.proofs.Common.{take}
use Rattle.shunt_blocks.specs.defs.Pins.{IsKept}
use Rattle.shunt_ruin.proofs.judge.keep_all.Given as goal

abbrev pub invariant-loop-pin : goal.invariant-loop-pin
invariant-loop-pin l = All (IsKept l.blocks) (take l.pin-index l.pins)
