use Rattle.std.proofs.Common.{take}
use Rattle.shunt_blocks.specs.defs.Pins.{Keeps}
use Rattle.shunt_plan.proofs.kept.lost_pin.Given as goal

abbrev pub invariant-loop-pin : goal.invariant-loop-pin
invariant-loop-pin l = Keeps l.plan.blocks (take l.pin-index l.pins)
