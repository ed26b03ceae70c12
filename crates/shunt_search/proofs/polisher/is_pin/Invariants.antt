use Rattle.std.specs.Prelude.{All}
use Rattle.std.proofs.Common.{◌≢◌, take}
use Rattle.shunt_blocks.specs.declared.records.Block.{Block}
use Rattle.shunt_blocks.specs.defs.Pins.{without_id}
use Rattle.shunt_search.proofs.polisher.is_pin.Given as goal

abbrev pub invariant-loop-pin : goal.invariant-loop-pin
invariant-loop-pin l = All (λ (p : Block). without_id p ≢ without_id l.block) (take l.pin-index l.pins)
