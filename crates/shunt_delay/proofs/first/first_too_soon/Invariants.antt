use Rattle.std.proofs.Common.{◌≡◌, [], take}
use Rattle.shunt_audit.specs.defs.Listed.{too_soons}
use Rattle.shunt_delay.specs.defs.Late.{late}
use Rattle.shunt_delay.proofs.first.first_too_soon.Given as goal

abbrev pub invariant-loop-block : goal.invariant-loop-block
invariant-loop-block l = too_soons (late l.train.0 l.minutes l.instance) (take l.block-index l.blocks) ≡ []
