use Rattle.std.proofs.Common.{◌≡◌, ◌++◌, take}
use Rattle.shunt_audit.specs.defs.Listed.{too_soons}
use Rattle.shunt_audit.proofs.faults.add_too_soons.Given as goal

abbrev pub invariant-loop-block : goal.invariant-loop-block
invariant-loop-block l = l.findings.items ≡ l.initial.findings.items ++ too_soons l.instance (take l.block-index l.blocks)
