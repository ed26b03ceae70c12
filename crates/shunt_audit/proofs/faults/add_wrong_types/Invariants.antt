use Rattle.std.proofs.Common.{◌≡◌, ◌++◌, take}
use Rattle.shunt_audit.specs.defs.Listed.{wrong_types}
use Rattle.shunt_audit.proofs.faults.add_wrong_types.Given as goal

abbrev pub invariant-loop-block : goal.invariant-loop-block
invariant-loop-block l = l.findings.items ≡ l.initial.findings.items ++ wrong_types l.instance (take l.block-index l.blocks)
