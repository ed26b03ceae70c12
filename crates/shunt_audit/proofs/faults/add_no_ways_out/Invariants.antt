use Rattle.std.proofs.Common.{◌≡◌, ◌++◌, take}
use Rattle.shunt_audit.specs.defs.Listed.{no_ways_out}
use Rattle.shunt_audit.proofs.faults.add_no_ways_out.Given as goal

abbrev pub invariant-loop-block : goal.invariant-loop-block
invariant-loop-block l = l.findings.items ≡ l.initial.findings.items ++ no_ways_out l.instance (take l.block-index l.blocks)
