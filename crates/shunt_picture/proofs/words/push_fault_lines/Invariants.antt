use Rattle.std.proofs.Common.{◌≡◌, ◌++◌, drop}
use Rattle.std.specs.List.{flat_map}
use Rattle.shunt_picture.specs.defs.Words.{fault_line}
use Rattle.shunt_picture.proofs.words.push_fault_lines.Given as goal

abbrev pub invariant-loop-fault : goal.invariant-loop-fault
invariant-loop-fault l = l.text ++ flat_map fault_line (drop l.fault-index l.faults) ≡ l.fn.text ++ flat_map fault_line l.faults
