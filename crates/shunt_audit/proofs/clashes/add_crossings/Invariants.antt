use Rattle.std.specs.List.{flat_map}
use Rattle.std.proofs.Common.{◌≡◌, ◌++◌, take}
use Rattle.shunt_audit.specs.defs.Listed.{crossings_of}
use Rattle.shunt_audit.proofs.clashes.add_crossings.Given as goal

abbrev pub invariant-loop-earlier : goal.invariant-loop-earlier
invariant-loop-earlier l = l.findings.items ≡ l.initial.findings.items ++ flat_map (crossings_of l.stays) (take l.earlier-index l.stays)
