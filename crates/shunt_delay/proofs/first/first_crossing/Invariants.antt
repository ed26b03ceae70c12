use Rattle.std.specs.List.{flat_map}
use Rattle.std.proofs.Common.{◌≡◌, [], take}
use Rattle.shunt_audit.specs.defs.Listed.{crossings_of}
use Rattle.shunt_delay.proofs.first.first_crossing.Given as goal

abbrev pub invariant-loop-earlier : goal.invariant-loop-earlier
invariant-loop-earlier l = flat_map (crossings_of l.stays) (take l.earlier-index l.stays) ≡ []
