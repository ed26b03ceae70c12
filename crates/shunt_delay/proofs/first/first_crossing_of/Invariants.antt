use Rattle.std.proofs.Common.{◌≡◌, [], take}
use Rattle.shunt_audit.specs.defs.Listed.{crossings_of}
use Rattle.shunt_delay.proofs.first.first_crossing_of.Given as goal

abbrev pub invariant-loop-later : goal.invariant-loop-later
invariant-loop-later l = crossings_of (take l.later-index l.stays) l.earlier ≡ []
