use Rattle.std.proofs.Common.{◌≡◌, drop}
use Rattle.shunt_drivers.specs.defs.RosterFaults.{overlap_in}
use Rattle.shunt_drivers.proofs.faults.overlap_in.Given as goal

abbrev pub invariant-loop-i : goal.invariant-loop-i
invariant-loop-i l = overlap_in (drop l.i l.tasks) ≡ overlap_in l.tasks
