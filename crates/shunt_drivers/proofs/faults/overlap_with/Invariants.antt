use Rattle.std.proofs.Common.{◌≡◌, drop}
use Rattle.shunt_drivers.specs.defs.RosterFaults.{overlap_with}
use Rattle.shunt_drivers.proofs.faults.overlap_with.Given as goal

abbrev pub invariant-loop-second : goal.invariant-loop-second
invariant-loop-second l = overlap_with l.first (drop l.second-index l.later) ≡ overlap_with l.first l.later
