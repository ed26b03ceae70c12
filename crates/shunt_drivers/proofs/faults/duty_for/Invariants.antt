use Rattle.std.proofs.Common.{◌≡◌, drop}
use Rattle.shunt_drivers.specs.defs.RosterFaults.{duty_for}
use Rattle.shunt_drivers.proofs.faults.duty_for.Given as goal

abbrev pub invariant-loop-duty : goal.invariant-loop-duty
invariant-loop-duty l = duty_for (drop l.duty-index l.duties) l.event ≡ duty_for l.duties l.event
