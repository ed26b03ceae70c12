use Rattle.std.proofs.Common.{◌≡◌, ◌≤◌, ◌+◌, drop}
use Rattle.shunt_report.specs.defs.DriversTexts.{different_drivers}
use Rattle.shunt_report.proofs.drivers.different_drivers.Given as goal

abbrev pub invariant-loop-i : goal.invariant-loop-i
invariant-loop-i l = record {
  counted : l.different + different_drivers (drop l.i l.duties) ≡ different_drivers l.duties;
  few : l.different ≤ l.i;
}
