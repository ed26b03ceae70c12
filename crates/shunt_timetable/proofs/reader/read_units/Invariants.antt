use Rattle.std.proofs.Common.{◌≡◌, ◌+◌, ◌-◌, ◌≤◌, [], length}
use Rattle.shunt_rows.specs.defs.Checks.{answer}
use Rattle.shunt_timetable.specs.defs.TimetableFormat.{units_from, empty_train}
use Rattle.shunt_timetable.proofs.reader.read_units.Given as goal

abbrev pub invariant-loop-k : goal.invariant-loop-k
invariant-loop-k l = record {
  stated : answer l.n (units_from l.station l.before (record { name = l.name-inside.bytes.items; minute = l.minute; origin = l.origin; units = l.units.items; placed = [] }) l.row
      l.k (length l.row + 1 - l.k)) ≡ answer l.n (units_from l.station l.before (empty_train l.name-inside.bytes.items l.minute l.origin) l.row l.first
      (length l.row - (l.first - 1)));
  few : length l.units.items + l.first ≤ l.k;
  room : l.before + length l.units.items ≤ 160;
}
