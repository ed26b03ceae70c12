use Rattle.std.proofs.Common.{◌≤◌}
use Rattle.shunt_picture.proofs.rows.free_row.Given as goal

abbrev pub invariant-loop-row : goal.invariant-loop-row
invariant-loop-row l = record {
  from : 400 ≤ l.row;
  to : l.row ≤ l.last;
}
