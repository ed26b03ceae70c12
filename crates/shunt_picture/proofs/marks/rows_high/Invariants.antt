use Rattle.std.proofs.Common.{◌≡◌, ◌<◌, max, fold, take}
use Rattle.shunt_picture.proofs.marks.rows_high.Given as goal

abbrev pub invariant-loop-row : goal.invariant-loop-row
invariant-loop-row l = record {
  exact : l.last ≡ fold max 0 (take l.row-index l.rows);
  small : l.last < 65536;
}
