use Rattle.std.proofs.Common.{◌≤◌, length, take}
use Rattle.shunt_picture.proofs.Laid.{AreRowed}
use Rattle.shunt_picture.proofs.marks.train_rows.Given as goal

abbrev pub invariant-loop-train : goal.invariant-loop-train
invariant-loop-train l = record {
  rowed : AreRowed l.from (take l.train-index l.trains) l.rows.items l.ends.items;
  few : length l.ends.items ≤ l.train-index;
}
