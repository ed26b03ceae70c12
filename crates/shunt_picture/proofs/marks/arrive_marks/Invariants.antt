use Rattle.std.proofs.Common.{◌≡◌, ◌≤◌, length, map}
use Rattle.std.specs.List.{range_with_len}
use Rattle.shunt_picture.specs.defs.Marks.{arrive_mark}
use Rattle.shunt_picture.proofs.marks.arrive_marks.Given as goal

abbrev pub invariant-loop-k : goal.invariant-loop-k
invariant-loop-k l = record {
  exact : l.marks.items ≡ map (arrive_mark l.instance l.findings) (range_with_len 0 l.k);
  few : length l.marks.items ≤ l.k;
}
