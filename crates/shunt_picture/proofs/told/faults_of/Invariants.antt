use Rattle.std.proofs.Common.{◌≡◌, ◌≤◌, ◌-◌, filter}
use Rattle.std.specs.List.{range_with_len}
use Rattle.shunt_picture.specs.defs.Told.{is_marked}
use Rattle.shunt_picture.proofs.told.faults_of.Given as goal

abbrev pub invariant-loop-kind : goal.invariant-loop-kind
invariant-loop-kind l = record {
  from : 5 ≤ l.kind;
  to : l.kind ≤ 11;
  faults : l.faults.items ≡ filter (is_marked l.findings l.id) (range_with_len 5 (l.kind - 5));
}
