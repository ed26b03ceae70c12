use Rattle.std.proofs.Common.{◌≤◌, All, take}
use Rattle.shunt_picture.specs.defs.Layouts.{end_of}
use Rattle.shunt_picture.proofs.marks.far_end.Given as goal

abbrev pub invariant-loop-train : goal.invariant-loop-train
invariant-loop-train l = record {
  least : l.least ≤ l.far;
  trains : All (λ t. end_of l.from t ≤ l.far) (take l.train-index l.trains);
}
