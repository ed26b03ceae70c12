use Rattle.std.proofs.Common.{◌≤◌, All, take}
use Rattle.shunt_picture.specs.defs.Layouts.{kind_width}
use Rattle.shunt_picture.proofs.plan_picture.kinds_room.Given as goal

abbrev pub invariant-loop-kind : goal.invariant-loop-kind
invariant-loop-kind l = record {
  each : All (λ x. kind_width x ≤ l.room) (take l.kind-index l.kinds);
  small : l.room ≤ 4000;
}
