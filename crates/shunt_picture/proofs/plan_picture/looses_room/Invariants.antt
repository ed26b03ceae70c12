use Rattle.std.proofs.Common.{◌≤◌, All, take}
use Rattle.shunt_picture.specs.defs.Layouts.{loose_width}
use Rattle.shunt_picture.proofs.plan_picture.looses_room.Given as goal

abbrev pub invariant-loop-loose : goal.invariant-loop-loose
invariant-loop-loose l = record {
  each : All (λ x. loose_width x ≤ l.room) (take l.loose-index l.looses);
  small : l.room ≤ 4000;
}
