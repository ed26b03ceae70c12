use Rattle.std.proofs.Common.{◌≡◌, ◌≤◌, take}
use Rattle.shunt_picture.specs.defs.Pictures.{first_move}
use Rattle.shunt_picture.proofs.plan_picture.first_arrive.Given as goal

abbrev pub invariant-loop-k : goal.invariant-loop-k
invariant-loop-k l = record {
  exact : l.first ≡ first_move (take l.k l.instance.arrive);
  small : l.first ≤ 2820;
}
