use Rattle.std.proofs.Common.{map, take}
use Rattle.shunt_lists.specs.defs.Members.{AreDistinct}
use Rattle.shunt_plan.proofs.ranges.have_own_ids.Given as goal

abbrev pub invariant-loop-i : goal.invariant-loop-i
invariant-loop-i l = AreDistinct (map (λ b. b.id) (take l.i l.blocks))
