use Rattle.std.proofs.Common.{take}
use Rattle.shunt_checker.specs.defs.Firsts.{Finds}
use Rattle.shunt_checker.specs.defs.PlanFaults.{HasBadBlock}
use Rattle.shunt_checker.specs.defs.Stops.{Less}
use Rattle.shunt_checker.proofs.plan_faults.bad_block.Given as goal

abbrev pub invariant-loop-block : goal.invariant-loop-block
invariant-loop-block l = Finds (HasBadBlock l.instance (take l.block-index l.blocks)) Less l.least
