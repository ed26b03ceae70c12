use Rattle.std.proofs.Common.{◌≡◌, take, sum_by}
use Rattle.std.specs.List.{count_by}
use Rattle.shunt_stays.specs.defs.Crossings.{crosses}
use Rattle.shunt_cross.proofs.clash.pairs.Given as goal

abbrev pub invariant-loop-stay : goal.invariant-loop-stay
invariant-loop-stay l = l.pairs ≡ sum_by (λ b. count_by (crosses b) l.stays) (take l.stay-index l.stays)
