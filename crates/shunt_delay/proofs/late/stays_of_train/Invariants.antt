use Rattle.std.specs.List.{filter}
use Rattle.std.proofs.Common.{◌≡◌, take}
use Rattle.shunt_delay.specs.defs.Kept.{of_train}
use Rattle.shunt_delay.proofs.late.stays_of_train.Given as goal

abbrev pub invariant-loop-stay : goal.invariant-loop-stay
invariant-loop-stay l = l.own.items ≡ filter (of_train l.train.0) (take l.stay-index l.stays)
