use Rattle.shunt_delay.proofs.Moved.{HasGone}
use Rattle.shunt_delay.proofs.moved_stays.take.Given as goal

abbrev pub invariant-loop-stay : goal.invariant-loop-stay
invariant-loop-stay l = HasGone l.own l.stay-index l.initial.timelines l.timelines
