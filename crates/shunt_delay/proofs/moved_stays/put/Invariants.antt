use Rattle.shunt_delay.proofs.Moved.{HasCome}
use Rattle.shunt_delay.proofs.moved_stays.put.Given as goal

abbrev pub invariant-loop-stay : goal.invariant-loop-stay
invariant-loop-stay l = HasCome l.own l.minutes l.stay-index l.initial.timelines l.timelines
