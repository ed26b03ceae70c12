use Rattle.std.proofs.Common.{◌≤◌}
use Rattle.shunt_delay.specs.defs.Kept.{Hold}
use Rattle.shunt_delay.proofs.Greatest.{BearsBelow}
use Rattle.shunt_delay.proofs.train.greatest.Given as goal

abbrev pub invariant-loop-minutes : goal.invariant-loop-minutes
invariant-loop-minutes l = record {
  from : 1 ≤ l.minutes;
  below : BearsBelow l.instance l.blocks l.train.0 l.minutes;
  hold : Hold l.initial.timelines l.timelines;
}
