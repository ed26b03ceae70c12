use Rattle.std.proofs.Common.{arith}
use Rattle.shunt_lists.proofs.Members.{in_place}
use Rattle.shunt_delay.proofs.InTime.{next_in_time}
use Rattle.shunt_delay.proofs.train.train_in_time.Goals as goal

pub loop-block-preserved : goal.loop-block-preserved
loop-block-preserved c = record {
  few = omega (arith, c.min-minutes.ensures, c.loop-block.invariant.few);
  in_time = next_in_time c.args.train.0 c.args.instance.now c.args.blocks.now c.loop-block.block-index _ c.loop-block.minutes c.minutes_in_time.result c.min-minutes.result
      c.loop-block-test.true c.loop-block.invariant.in_time c.minutes_in_time.ensures.in_time c.min-minutes.ensures;
}

pub minutes_in_time-requires-clause-in_time : goal.minutes_in_time-requires-clause-in_time
minutes_in_time-requires-clause-in_time c = c.requires.feasible.in_time _ (in_place c.args.blocks.now c.loop-block.block-index _ c.loop-block-test.true)
