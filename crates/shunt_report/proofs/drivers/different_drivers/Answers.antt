use Rattle.std.proofs.Common.{◌+◌, arith}
use Rattle.shunt_report.proofs.Lines.{later_is, one_duty}
use Rattle.shunt_report.proofs.drivers.different_drivers.Goals as goal

pub loop-i-preserved : goal.loop-i-preserved
loop-i-preserved c = record {
  counted = one_duty c.args.duties.now _ c.loop-i.i _ c.loop-i.different c.newly-different.result _ c.loop-i-test.true
      (later_is c.args.duties.now (c.loop-i.i + 1)) c.newly-different.ensures.exact c.loop-i.invariant.counted;
  few = let small = c.newly-different.ensures.small in let few = c.loop-i.invariant.few in omega (arith, small, few);
}
