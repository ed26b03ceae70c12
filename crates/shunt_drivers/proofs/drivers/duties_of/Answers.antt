use Rattle.std.proofs.Common.{◌∙◌, arith}
use Rattle.shunt_drivers.proofs.MovesShared.{one_dealt, small_dealt}
use Rattle.shunt_drivers.proofs.drivers.duties_of.Goals as goal

pub loop-i-preserved : goal.loop-i-preserved
loop-i-preserved c = record {
  exact = one_dealt c.args.moves.now c.args.shares.now c.loop-i.i _ _ c.duty_by.result c.loop-i.duties.items c.push.new.self.items c.loop-i-test.true
      (let lt = c.loop-i-test.true in let many = c.requires.many in omega (arith, lt, many))
      c.duty_by.ensures.exact c.in_ok-push.ensures.items ∙ c.loop-i.invariant.exact;
  small = small_dealt c.duty_by.result c.loop-i.duties.items c.push.new.self.items c.duty_by.ensures.small c.loop-i.invariant.small c.in_ok-push.ensures.items;
}
