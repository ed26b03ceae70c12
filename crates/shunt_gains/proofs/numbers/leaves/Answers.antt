use Rattle.shunt_gains.specs.defs.Events.{IsLeaveNumber}
use Rattle.shunt_gains.proofs.Ordered.{grown, pushed}
use Rattle.shunt_gains.proofs.numbers.leaves.Goals as goal

pub loop-v-preserved : goal.loop-v-preserved
loop-v-preserved c =
    let is = c.loop-v.invariant in
    let items = c.in_ok-push.ensures.items in
    record {
      long = grown c.loop-v.numbers.items c.push.new.self.items c.loop-v.v c.leave_number.result items is.long;
      each = pushed (IsLeaveNumber c.args.instance.now) c.loop-v.numbers.items c.push.new.self.items c.loop-v.v c.leave_number.result items is.long is.each c.leave_number.ensures;
    }
