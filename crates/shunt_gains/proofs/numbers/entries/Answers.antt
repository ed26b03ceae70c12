use Rattle.shunt_gains.specs.defs.Events.{IsEntryNumber}
use Rattle.shunt_gains.proofs.Ordered.{grown, pushed}
use Rattle.shunt_gains.proofs.numbers.entries.Goals as goal

pub loop-u-preserved : goal.loop-u-preserved
loop-u-preserved c =
    let is = c.loop-u.invariant in
    let items = c.in_ok-push.ensures.items in
    record {
      long = grown c.loop-u.numbers.items c.push.new.self.items c.loop-u.u c.entry_number.result items is.long;
      each = pushed (IsEntryNumber c.args.instance.now) c.loop-u.numbers.items c.push.new.self.items c.loop-u.u c.entry_number.result items is.long is.each c.entry_number.ensures;
    }
