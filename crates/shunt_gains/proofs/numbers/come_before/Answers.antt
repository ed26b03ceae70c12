use Rattle.std.proofs.Common.{arith}
use Rattle.shunt_gains.proofs.Ordered.{OrderLaws, come_at}
use Rattle.shunt_gains.proofs.numbers.come_before.Goals as goal

pub returns-then-arrives-minute-clause-exact : goal.returns-then-arrives-minute-clause-exact
returns-then-arrives-minute-clause-exact c =
    let night = c.args.instance.now in
    let formed = c.units-u-end.ensures.formed in
    let laws : OrderLaws night = record {
      opened = c.instances.ensures.opened night formed;
      unit = λ u lt. c.unit_numbers.ensures.unit night u formed lt;
      position = λ v lt. c.unit_numbers.ensures.position night v formed lt;
      behind = c.rooms_of_trains.ensures.behind;
      room = c.rooms_of_trains.ensures.position night;
    } in
    let within = c.loop-u-test.true in
    let total = c.units-u-end.ensures.exact in
    let more = c.if-arrives-minute.true in
    let is = c.arrives.ensures in
    come_at night laws c.loop-u.u c.args.minute (omega (arith, within, total)) c.loop-u.invariant (omega (arith, more, is))
