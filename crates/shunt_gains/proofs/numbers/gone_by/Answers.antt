use Rattle.std.proofs.Common.{arith}
use Rattle.shunt_gains.proofs.Ordered.{OrderLaws, gone_at}
use Rattle.shunt_gains.proofs.numbers.gone_by.Goals as goal

pub returns-then-departs-minute-clause-exact : goal.returns-then-departs-minute-clause-exact
returns-then-departs-minute-clause-exact c =
    let night = c.args.instance.now in
    let formed = c.positions-v-end.ensures.formed in
    let laws : OrderLaws night = record {
      opened = c.instances.ensures.opened night formed;
      unit = λ u lt. c.unit_numbers.ensures.unit night u formed lt;
      position = λ v lt. c.unit_numbers.ensures.position night v formed lt;
      behind = c.rooms_of_trains.ensures.behind;
      room = c.rooms_of_trains.ensures.position night;
    } in
    let within = c.loop-v-test.true in
    let total = c.positions-v-end.ensures.exact in
    let more = c.if-departs-minute.true in
    let is = c.departs.ensures in
    gone_at night laws c.loop-v.v c.args.minute (omega (arith, within, total)) c.loop-v.invariant (omega (arith, more, is))
