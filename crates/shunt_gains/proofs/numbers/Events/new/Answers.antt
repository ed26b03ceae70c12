use Rattle.shunt_gains.proofs.Ordered.{OrderLaws, all_numbers}
use Rattle.shunt_gains.proofs.numbers.Events.new.Goals as goal

pub returns : goal.returns
returns c =
    let night = c.args.instance.now in
    let formed = c.units.ensures.formed in
    let laws : OrderLaws night = record {
      opened = c.instances.ensures.opened night formed;
      unit = λ u lt. c.unit_numbers.ensures.unit night u formed lt;
      position = λ v lt. c.unit_numbers.ensures.position night v formed lt;
      behind = c.rooms_of_trains.ensures.behind;
      room = c.rooms_of_trains.ensures.position night;
    } in
    all_numbers night laws _ c.in_ok-entries.ensures c.in_ok-leaves.ensures (c.unit_numbers.ensures.units_few night formed) (c.unit_numbers.ensures.positions_few night formed)
