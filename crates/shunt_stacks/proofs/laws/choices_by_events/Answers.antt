use Rattle.shunt_choices.proofs.Given.{PlaceLaws}
use Rattle.shunt_stacks.proofs.Pairs.{EventLaws}
use Rattle.shunt_stacks.proofs.Tied.{TieLaws}
use Rattle.shunt_stacks.proofs.Beside.{lists_of_longer, agree, value_at}
use Rattle.shunt_stacks.proofs.Contexts.{first_free, around}
use Rattle.shunt_stacks.proofs.laws.choices_by_events.Goals as goal

pub returns : goal.returns
returns c =
    let places : PlaceLaws = record { unit_in = c.places.ensures.unit_in; position_in = c.places.ensures.position_in } in
    let events : EventLaws = record {
      places = places;
      unit = c.places.ensures.unit;
      position = c.places.ensures.position;
      opened = c.instances.ensures.opened;
      behind = c.rooms_of_trains.ensures.behind;
      formed = c.stays.ensures.formed;
      in_time = c.shapes.ensures.in_time;
    } in
    let laws : TieLaws = record {
      lists = record { events = events; stays = c.stays_of_blocks.ensures.stays; tracks = c.stays_of_blocks.ensures.tracks; clash = c.clash_law.ensures.law };
      places = places;
      part = c.ids_do_not_matter.ensures.placed_part;
      room = c.room.ensures.placed;
      stand = c.stays_of_blocks.ensures.placed;
    } in
    record {
      blocks = λ night path blocks b k stack i free are. lists_of_longer places night path b free k stack blocks are;
      agree = λ night path blocks b k stack count entry leave x y i num are free of out. agree events night i stack count entry leave num path b free of k blocks are x y out;
      value = λ night path blocks b k stack count entry leave n y room i all apart num are free of past le.
          value_at laws night i stack count entry leave num path all apart b free of k blocks are n y room past le;
      first = λ night path b u i next free. first_free places night path b u next free;
      around = λ night path blocks b k stack count entry leave u i all apart num are next begins.
          around laws night i stack count entry leave num path all apart k blocks are u next b begins;
    }
