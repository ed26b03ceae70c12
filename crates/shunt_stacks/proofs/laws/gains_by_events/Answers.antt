use Rattle.shunt_choices.proofs.Given.{PlaceLaws}
use Rattle.shunt_stacks.specs.defs.Stacks.{blocks_of}
use Rattle.shunt_stacks.proofs.Pairs.{EventLaws}
use Rattle.shunt_stacks.proofs.Tied.{TieLaws, gain_is, own_events}
use Rattle.shunt_stacks.proofs.Numbered.{NumberLaws, numbered}
use Rattle.shunt_stacks.proofs.Existence.{frees, frees_are}
use Rattle.shunt_stacks.proofs.laws.gains_by_events.Goals as goal

pub returns : goal.returns
returns c =
    let places : PlaceLaws = record { unit_in = c.places.ensures.unit_in; position_in = c.places.ensures.position_in } in
    let events : EventLaws = record {
      places = places;
      unit = c.places.ensures.unit;
      position = c.places.ensures.position;
      opened = c.instances.ensures.opened;
      behind = c.rooms_of_trains.ensures.behind;
      formed = c.stays.ensures.formed;
      in_time = c.shapes.ensures.in_time;
    } in
    let laws : TieLaws = record {
      lists = record { events = events; stays = c.stays_of_blocks.ensures.stays; tracks = c.stays_of_blocks.ensures.tracks; clash = c.clash_law.ensures.law };
      places = places;
      part = c.ids_do_not_matter.ensures.placed_part;
      room = c.room.ensures.placed;
      stand = c.stays_of_blocks.ensures.placed;
    } in
    let numbers : NumberLaws = record {
      opened = c.instances.ensures.opened;
      unit = c.unit_numbers.ensures.unit;
      position = c.unit_numbers.ensures.position;
      units_few = c.unit_numbers.ensures.units_few;
      behind = c.rooms_of_trains.ensures.behind;
    } in
    record {
      gain = λ night path blocks k stack count entry leave most i all apart num are. gain_is laws night i stack count entry leave num path all apart k blocks are most;
      own = λ night path blocks k stack count entry leave i all apart num are. own_events laws night i stack count entry leave num path all apart k blocks are;
      numbers = λ night i. numbered numbers night i;
      blocks = λ night path k stack i. (blocks_of stack (frees night path), frees_are places c.choices.ensures.members c.few_blocks.ensures.most night i path stack k);
    }
