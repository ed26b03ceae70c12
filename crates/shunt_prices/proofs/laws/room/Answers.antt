use Rattle.shunt_prices.proofs.Capacity.{RunLaws}
use Rattle.shunt_prices.proofs.Room.{has_room, placed_room}
use Rattle.shunt_prices.proofs.laws.room.Goals as goal

pub returns : goal.returns
returns c =
    let laws : RunLaws = record {
      opened = c.instances.ensures.opened;
      together = c.standing_together.ensures;
      stays = c.stays_of_blocks.ensures.stays;
      tracks = c.stays_of_blocks.ensures.tracks;
      stand = c.stays_of_blocks.ensures.placed;
      in_time = c.shapes.ensures.in_time;
    } in
    record {
      own_ids = λ night blocks b i stand go there is. has_room laws c.stays_of_blocks.ensures.to night i blocks b stand go there (laws.in_time night _ is.shape);
      placed = λ night blocks b i within apart go there is. placed_room laws c.stays_of_blocks.ensures.to night i blocks b within apart go there (laws.in_time night _ is.shape);
    }
