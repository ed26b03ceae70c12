use Rattle.shunt_choices.proofs.Given.{PlaceLaws}
use Rattle.shunt_prices.proofs.Capacity.{RunLaws}
use Rattle.shunt_prices.proofs.RisingBounds.{sums_rise, bounds_rise}
use Rattle.shunt_prices.proofs.laws.bounds_rise.Goals as goal

pub returns : goal.returns
returns c =
    let laws : RunLaws = record {
      opened = c.instances.ensures.opened;
      together = c.standing_together.ensures;
      stays = c.stays_of_blocks.ensures.stays;
      tracks = c.stays_of_blocks.ensures.tracks;
      stand = c.stays_of_blocks.ensures.placed;
      in_time = c.shapes.ensures.in_time;
    } in
    let places : PlaceLaws = record { unit_in = c.places.ensures.unit_in; position_in = c.places.ensures.position_in } in
    record {
      sum = λ night path b cases k i within apart free go hold lt. sums_rise laws places c.stays_of_blocks.ensures.to night i path b within apart free go cases k hold lt;
      bound = λ night path b cases before after i within apart free go hold now then.
          bounds_rise laws places c.stays_of_blocks.ensures.to night i path b within apart free go cases before after hold now then;
    }
