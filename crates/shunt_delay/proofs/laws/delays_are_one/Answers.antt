use Rattle.shunt_delay.proofs.Formed.{Laws}
use Rattle.shunt_delay.proofs.Words.{delays_one, limit_at}
use Rattle.shunt_delay.proofs.laws.delays_are_one.Goals as goal

pub returns-clause-one : goal.returns-clause-one
returns-clause-one c = delays_one

pub returns-clause-limit : goal.returns-clause-limit
returns-clause-limit c =
    let laws : Laws = record {
      units = c.places.ensures.unit;
      formed = c.stays.ensures.formed;
      tracks = c.stays_of_blocks.ensures.tracks;
      can_stand =
          c.stays_of_blocks.ensures.in_range;
    } in
    limit_at laws
