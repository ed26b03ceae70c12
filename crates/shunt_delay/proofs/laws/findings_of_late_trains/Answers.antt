use Rattle.shunt_delay.proofs.Formed.{Laws}
use Rattle.shunt_delay.proofs.Words.{found_exactly, found_least, none_found}
use Rattle.shunt_delay.proofs.laws.findings_of_late_trains.Goals as goal

pub returns-clause-exactly : goal.returns-clause-exactly
returns-clause-exactly c = found_exactly

pub returns-clause-least : goal.returns-clause-least
returns-clause-least c = found_least

pub returns-clause-none : goal.returns-clause-none
returns-clause-none c =
    let laws : Laws = record {
      units = c.places.ensures.unit;
      formed = c.stays.ensures.formed;
      tracks = c.stays_of_blocks.ensures.tracks;
      can_stand =
          c.stays_of_blocks.ensures.in_range;
    } in
    λ i d night blocks n h few. none_found laws i d night blocks n h few
