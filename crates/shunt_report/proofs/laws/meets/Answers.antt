use Rattle.shunt_zones.proofs.Ordered.{StayLaws}
use Rattle.shunt_report.proofs.OfZones.{meets_are, loads_are}
use Rattle.shunt_report.proofs.laws.meets.Goals as goal

pub returns-clause-each : goal.returns-clause-each
returns-clause-each c = λ night zones plan is formed range.
    let laws : StayLaws = record {
      stays = λ n blocks i r. c.stays_of_blocks.ensures.stays n blocks i (c.stays_of_blocks.ensures.in_range n blocks r);
      from = c.stays_of_blocks.ensures.from;
    } in
    meets_are laws night zones plan is formed range

pub returns-clause-loads : goal.returns-clause-loads
returns-clause-loads c = loads_are
