use Rattle.std.proofs.Common.{sym, ◌∙◌}
use Rattle.shunt_delay.specs.defs.Late.{late}
use Rattle.shunt_delay.specs.defs.Delays.{delay_findings}
use Rattle.shunt_delay.proofs.Lately.{in_range_late}
use Rattle.shunt_delay.proofs.Formed.{Laws, stays_late}
use Rattle.shunt_delay.proofs.Found.{passes, none_where, where_none, first_none, no_first}
use Rattle.shunt_delay.proofs.first.first_stop.Goals as goal

pub stop_of-requires : goal.stop_of-requires
stop_of-requires c = passes (late c.args.train.0 c.args.minutes c.args.instance.now) c.args.blocks.now c.in-Some.finding (sym c.in_ok-finding.ensures ∙ c.in-Some.is)

pub returns-in-Some : goal.returns-in-Some
returns-in-Some c =
    let night = late c.args.train.0 c.args.minutes c.args.instance.now in
    let laws : Laws = record {
      units = c.places.ensures.unit;
      formed = c.stays.ensures.formed;
      tracks = c.stays_of_blocks.ensures.tracks;
      can_stand =
          c.stays_of_blocks.ensures.in_range;
    } in
    let formed = stays_late laws c.args.train.0 c.args.minutes c.args.instance.now c.args.blocks.now c.station.ensures.formed c.requires.ready.in_range c.requires.few in
    let tracks = laws.tracks night c.args.blocks.now (laws.can_stand night c.args.blocks.now
    (in_range_late c.args.train.0 c.args.minutes c.args.instance.now c.args.blocks.now c.requires.ready.in_range)) in (
      c.stop_of.ensures ∙ sym c.in-Some.is ∙ c.in_ok-finding.ensures,
      λ feasible. no_first (delay_findings night c.args.blocks.now) c.in-Some.finding (none_where night c.args.blocks.now formed tracks feasible)
          (sym c.in_ok-finding.ensures ∙ c.in-Some.is),
    )

pub returns-in-None : goal.returns-in-None
returns-in-None c =
    let night = late c.args.train.0 c.args.minutes c.args.instance.now in
    let laws : Laws = record {
      units = c.places.ensures.unit;
      formed = c.stays.ensures.formed;
      tracks = c.stays_of_blocks.ensures.tracks;
      can_stand =
          c.stays_of_blocks.ensures.in_range;
    } in
    let formed = stays_late laws c.args.train.0 c.args.minutes c.args.instance.now c.args.blocks.now c.station.ensures.formed c.requires.ready.in_range c.requires.few in
    let tracks = laws.tracks night c.args.blocks.now (laws.can_stand night c.args.blocks.now
    (in_range_late c.args.train.0 c.args.minutes c.args.instance.now c.args.blocks.now c.requires.ready.in_range)) in
    where_none night c.args.blocks.now formed tracks (first_none (delay_findings night c.args.blocks.now) (sym c.in_ok-finding.ensures ∙ c.in-None.is))
