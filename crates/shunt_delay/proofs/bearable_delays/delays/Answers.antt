use Rattle.std.proofs.Common.{ap, ◌∙◌}
use Rattle.shunt_audit.specs.defs.Listed.{by_id}
use Rattle.shunt_delay.proofs.Formed.{Laws}
use Rattle.shunt_delay.proofs.Planned.{ready, same_delays, trains_there}
use Rattle.shunt_delay.proofs.bearable_delays.delays.Goals as goal

pub delays_of_blocks-requires : goal.delays_of_blocks-requires
delays_of_blocks-requires c =
    let laws : Laws = record {
      units = c.places.ensures.unit;
      formed = c.stays.ensures.formed;
      tracks = c.stays_of_blocks.ensures.tracks;
      can_stand =
          c.stays_of_blocks.ensures.in_range;
    } in
    ready laws c.args.instance.now c.station.ensures.formed (λ b k. (c.blocks-2.ensures c.args.instance.now b).0 k) c.args.plan.now.blocks c.deref.result.now
    c.requires.in_range.blocks c.requires.feasible (c.deref.ensures.value ∙ c.in_ok-sorted.ensures ∙ ap by_id c.as_slice.ensures)

pub returns-clause-exact : goal.returns-clause-exact
returns-clause-exact c =
    let laws : Laws = record {
      units = c.places.ensures.unit;
      formed = c.stays.ensures.formed;
      tracks = c.stays_of_blocks.ensures.tracks;
      can_stand =
          c.stays_of_blocks.ensures.in_range;
    } in
    same_delays laws c.args.instance.now c.station.ensures.formed c.args.plan.now.blocks c.deref.result.now c.in_ok-delays.delays.items c.requires.in_range.blocks
    (c.deref.ensures.value ∙ c.in_ok-sorted.ensures ∙ ap by_id c.as_slice.ensures) c.in_ok-delays.ensures

pub returns-clause-of_night : goal.returns-clause-of_night
returns-clause-of_night c = trains_there c.args.instance.now c.deref.result.now c.in_ok-delays.delays.items c.in_ok-delays.ensures
