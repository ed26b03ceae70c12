use Rattle.std.proofs.Common.{◌≡◌, ◌≤◌, List, length, sym, subst, ap, ◌∙◌, arith}
use Rattle.shunt_base.specs.declared.keys.Stay.{Stay}
use Rattle.shunt_base.specs.defs.Keys.{AreStays}
use Rattle.shunt_lists.specs.defs.Members.{In}
use Rattle.shunt_lists.proofs.Members.{filter_from}
use Rattle.shunt_stays.proofs.SortedEvents.{tracks_within}
use Rattle.shunt_blocks.specs.defs.Lists.{track_lengths, stays_of}
use Rattle.std.specs.List.{filter}
use Rattle.shunt_audit.specs.defs.Listed.{crossings, too_longs}
use Rattle.shunt_audit.proofs.BlockStays.{few_stays}
use Rattle.shunt_delay.specs.defs.Late.{late}
use Rattle.shunt_delay.specs.defs.Delays.{first}
use Rattle.shunt_delay.proofs.Lately.{in_range_late}
use Rattle.shunt_delay.proofs.Formed.{Laws, stays_late}
use Rattle.shunt_delay.proofs.Found.{at_soon, at_crossing, at_long, own_longs}
use Rattle.shunt_delay.specs.defs.Kept.{of_train, AreOthersApart, AreOthersWithin}
use Rattle.shunt_delay.proofs.Others.{others_apart, others_within}
use Rattle.shunt_delay.proofs.first.first_finding.Goals as goal

pub returns-then-is_some : goal.returns-then-is_some
returns-then-is_some c = at_soon (late c.args.train.0 c.args.minutes c.args.instance.now) c.args.blocks.now c.first_too_soon-soon.result c.requires.ready.sorted
    c.first_too_soon-soon.ensures (sym c.is_some.ensures ∙ c.if-is_some.true)

pub returns-then-is_some-2 : goal.returns-then-is_some-2
returns-then-is_some-2 c = at_crossing (late c.args.train.0 c.args.minutes c.args.instance.now) c.args.blocks.now c.first_too_soon-soon.result c.first_crossing-crossing.result
    c.requires.ready.sorted c.first_too_soon-soon.ensures (sym c.is_some.ensures ∙ c.if-is_some.false)
    (c.first_crossing-crossing.ensures ∙ ap (λ (l : List Stay). first (crossings l)) (c.as_slice-stays.ensures.value ∙ c.in_ok-late.ensures))
    (sym c.is_some-2.ensures ∙ c.if-is_some-2.true)

pub first_too_long-requires-clause-stays : goal.first_too_long-requires-clause-stays
first_too_long-requires-clause-stays c =
    let laws : Laws = record {
      units = c.places.ensures.unit;
      formed = c.stays.ensures.formed;
      tracks = c.stays_of_blocks.ensures.tracks;
      can_stand =
          c.stays_of_blocks.ensures.in_range;
    } in
    subst AreStays (sym (c.as_slice-stays.ensures.value ∙ c.in_ok-late.ensures)) (stays_late laws c.args.train.0 c.args.minutes c.args.instance.now c.args.blocks.now
    c.station.ensures.formed c.requires.ready.in_range c.requires.few)

pub first_too_long-requires-clause-tracks : goal.first_too_long-requires-clause-tracks
first_too_long-requires-clause-tracks c =
    let night = late c.args.train.0 c.args.minutes c.args.instance.now in
    let own : c.as_slice-own.result.now ≡ filter (of_train c.args.train.0) (stays_of night c.args.blocks.now) = c.as_slice-own.ensures.value ∙ c.in_ok-list.ensures
    ∙ ap (λ (l : List Stay). filter (of_train c.args.train.0) l) (c.as_slice-stays.ensures.value ∙ c.in_ok-late.ensures) in
    tracks_within (track_lengths c.args.instance.now.station) (stays_of night c.args.blocks.now) c.as_slice-own.result.now
    (c.stays_of_blocks.ensures.tracks night c.args.blocks.now (c.stays_of_blocks.ensures.in_range night c.args.blocks.now
    (in_range_late c.args.train.0 c.args.minutes c.args.instance.now c.args.blocks.now c.requires.ready.in_range)))
    (λ s j. (filter_from (of_train c.args.train.0) (stays_of night c.args.blocks.now) s (subst (λ (l : List Stay). In s l) own j)).0)

pub first_too_long-requires-clause-alone : goal.first_too_long-requires-clause-alone
first_too_long-requires-clause-alone c =
    let laws : Laws = record {
      units = c.places.ensures.unit;
      formed = c.stays.ensures.formed;
      tracks = c.stays_of_blocks.ensures.tracks;
      can_stand =
          c.stays_of_blocks.ensures.in_range;
    } in
    own_longs c.args.train.0 (track_lengths c.args.instance.now.station) c.as_slice-stays.result.now c.as_slice-own.result.now (c.as_slice-own.ensures.value ∙ c.in_ok-list.ensures)
    (subst (AreOthersWithin c.args.train.0 (track_lengths c.args.instance.now.station)) (sym (c.as_slice-stays.ensures.value ∙ c.in_ok-late.ensures))
    (others_within laws c.args.instance.now c.args.blocks.now c.station.ensures.formed c.requires.ready.in_range c.args.train.0 c.args.minutes c.requires.ready.feasible))

pub first_too_long-requires-clause-few : goal.first_too_long-requires-clause-few
first_too_long-requires-clause-few c = subst (λ (l : List Stay). length l ≤ 65536) (sym (c.as_slice-stays.ensures.value ∙ c.in_ok-late.ensures))
    (omega (
      arith,
      few_stays (late c.args.train.0 c.args.minutes c.args.instance.now) c.args.blocks.now
          (in_range_late c.args.train.0 c.args.minutes c.args.instance.now c.args.blocks.now c.requires.ready.in_range),
    ))

pub returns : goal.returns
returns c = at_long (late c.args.train.0 c.args.minutes c.args.instance.now) c.args.blocks.now c.first_too_soon-soon.result c.first_crossing-crossing.result c.first_too_long.result
    c.requires.ready.sorted c.first_too_soon-soon.ensures (sym c.is_some.ensures ∙ c.if-is_some.false)
    (c.first_crossing-crossing.ensures ∙ ap (λ (l : List Stay). first (crossings l)) (c.as_slice-stays.ensures.value ∙ c.in_ok-late.ensures))
    (sym c.is_some-2.ensures ∙ c.if-is_some-2.false)
    (c.first_too_long.ensures ∙ ap (λ (l : List Stay). first (too_longs (track_lengths c.args.instance.now.station) l)) (c.as_slice-stays.ensures.value ∙ c.in_ok-late.ensures))

pub first_crossing-crossing-requires-clause-apart : goal.first_crossing-crossing-requires-clause-apart
first_crossing-crossing-requires-clause-apart c =
    let laws : Laws = record {
      units = c.places.ensures.unit;
      formed = c.stays.ensures.formed;
      tracks = c.stays_of_blocks.ensures.tracks;
      can_stand =
          c.stays_of_blocks.ensures.in_range;
    } in
    subst (AreOthersApart c.args.train.0) (sym (c.as_slice-stays.ensures.value ∙ c.in_ok-late.ensures))
    (others_apart laws c.args.instance.now c.args.blocks.now c.station.ensures.formed c.requires.ready.in_range c.args.train.0 c.args.minutes c.requires.ready.feasible)
