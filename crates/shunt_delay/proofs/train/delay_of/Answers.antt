use Rattle.std.proofs.Common.{List, ap, ◌∙◌, arith}
use Rattle.std.specs.List.{filter}
use Rattle.shunt_base.specs.declared.keys.Stay.{Stay}
use Rattle.shunt_delay.specs.defs.Kept.{of_train}
use Rattle.shunt_delay.proofs.Formed.{Laws}
use Rattle.shunt_delay.proofs.Others.{taken_out, can_come, in_time_now, put_back, still_others}
use Rattle.shunt_delay.proofs.train.delay_of.Goals as goal

pub greatest-delay-requires-clause-others : goal.greatest-delay-requires-clause-others
greatest-delay-requires-clause-others c =
    let laws : Laws = record {
      units = c.places.ensures.unit;
      formed = c.stays.ensures.formed;
      tracks = c.stays_of_blocks.ensures.tracks;
      can_stand =
          c.stays_of_blocks.ensures.in_range;
    } in
    taken_out laws c.args.instance.now c.args.blocks.now c.station.ensures.formed c.requires.ready.in_range c.args.train.0 c.as_slice-own.result.now c.args.timelines.now
    c.take.new.timelines
    (c.as_slice-own.ensures.value ∙ c.in_ok-list.ensures ∙ ap (λ (l : List Stay). filter (of_train c.args.train.0) l) c.requires.stays) c.requires.all c.take.ensures.members
    c.take.ensures.lengths c.take.ensures.room

pub put-requires : goal.put-requires
put-requires c =
    let laws : Laws = record {
      units = c.places.ensures.unit;
      formed = c.stays.ensures.formed;
      tracks = c.stays_of_blocks.ensures.tracks;
      can_stand =
          c.stays_of_blocks.ensures.in_range;
    } in
    let others = taken_out laws c.args.instance.now c.args.blocks.now c.station.ensures.formed c.requires.ready.in_range c.args.train.0 c.as_slice-own.result.now
    c.args.timelines.now c.take.new.timelines
    (c.as_slice-own.ensures.value ∙ c.in_ok-list.ensures ∙ ap (λ (l : List Stay). filter (of_train c.args.train.0) l) c.requires.stays) c.requires.all c.take.ensures.members
    c.take.ensures.lengths c.take.ensures.room in
    can_come laws c.args.instance.now c.args.blocks.now c.station.ensures.formed c.requires.ready.in_range c.args.train.0 0 c.as_slice-own.result.now c.greatest-delay.new.timelines
    (omega arith)
    (still_others c.args.instance.now c.args.blocks.now c.args.train.0 c.as_slice-own.result.now c.take.new.timelines c.greatest-delay.new.timelines others
    c.greatest-delay.ensures.same) c.clash.ensures.formed
    (in_time_now laws c.args.instance.now c.args.blocks.now c.station.ensures.formed c.requires.ready.in_range c.args.train.0 c.requires.ready.feasible)

pub returns-clause-all : goal.returns-clause-all
returns-clause-all c =
    let laws : Laws = record {
      units = c.places.ensures.unit;
      formed = c.stays.ensures.formed;
      tracks = c.stays_of_blocks.ensures.tracks;
      can_stand =
          c.stays_of_blocks.ensures.in_range;
    } in
    let others = taken_out laws c.args.instance.now c.args.blocks.now c.station.ensures.formed c.requires.ready.in_range c.args.train.0 c.as_slice-own.result.now
    c.args.timelines.now c.take.new.timelines
    (c.as_slice-own.ensures.value ∙ c.in_ok-list.ensures ∙ ap (λ (l : List Stay). filter (of_train c.args.train.0) l) c.requires.stays) c.requires.all c.take.ensures.members
    c.take.ensures.lengths c.take.ensures.room in
    put_back laws c.args.instance.now c.args.blocks.now c.station.ensures.formed c.requires.ready.in_range c.args.train.0 c.as_slice-own.result.now c.greatest-delay.new.timelines
    c.put.new.timelines
    (still_others c.args.instance.now c.args.blocks.now c.args.train.0 c.as_slice-own.result.now c.take.new.timelines c.greatest-delay.new.timelines others
    c.greatest-delay.ensures.same) c.requires.ready.feasible c.put.ensures.members c.put.ensures.lengths c.put.ensures.room
