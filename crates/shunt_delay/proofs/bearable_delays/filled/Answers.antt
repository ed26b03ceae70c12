use Rattle.std.proofs.Common.{◌≡◌, ap, arith}
use Rattle.shunt_timeline.specs.defs.Holdings.{Holding}
use Rattle.shunt_delay.proofs.Formed.{Laws}
use Rattle.shunt_delay.proofs.Others.{first_come, all_come}
use Rattle.shunt_delay.proofs.bearable_delays.filled.Goals as goal

pub put-requires : goal.put-requires
put-requires c =
    let laws : Laws = record {
      units = c.places.ensures.unit;
      formed = c.stays.ensures.formed;
      tracks = c.stays_of_blocks.ensures.tracks;
      can_stand =
          c.stays_of_blocks.ensures.in_range;
    } in
    let spare : c.in_ok-timelines.timelines.spare ≡ 400 = ap (λ (h : Holding). h.spare) c.in_ok-timelines.ensures in
    first_come laws c.args.instance.now c.args.blocks.now c.station.ensures.formed c.requires.ready.in_range c.args.stays.now c.in_ok-timelines.timelines c.requires.stays
    (ap (λ (h : Holding). h.stays) c.in_ok-timelines.ensures) (ap (λ (h : Holding). h.lengths) c.in_ok-timelines.ensures) (omega arith)

pub returns : goal.returns
returns c =
    let laws : Laws = record {
      units = c.places.ensures.unit;
      formed = c.stays.ensures.formed;
      tracks = c.stays_of_blocks.ensures.tracks;
      can_stand =
          c.stays_of_blocks.ensures.in_range;
    } in
    let spare : c.in_ok-timelines.timelines.spare ≡ 400 = ap (λ (h : Holding). h.spare) c.in_ok-timelines.ensures in
    all_come laws c.args.instance.now c.args.blocks.now c.station.ensures.formed c.requires.ready.in_range c.args.stays.now c.in_ok-timelines.timelines c.put.new.timelines
    c.requires.stays
    (ap (λ (h : Holding). h.stays) c.in_ok-timelines.ensures) (ap (λ (h : Holding). h.lengths) c.in_ok-timelines.ensures)
    (omega arith) c.put.ensures.members c.put.ensures.lengths c.put.ensures.room
