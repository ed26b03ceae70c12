use Rattle.shunt_delay.proofs.Formed.{Laws}
use Rattle.shunt_delay.proofs.Others.{can_come, stays_feasible}
use Rattle.shunt_delay.proofs.train.stop_at.Goals as goal

pub goes_through-requires : goal.goes_through-requires
goes_through-requires c =
    let laws : Laws = record {
      units = c.places.ensures.unit;
      formed = c.stays.ensures.formed;
      tracks = c.stays_of_blocks.ensures.tracks;
      can_stand =
          c.stays_of_blocks.ensures.in_range;
    } in
    can_come laws c.args.instance.now c.args.blocks.now c.station.ensures.formed c.requires.ready.in_range c.args.train.0 c.args.minutes c.args.own.now c.args.timelines.now
    c.requires.few c.requires.others c.clash.ensures.formed c.requires.in_time

pub returns-then-goes_through-clause-stops : goal.returns-then-goes_through-clause-stops
returns-then-goes_through-clause-stops c =
    let laws : Laws = record {
      units = c.places.ensures.unit;
      formed = c.stays.ensures.formed;
      tracks = c.stays_of_blocks.ensures.tracks;
      can_stand =
          c.stays_of_blocks.ensures.in_range;
    } in
    stays_feasible laws c.args.instance.now c.args.blocks.now c.station.ensures.formed c.requires.ready.in_range c.args.train.0 c.args.minutes c.args.own.now c.args.timelines.now
    c.requires.few c.requires.others c.requires.in_time
    (λ stays listed same. c.goes_through.ensures.through stays listed same c.if-goes_through.true)
