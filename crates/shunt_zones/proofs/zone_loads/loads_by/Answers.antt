use Rattle.std.proofs.Common.{◌∙◌, ap}
use Rattle.shunt_zones.specs.defs.Loads.{most_of, busiest_of}
use Rattle.shunt_zones.proofs.Counted.{one_load}
use Rattle.shunt_zones.proofs.zone_loads.loads_by.Goals as goal

pub loop-zone-preserved : goal.loop-zone-preserved
loop-zone-preserved c =
    one_load c.args.moves.now c.loop-zone.zone c.in_ok-minutes.minutes.items _ _ _ c.loop-zone.loads.items c.push.new.self.items c.in_ok-minutes.ensures.exact
    (c.len.ensures ∙ c.in_ok-minutes.minutes.ok.0)
    (c.busiest_of-busiest.ensures ∙ ap busiest_of c.deref.ensures.value) (c.most_of-most.ensures.exact
    ∙ ap most_of c.deref-in-loop-zone.ensures.value) c.loop-zone.invariant c.in_ok-push.ensures.items
