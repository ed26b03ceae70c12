use Rattle.std.specs.Prelude.{pos}
use Rattle.shunt_recount.specs.declared.visits.Visit.{Visit}
use Rattle.shunt_recount.specs.defs.Moments.{IsStop}
use Rattle.shunt_recount.proofs.Listed.{more_stops, more_each}
use Rattle.shunt_recount.proofs.moments.stops_of.Goals as goal

pub visits-preserved : goal.visits-preserved
visits-preserved c =
    let d : Visit = record { comes = 0; inside = 0; until = 0; gone = 0; length = 0; gain = pos 0 } in
    let items = c.in_ok-push.ensures.items in
    record {
      same = more_stops c.args.visits.now c.visits.visit-index d c.visits.stops.items c.push.new.self.items c.stop_of.result c.visits-test.true items
          c.visits.invariant.same c.stop_of.ensures.same;
      each = more_each (IsStop c.args.events.now) c.visits.stops.items c.push.new.self.items c.stop_of.result items c.visits.invariant.each c.stop_of.ensures.is;
    }
