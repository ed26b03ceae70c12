use Rattle.std.proofs.Common.{◌≡◌, take}
use Rattle.shunt_lists.specs.defs.Members.{In}
use Rattle.shunt_recount.specs.declared.moments.Stop.{Stop}
use Rattle.shunt_recount.specs.defs.Visits.{spans_of}
use Rattle.shunt_recount.specs.defs.Moments.{stop_spans, IsStop}
use Rattle.shunt_recount.proofs.moments.stops_of.Given as goal

abbrev pub invariant-visits : goal.invariant-visits
invariant-visits l = record {
  same : stop_spans l.stops.items ≡ spans_of (take l.visit-index l.visits);
  each : (s : Stop) → In s l.stops.items → IsStop l.events s;
}
