use Rattle.std.proofs.Common.{◌-◌, ◌≤◌}
use Rattle.shunt_recount.specs.defs.Visits.{fixed_in, free_in}
use Rattle.shunt_recount.specs.defs.Moments.{AreEvents}
use Rattle.shunt_recount.proofs.moments.events_before.Given as goal

abbrev pub decreases-events : goal.decreases-events
decreases-events l = l.end - l.event

abbrev pub invariant-events : goal.invariant-events
invariant-events l = record {
  to : l.event ≤ l.end;
  are : AreEvents (fixed_in l.visits) (free_in l.visits) l.event l.events.items;
}
