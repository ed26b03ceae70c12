use Rattle.std.proofs.Common.{◌≡◌, ℕ, ◌<◌, length, slice_index_or}
use Rattle.shunt_recount.specs.declared.moments.Moment.{Moment}
use Rattle.shunt_recount.specs.defs.Visits.{fixed_in, free_in}
use Rattle.shunt_recount.specs.defs.Moments.{event_at, IsMoment}
use Rattle.shunt_recount.proofs.moments.moments_at.Given as goal

abbrev pub invariant-events : goal.invariant-events
invariant-events l = record {
  count : length l.moments.items ≡ l.k;
  each : (i : ℕ) (d : Moment) → i < length l.moments.items
      → IsMoment (fixed_in l.visits) (free_in l.visits) l.events (event_at l.events i) (slice_index_or l.moments.items i d);
}
