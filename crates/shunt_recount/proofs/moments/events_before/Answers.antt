use Rattle.std.proofs.Common.{◌≡◌, ℕ, sym, subst, arith}
use Rattle.shunt_recount.specs.defs.Visits.{fixed_in, free_in}
use Rattle.shunt_recount.specs.defs.Moments.{AreEvents}
use Rattle.shunt_recount.proofs.Listed.{no_events, more_events}
use Rattle.shunt_recount.proofs.moments.events_before.Goals as goal

pub events-init : goal.events-init
events-init c = record {
  to = c.first_coming-event.ensures.to;
  are = subst (AreEvents (fixed_in c.args.visits.now) (free_in c.args.visits.now) c.first_coming-event.result) (sym c.new-events.ensures.items)
      (no_events (fixed_in c.args.visits.now) (free_in c.args.visits.now) c.first_coming-event.result c.first_coming-event.ensures.none);
}

pub events-preserved : goal.events-preserved
events-preserved c =
    let next = c.first_coming-event-in-events.ensures in
    let from = next.from in
    record {
      to = next.to;
      are = more_events (fixed_in c.args.visits.now) (free_in c.args.visits.now) c.events.event c.first_coming-event-in-events.result c.events.events.items
          c.push.new.self.items c.in_ok-push.ensures.items (omega (arith, from)) next.none c.events.invariant.are;
    }

pub returns : goal.returns
returns c =
    let low = c.events-test.false in
    let high = c.events.invariant.to in
    let e : c.events.event ≡ c.args.end = omega (arith, low, high) in
    subst (λ (y : ℕ). AreEvents (fixed_in c.args.visits.now) (free_in c.args.visits.now) y c.events.events.items) e c.events.invariant.are
