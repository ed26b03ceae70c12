use Rattle.std.proofs.Common.{ℕ, sym, subst, arith}
use Rattle.shunt_recount.specs.declared.moments.Moment.{Moment}
use Rattle.shunt_recount.specs.defs.Visits.{fixed_in, free_in}
use Rattle.shunt_recount.specs.defs.Moments.{event_at, IsMoment}
use Rattle.shunt_recount.proofs.Listed.{each_more, one_longer}
use Rattle.shunt_recount.proofs.moments.moments_at.Goals as goal

pub events-preserved : goal.events-preserved
events-preserved c =
    let items = c.in_ok-push.ensures.items in
    let long = one_longer c.events.moments.items c.push.new.self.items c.in_ok-moment_at.field-0 items in
    let before = c.events.invariant.count in
    record {
      count = omega (arith, long, before);
      each = each_more (λ (i : ℕ) (m : Moment). IsMoment (fixed_in c.args.visits.now) (free_in c.args.visits.now) c.args.events.now (event_at c.args.events.now i) m)
          c.events.moments.items c.push.new.self.items c.in_ok-moment_at.field-0 items c.events.invariant.each
          (subst (λ (i : ℕ). IsMoment (fixed_in c.args.visits.now) (free_in c.args.visits.now) c.args.events.now (event_at c.args.events.now i) c.in_ok-moment_at.field-0)
          (sym before) c.in_ok-moment_at.ensures);
    }
