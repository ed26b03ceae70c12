use Rattle.std.specs.Prelude.{map}
use Rattle.std.proofs.Common.{◌≡◌, ℕ, ◌+◌, ◌-◌, ◌*◌, ◌≤◌, length}
use Rattle.shunt_stacks.specs.defs.Spans.{best, best_with, greater, greatest_of}
use Rattle.shunt_recount.specs.defs.Moments.{event_at, stop_spans, fixed_of, free_of, events_of, AreGains, AreKnown}
use Rattle.shunt_recount.proofs.Stepped.{left_with}
use Rattle.shunt_recount.proofs.values.+values.Given as goal

abbrev pub decreases-value : goal.decreases-value
decreases-value l = 8 * l.key.end + 4

abbrev pub decreases-filled : goal.decreases-filled
decreases-filled l = 8 * l.key.end + 3

abbrev pub decreases-next_gain : goal.decreases-next_gain
decreases-next_gain l = 8 * l.key.end + 2

abbrev pub decreases-greatest : goal.decreases-greatest
decreases-greatest l = 8 * l.key.end + 1

abbrev pub decreases-with_stop : goal.decreases-with_stop
decreases-with_stop l = 8 * l.key.end

abbrev pub invariant-greatest-stops : goal.invariant-greatest-stops
invariant-greatest-stops l = record {
  known : AreKnown l.fn.moments l.known;
  is : (n : ℕ) → l.key.end ≤ event_at (events_of l.fn.moments) (l.key.top - length l.fn.gains) + n →
      left_with (best_with (best n (fixed_of l.fn.moments) (free_of l.fn.moments)) l.key.end l.key.room) l.stops l.stop-index l.gain
      ≡ greater l.fn.without (greatest_of (map (best_with (best n (fixed_of l.fn.moments) (free_of l.fn.moments)) l.key.end l.key.room) (stop_spans l.fn.stops)));
}

abbrev pub decreases-filled-gains : goal.decreases-filled-gains
decreases-filled-gains l = l.back + 1 - length l.gains.items

abbrev pub invariant-filled-gains : goal.invariant-filled-gains
invariant-filled-gains l = record {
  known : AreKnown l.moments l.known;
  gains : AreGains l.moments l.key.end l.key.room l.gains.items;
}
