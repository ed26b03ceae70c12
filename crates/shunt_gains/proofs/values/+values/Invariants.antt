use Rattle.std.proofs.Common.{◌≡◌, ℕ, ◌+◌, ◌*◌, ◌≤◌, length}
use Rattle.shunt_stacks.specs.defs.Spans.{best, best_with}
use Rattle.shunt_gains.specs.defs.Tables.{AreGainsBefore, AreRows, fixed_in, free_in, spans_at}
use Rattle.shunt_gains.proofs.Stepped.{left_with, most_with}
use Rattle.shunt_gains.proofs.values.+values.Given as goal

abbrev pub decreases-value : goal.decreases-value
decreases-value l = 8 * l.key.end + 4

abbrev pub decreases-filled : goal.decreases-filled
decreases-filled l = 8 * l.key.end + 3

abbrev pub decreases-step : goal.decreases-step
decreases-step l = 8 * l.key.end + 2

abbrev pub decreases-greatest : goal.decreases-greatest
decreases-greatest l = 8 * l.key.end + 1

abbrev pub decreases-with_piece : goal.decreases-with_piece
decreases-with_piece l = 8 * l.key.end

abbrev pub invariant-greatest-pieces : goal.invariant-greatest-pieces
invariant-greatest-pieces l = record {
  rows : AreRows (fixed_in l.fn.pieces) (free_in l.fn.pieces) l.rows;
  is : (n : ℕ) → l.key.end ≤ l.x + n → left_with (best_with (best n (fixed_in l.fn.pieces) (free_in l.fn.pieces)) l.key.end l.key.room) l.piece-items l.piece-index l.gain
      ≡ most_with (best_with (best n (fixed_in l.fn.pieces) (free_in l.fn.pieces)) l.key.end l.key.room) l.fn.without (spans_at l.lists l.x);
}

abbrev pub invariant-filled-events : goal.invariant-filled-events
invariant-filled-events l = record {
  rows : AreRows (fixed_in l.pieces) (free_in l.pieces) l.rows;
  each : AreGainsBefore (fixed_in l.pieces) (free_in l.pieces) l.key.end l.key.room l.row.items;
  long : length l.row.items ≡ l.back + 1;
}
