use Rattle.std.proofs.Common.{ℕ, ◌+◌, ◌*◌}
use Rattle.shunt_ascent.proofs.tables.Table.+sums.Given as goal

abbrev pub decreases-best : goal.decreases-best
decreases-best l = 4 * l.stretch.to + 3

abbrev pub decreases-step : goal.decreases-step
decreases-step l = 4 * l.stretch.to + 2

abbrev pub decreases-whole : goal.decreases-whole
decreases-whole l = 4 * l.stretch.to + 1

abbrev pub decreases-with_inside : goal.decreases-with_inside
decreases-with_inside l = 4 * l.stretch.to
