use Rattle.std.proofs.Common.{◌≤◌, length}
use Rattle.shunt_ruin.proofs.tables.sort_in.Given as goal

abbrev pub invariant-lighter : goal.invariant-lighter
invariant-lighter l = l.place ≤ length l.spots

abbrev pub decreases-lighter : goal.decreases-lighter
decreases-lighter l = l.place
