use Rattle.std.proofs.Common.{ℕ, ◌<◌, ◌≤◌}
use Rattle.shunt_stacks.specs.defs.Numbers.{departs}
use Rattle.shunt_gains.proofs.numbers.gone_by.Given as goal

abbrev pub invariant-loop-v : goal.invariant-loop-v
invariant-loop-v l = (w : ℕ) → w < l.v → departs l.instance w ≤ l.minute
