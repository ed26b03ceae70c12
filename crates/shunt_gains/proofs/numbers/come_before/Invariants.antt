use Rattle.std.proofs.Common.{ℕ, ◌<◌}
use Rattle.shunt_stacks.specs.defs.Numbers.{arrives}
use Rattle.shunt_gains.proofs.numbers.come_before.Given as goal

abbrev pub invariant-loop-u : goal.invariant-loop-u
invariant-loop-u l = (w : ℕ) → w < l.u → arrives l.instance w < l.minute
