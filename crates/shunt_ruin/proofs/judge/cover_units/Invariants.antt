use Rattle.std.proofs.Common.{◌≡◌, ℕ, ◌<◌}
use Rattle.shunt_blocks.specs.defs.Lists.{times_unit}
use Rattle.shunt_ruin.proofs.judge.cover_units.Given as goal

abbrev pub invariant-loop-unit : goal.invariant-loop-unit
invariant-loop-unit l = (u : ℕ) → u < l.unit → times_unit l.instance l.blocks u ≡ 1
