use Rattle.std.proofs.Common.{◌≡◌, ℕ, ◌<◌}
use Rattle.shunt_blocks.specs.defs.Lists.{times_position}
use Rattle.shunt_ruin.proofs.judge.cover_positions.Given as goal

abbrev pub invariant-loop-position : goal.invariant-loop-position
invariant-loop-position l = (v : ℕ) → v < l.position → times_position l.instance l.blocks v ≡ 1
