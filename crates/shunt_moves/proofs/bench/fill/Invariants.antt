use Rattle.std.proofs.Common.{◌≡◌, ◌≤◌, drop, length}
use Rattle.shunt_audit.specs.defs.Listed.{by_id}
use Rattle.shunt_moves.proofs.bench.fill.Given as goal

abbrev pub invariant-rest : goal.invariant-rest
invariant-rest l = record {
  within : l.left ≤ length l.blocks;
  night : l.present.night ≡ l.initial.present.night;
  blocks : l.present.state.blocks ≡ by_id (drop l.left l.blocks);
}

abbrev pub decreases-rest : goal.decreases-rest
decreases-rest l = l.left
