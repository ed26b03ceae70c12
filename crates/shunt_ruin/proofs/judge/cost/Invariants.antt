use Rattle.std.proofs.Common.{◌≡◌, ◌*◌, ◌≤◌, take}
use Rattle.shunt_blocks.specs.defs.Lists.{total_cost}
use Rattle.shunt_ruin.proofs.judge.cost.Given as goal

abbrev pub invariant-loop-block : goal.invariant-loop-block
invariant-loop-block l = record {
  is : l.cost ≡ total_cost l.instance (take l.block-index l.blocks);
  small : l.cost ≤ 4000000 * l.block-index;
}
