use Rattle.std.proofs.Common.{◌≡◌, ◌*◌, ◌≤◌, take}
use Rattle.shunt_blocks.specs.defs.Lists.{total_cost}
use Rattle.shunt_search.proofs.wholes.path_cost.Given as goal

abbrev pub invariant-loop-place : goal.invariant-loop-place
invariant-loop-place l = record {
  is : l.cost ≡ total_cost l.instance (take l.place l.blocks);
  small : l.cost ≤ 4000000 * l.place;
}
