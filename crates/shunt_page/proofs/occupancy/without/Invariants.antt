use Rattle.std.proofs.Common.{◌≡◌, ◌≤◌, length, take}
use Rattle.shunt_page.specs.defs.Occupancy.{without}
use Rattle.shunt_page.proofs.occupancy.without.Given as goal

abbrev pub invariant-loop-block : goal.invariant-loop-block
invariant-loop-block l = record {
  exact : l.others.items ≡ without l.id (take l.block-index l.stood);
  few : length l.others.items ≤ l.block-index;
}
