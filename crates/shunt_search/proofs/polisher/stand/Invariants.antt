use Rattle.std.proofs.Common.{◌+◌, ◌≤◌, take, length}
use Rattle.shunt_search.specs.defs.Polish.{Stand}
use Rattle.shunt_search.proofs.polisher.stand.Given as goal

abbrev pub invariant-loop-block : goal.invariant-loop-block
invariant-loop-block l = record {
  stand : Stand l.instance (take l.block-index l.blocks) l.timelines;
  room : length l.blocks ≤ l.timelines.spare + length l.timelines.stays;
}
