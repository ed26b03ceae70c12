use Rattle.std.proofs.Common.{◌≡◌, ◌+◌, take, length}
use Rattle.shunt_blocks.specs.defs.Lists.{placed}
use Rattle.shunt_search.specs.defs.Polish.{Stand}
use Rattle.shunt_search.proofs.yard.stand_placed.Given as goal

abbrev pub invariant-loop-place : goal.invariant-loop-place
invariant-loop-place l = record {
  stand : Stand l.instance (placed (take l.place l.blocks)) l.timelines;
  room : l.timelines.spare + length l.timelines.stays ≡ l.initial.timelines.spare;
}
