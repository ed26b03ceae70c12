use Rattle.std.proofs.Common.{◌≡◌, ◌+◌, ◌≤◌, map, length}
use Rattle.shunt_blocks.specs.defs.Lists.{IsFeasible, total_cost}
use Rattle.shunt_blocks.specs.defs.Pins.{Keeps}
use Rattle.shunt_search.specs.defs.Polish.{unparked, Stand}
use Rattle.shunt_search.proofs.polisher.polish_around.Given as goal

abbrev pub invariant-sweeps : goal.invariant-sweeps
invariant-sweeps l = record {
  feasible : IsFeasible l.instance l.blocks;
  stand : Stand l.instance l.blocks l.timelines;
  room : length l.blocks ≤ l.timelines.spare + length l.timelines.stays;
  shapes : map unparked l.blocks ≡ map unparked l.initial.blocks;
  keeps : Keeps l.initial.blocks l.pins → Keeps l.blocks l.pins;
  cost : total_cost l.instance l.blocks ≤ total_cost l.instance l.initial.blocks;
}

abbrev pub decreases-sweeps : goal.decreases-sweeps
decreases-sweeps l = total_cost l.instance l.blocks
