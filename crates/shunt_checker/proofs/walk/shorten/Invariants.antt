use Rattle.std.proofs.Common.{◌≡◌, ◌≤◌, List, ◌++◌, length}
use Rattle.shunt_blocks.specs.declared.records.Block.{Block}
use Rattle.shunt_choices.specs.defs.Paths.{IsTrailOf}
use Rattle.shunt_checker.proofs.walk.shorten.Given as goal

abbrev pub invariant-longer : goal.invariant-longer
invariant-longer l = record {
  of : IsTrailOf l.instance l.path;
  rest : (more : List Block) × (l.fn.path.blocks ≡ l.path.blocks ++ more);
  some : l.left ≤ length l.path.blocks;
  pins : l.path.pins ≡ l.fn.path.pins;
}

abbrev pub decreases-longer : goal.decreases-longer
decreases-longer l = length l.path.blocks
