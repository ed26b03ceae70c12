use Rattle.std.proofs.Common.{◌≡◌, ◌++◌, [], map, drop}
use Rattle.shunt_rows.specs.defs.Records.{text_of_rows}
use Rattle.shunt_plan.specs.defs.PlanRows.{block_row}
use Rattle.shunt_plan.proofs.writer.write_blocks.Given as goal

abbrev pub invariant-loop-block : goal.invariant-loop-block
invariant-loop-block l = record {
  open_row : l.writer.row ≡ [];
  text : l.writer.text ++ text_of_rows (map (block_row l.instance) (drop l.block-index l.blocks)) ≡ l.fn.writer.text ++ text_of_rows (map (block_row l.instance) l.blocks);
}
