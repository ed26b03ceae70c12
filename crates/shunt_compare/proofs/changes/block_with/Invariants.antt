use Rattle.std.proofs.Common.{◌≡◌, ℕ, ◌<◌, false, slice_index_or}
use Rattle.shunt_blocks.specs.declared.records.Block.{Block}
use Rattle.shunt_blocks.specs.defs.Shapes.{shape_of}
use Rattle.shunt_blocks.specs.defs.Lists.{has_unit}
use Rattle.shunt_compare.proofs.changes.block_with.Given as goal

abbrev pub invariant-blocks-2 : goal.invariant-blocks-2
invariant-blocks-2 l = (k : ℕ) (d : Block) → k < l.block-index → has_unit l.instance (shape_of (slice_index_or l.blocks k d)) l.unit ≡ false
