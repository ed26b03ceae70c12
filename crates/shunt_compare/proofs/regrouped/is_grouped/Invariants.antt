use Rattle.std.proofs.Common.{ℕ, ◌<◌, slice_index_or}
use Rattle.shunt_blocks.specs.declared.records.Block.{Block}
use Rattle.shunt_compare.specs.defs.Changes.{HaveSameUnits}
use Rattle.shunt_compare.proofs.regrouped.is_grouped.Given as goal

abbrev pub invariant-blocks-2 : goal.invariant-blocks-2
invariant-blocks-2 l = (k : ℕ) (d : Block) → k < l.other-index → HaveSameUnits l.block (slice_index_or l.blocks k d) → ⊥
