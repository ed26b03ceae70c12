use Rattle.std.proofs.Common.{◌∙◌, max, get_or, sym, ap}
use Rattle.std.specs.Prelude.{None}
use Rattle.shunt_blocks.specs.declared.records.Block.{Block}
use Rattle.shunt_moves.proofs.Filled.{greatest_next}
use Rattle.shunt_moves.proofs.bench.greatest_id.Goals as goal

abbrev no_block : Block
no_block = record { id = 0; arr = record { 0 = 0 }; p = 0; n = 0; dep = record { 0 = 0 }; q = 0; park = None }

pub loop-block-preserved : goal.loop-block-preserved
loop-block-preserved c =
    c.greater-greatest.ensures ∙ ap (λ n. max n (get_or c.args.blocks.now c.loop-block.block-index no_block).id) c.loop-block.invariant
    ∙ sym (greatest_next c.args.blocks.now c.loop-block.block-index no_block c.loop-block-test.true)
