use Rattle.shunt_compare.proofs.Placed.{is_block}
use Rattle.shunt_compare.proofs.changes.placement.Goals as goal

pub placement_of-requires-clause-within : goal.placement_of-requires-clause-within
placement_of-requires-clause-within c = (is_block c.args.instance.now c.args.blocks.now c.requires.feasible c.block_with-block.result
    c.block_with-block.ensures.there).in_range.within
