use Rattle.std.proofs.Common.{◌++◌, ◌∷◌, [], List, ap, ◌∙◌, sym, arith}
use Rattle.std.proofs.lemmas.List.{take_all}
use Rattle.shunt_blocks.specs.declared.records.Block.{Block}
use Rattle.shunt_blocks.specs.defs.Lists.{placed}
use Rattle.shunt_search.proofs.Placed.{next_placed}
use Rattle.shunt_search.proofs.wholes.placed_blocks.Goals as goal

pub loop-place-preserved : goal.loop-place-preserved
loop-place-preserved c =
    let b = c.block_at-block.result in
    c.in_ok-push.ensures.items ∙ ap (λ (l : List Block). l ++ c.at_place.result ∷ []) c.loop-place.invariant
    ∙ sym (next_placed c.args.blocks.now c.loop-place.place c.loop-place-test.true b (c.block_at-block.ensures b) c.at_place.result c.at_place.ensures)

pub returns : goal.returns
returns c = c.loop-place.invariant ∙ ap (λ (l : List Block). placed l) (take_all c.loop-place.place c.args.blocks.now (omega (arith, c.loop-place-test.false)))
