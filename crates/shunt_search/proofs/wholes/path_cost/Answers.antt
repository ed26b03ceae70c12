use Rattle.std.proofs.Common.{List, ap, ◌∙◌, sym, subst, arith}
use Rattle.std.proofs.lemmas.List.{take_all}
use Rattle.shunt_blocks.specs.declared.records.Block.{Block}
use Rattle.shunt_blocks.specs.defs.Shapes.{IsWithinTrains}
use Rattle.shunt_blocks.specs.defs.Lists.{total_cost}
use Rattle.shunt_search.proofs.Placed.{next_cost}
use Rattle.shunt_search.proofs.wholes.path_cost.Goals as goal

pub block_cost-cost-requires : goal.block_cost-cost-requires
block_cost-cost-requires c =
    let b = c.block_at-block.result in
    subst (λ (x : Block). IsWithinTrains c.args.instance.now x) (sym (c.block_at-block.ensures b)) (c.requires.within c.loop-place.place b c.loop-place-test.true)

pub loop-place-preserved : goal.loop-place-preserved
loop-place-preserved c =
    let b = c.block_at-block.result in
    let next = next_cost c.args.instance.now c.args.blocks.now c.loop-place.place c.loop-place-test.true b (c.block_at-block.ensures b) in
    let h = c.loop-place.invariant in
    let is = h.is in
    let small = h.small in
    let own = c.block_cost-cost.ensures.exact in
    let few = c.block_cost-cost.ensures.small in
    record { is = omega (arith, next, is, own); small = omega (arith, small, few) }

pub returns-clause-exact : goal.returns-clause-exact
returns-clause-exact c = c.loop-place.invariant.is ∙ ap (λ (l : List Block). total_cost c.args.instance.now l)
    (take_all c.loop-place.place c.args.blocks.now (omega (arith, c.loop-place-test.false)))
