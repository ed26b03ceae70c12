use Rattle.std.proofs.Common.{◌+◌, length, sym, subst}
use Rattle.shunt_blocks.specs.declared.records.Block.{Block}
use Rattle.shunt_blocks.specs.defs.Shapes.{shape_of}
use Rattle.shunt_choices.specs.defs.Choices.{chosen}
use Rattle.shunt_prices.specs.defs.Cases.{IsFreeBlock}
use Rattle.shunt_prices.specs.defs.Limits.{case_at}
use Rattle.shunt_stacks.specs.defs.Stacks.{stack_of}
use Rattle.shunt_stacks.specs.defs.Bounds.{IsFall}
use Rattle.shunt_checker.proofs.Seen.{seen_with}
use Rattle.shunt_checker.proofs.Lonely.{low_at}
use Rattle.shunt_checker.proofs.omissions.is_low_in.Goals as goal

pub fall_in-requires-clause-free : goal.fall_in-requires-clause-free
fall_in-requires-clause-free c =
    subst (λ (x : Block). IsFreeBlock c.args.instance.now c.args.branch.now.path.now.covered (shape_of x) x.park) (sym c.next_block-block.ensures) c.requires.free

pub returns : goal.returns
returns c =
    let night = c.args.instance.now in
    let b = c.args.branch.now in
    let path = b.path.now.blocks in
    let cases = b.cases.now in
    low_at night path cases b.stated c.args.offer (λ k x y is so. c.one_gain.ensures.choice_sum night path (chosen (length path + 1) c.args.offer) cases k x y is so) c.args.k
    c.args.lone c.in_ok-fall.fall _ c.is_below.result
    c.requires.opens c.requires.lone
    (subst (λ (x : Block). IsFall night path x (case_at cases c.args.k) (stack_of x.park) c.in_ok-fall.fall) c.next_block-block.ensures c.in_ok-fall.ensures.exact)
    (seen_with c.args.lone c.in_ok-fall.fall c.requires.small c.in_ok-fall.ensures.small) c.is_below.ensures
