use Rattle.std.proofs.Common.{List, length, subst, ap, ◌∙◌, sym, ◌≤◌, arith}
use Rattle.std.proofs.lemmas.Grind.{common_steps}
use Rattle.std.proofs.lemmas.List.{take_all}
use Rattle.std.proofs.lemmas.List.Elements.{filter_map-append}
use Rattle.shunt_lists.proofs.Options.{few_some}
use Rattle.shunt_base.specs.declared.keys.Stay.{Stay}
use Rattle.shunt_blocks.specs.declared.records.Block.{Block}
use Rattle.shunt_blocks.specs.defs.Stays.{stay_of}
use Rattle.shunt_blocks.specs.defs.Lists.{stays_of}
use Rattle.shunt_blocks.proofs.lists.stays_of.Goals as goal

pub loop-block-preserved : goal.loop-block-preserved
loop-block-preserved c = grind (arith, common_steps, filter_map-append)

pub returns-clause-few : goal.returns-clause-few
returns-clause-few c =
    let night = c.args.instance.now in
    let is = c.loop-block.invariant ∙ ap (λ (l : List Block). stays_of night l) (take_all c.loop-block.block-index c.args.blocks.now (omega (arith, c.loop-block-test.false))) in
    subst (λ (l : List Stay). length l ≤ length c.args.blocks.now) (sym is) (few_some (stay_of night) c.args.blocks.now)
