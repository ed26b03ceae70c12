use Rattle.std.proofs.Common.{sym, subst}
use Rattle.shunt_blocks.specs.declared.records.Block.{Block}
use Rattle.shunt_blocks.specs.defs.Shapes.{shape_of}
use Rattle.shunt_prices.specs.defs.Cases.{IsFreeBlock}
use Rattle.shunt_checker.proofs.Steps.{choice_free}
use Rattle.shunt_checker.proofs.versions.offer_choice_bound.Goals as goal

pub choice_bound-requires-clause-free : goal.choice_bound-requires-clause-free
choice_bound-requires-clause-free c =
    subst (λ (x : Block). IsFreeBlock c.args.instance.now c.args.path.now.covered (shape_of x) x.park) (sym c.next_block-block.ensures)
    (choice_free c.args.instance.now c.args.path.now.covered c.args.u c.args.offer c.requires.there)
