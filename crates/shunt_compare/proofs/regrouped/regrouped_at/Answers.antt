use Rattle.std.proofs.Common.{sym, subst, ap, refl, ◌∙◌}
use Rattle.shunt_blocks.specs.declared.records.Block.{Block}
use Rattle.shunt_blocks.specs.defs.Shapes.{AreRunsWithin, unit_from, begins_at}
use Rattle.shunt_compare.specs.defs.Changes.{HaveSameUnits}
use Rattle.shunt_compare.proofs.Placed.{is_block, begins_with}
use Rattle.shunt_compare.proofs.regrouped.regrouped_at.Goals as goal

pub unit_from-requires : goal.unit_from-requires
unit_from-requires c = subst (AreRunsWithin c.args.instance.now) (sym c.shape_of.ensures)
    (is_block c.args.instance.now c.args.now.now c.requires.now c.block_with-block.result c.block_with-block.ensures.there).shape.within

pub returns-then-unit_from-unit-clause-none : goal.returns-then-unit_from-unit-clause-none
returns-then-unit_from-unit-clause-none c = λ b at h.
    let one = begins_with c.args.instance.now c.args.now.now c.requires.now c.args.unit b c.block_with-block.result c.requires.unit h.there at c.block_with-block.ensures.there
    c.block_with-block.ensures.has in
    c.if-unit_from-unit.true (c.unit_from.ensures.exact ∙ (ap (unit_from c.args.instance.now) c.shape_of.ensures ∙ (ap (begins_at c.args.instance.now) (sym one) ∙ at)))

pub returns-then-is_grouped-clause-none : goal.returns-then-is_grouped-clause-none
returns-then-is_grouped-clause-none c = λ b at h.
    let one = begins_with c.args.instance.now c.args.now.now c.requires.now c.args.unit b c.block_with-block.result c.requires.unit h.there at c.block_with-block.ensures.there
    c.block_with-block.ensures.has in
    let found = c.if-is_grouped.ensures.0 refl in
    h.none found.0 found.1 (subst (λ (x : Block). HaveSameUnits x found.0) (sym one) found.2)
