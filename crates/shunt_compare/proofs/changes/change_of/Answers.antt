use Rattle.std.proofs.Common.{ℕ, refl, subst}
use Rattle.shunt_compare.specs.defs.Changes.{IsPlacement}
use Rattle.shunt_compare.proofs.Placed.{no_change}
use Rattle.shunt_compare.proofs.changes.change_of.Goals as goal

pub returns-then-are_same-clause-none : goal.returns-then-are_same-clause-none
returns-then-are_same-clause-none c =
    no_change c.args.instance.now c.args.was.now c.args.now.now c.args.unit c.placement-before.result c.placement-after.result c.requires.was c.requires.now c.requires.unit
    (subst (λ (u : ℕ). IsPlacement c.args.instance.now c.args.was.now u c.placement-before.result) c.from.ensures c.placement-before.ensures)
    (subst (λ (u : ℕ). IsPlacement c.args.instance.now c.args.now.now u c.placement-after.result) c.from-2.ensures c.placement-after.ensures)
    (c.if-are_same.ensures.0 refl)
