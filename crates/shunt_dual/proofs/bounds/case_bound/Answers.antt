use mir.Syntax.{w64}
use Rattle.std.proofs.Common.{ℤ, sym, subst, ◌∙◌}
use Rattle.std.proofs.lemmas.Int.{to_z-of_z}
use Rattle.shunt_prices.specs.defs.Bounds.{IsBoundOf, case_sum}
use Rattle.shunt_dual.proofs.bounds.case_bound.Goals as goal

pub returns : goal.returns
returns c =
    subst (IsBoundOf (case_sum c.args.instance.now c.args.path.now.blocks c.args.cases.now c.args.k))
    (sym (to_z-of_z w64 c.bound_of.result (record { sfits = c.bound_of.type_inv })))
    (subst (λ (s : ℤ). IsBoundOf s c.bound_of.result) (to_z-of_z w64 c.case_sum.result (record { sfits = c.case_sum.type_inv }) ∙ c.case_sum.ensures.exact) c.bound_of.ensures)
