use mir.Syntax.{w64}
use Rattle.std.proofs.Common.{ℤ, sym, subst, ◌∙◌}
use Rattle.std.proofs.lemmas.Int.{to_z-of_z}
use Rattle.shunt_prices.specs.defs.Bounds.{IsBoundOf, case_sum}
use Rattle.shunt_checker.proofs.bounds.case_bound.Goals as goal

pub returns : goal.returns
returns c =
    let sum = case_sum c.args.instance.now c.args.path.now.blocks c.args.cases.now c.args.k in
    subst (IsBoundOf sum) (sym (to_z-of_z w64 c.rounded_up.result (record { sfits = c.rounded_up.type_inv })))
    (subst (λ (s : ℤ). IsBoundOf s c.rounded_up.result) (to_z-of_z w64 c.case_sum.result (record { sfits = c.case_sum.type_inv }) ∙ c.case_sum.ensures.exact) c.rounded_up.ensures)
