use mir.Syntax.{w64}
use mir.Val.{to_z, of_z}
use Rattle.std.specs.Prelude.{pos, true, false, List}
use Rattle.std.proofs.Common.{◌≡◌, ℤ, get_or, set, subst, sym, ◌∙◌, ap, arith}
use Rattle.std.proofs.lemmas.Int.{ints}
use Rattle.std.proofs.lemmas.List.{set-get_or, get_or_default}
use Rattle.shunt_prices.specs.defs.Limits.{IsValue}
use Rattle.shunt_dual.specs.defs.Refits.{IsMet}
use Rattle.shunt_dual.proofs.Asked.{as_it_was}
use Rattle.shunt_dual.proofs.unit_values.refit_value.Goals as goal

pub returns-then-covered-u-clause-refit : goal.returns-then-covered-u-clause-refit
returns-then-covered-u-clause-refit c =
    let v : IsValue (get_or c.args.alpha.now c.args.u (pos 0)) = c.requires.alphas c.args.u (pos 0) c.requires.unit in
    as_it_was c.args.asks.now c.args.covered.now c.args.alpha.now c.args.u _ (sym
    (get_or_default c.args.covered.now c.args.u false true (omega (arith, c.requires.covered, c.requires.unit))) ∙ c.if-covered-u.true) (omega (arith, ints, v.low, v.high))

pub returns-then-covered-u-clause-met : goal.returns-then-covered-u-clause-met
returns-then-covered-u-clause-met c = λ i a lt.
    let v : IsValue (get_or c.args.alpha.now c.args.u (pos 0)) = c.requires.alphas c.args.u (pos 0) c.requires.unit in
    let e : to_z w64 (of_z w64 (get_or c.args.alpha.now c.args.u (pos 0))) ≡ get_or c.args.alpha.now c.args.u (pos 0) = omega (arith, ints, v.low, v.high) in
    subst (λ (alpha : List ℤ). IsMet alpha (get_or c.args.asks.now i a)) (sym (ap (set c.args.alpha.now c.args.u) e ∙ set-get_or c.args.alpha.now c.args.u (pos 0)))
    (c.requires.met i a lt)
