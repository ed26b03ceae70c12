use Rattle.std.proofs.Common.{◌≡◌, sym, subst, arith}
use Rattle.std.proofs.lemmas.Int.{ints}
use Rattle.shunt_base.specs.declared.duals.Case.{Case}
use Rattle.shunt_blocks.specs.declared.records.Shape.{Shape}
use Rattle.shunt_blocks.specs.defs.Shapes.{shape_of}
use Rattle.shunt_prices.specs.defs.Limits.{case_at}
use Rattle.shunt_prices.specs.defs.Cases.{duals_over, weight}
use Rattle.shunt_checker.proofs.sums.gain_in.Goals as goal
use Rattle.shunt_prices.proofs.Counts.{got}

pub returns-clause-exact : goal.returns-clause-exact
returns-clause-exact c =
    let night = c.args.instance.now in
    let b = c.args.block.now in
    let case = got c.args.cases.now c.args.k c.get-case.result.now c.get-case.ensures in
    let sum : c.sum_over-sum.result ≡ duals_over night (case_at c.args.cases.now c.args.k).duals (shape_of b) =
    subst (λ (x : Case). c.sum_over-sum.result ≡ duals_over night x.duals (shape_of b)) (sym case)
    (subst (λ (s : Shape). c.sum_over-sum.result ≡ duals_over night c.get-case.result.now.duals s) c.shape_of.ensures c.sum_over-sum.ensures.exact) in
    let weighs : c.weight.result ≡ weight night (case_at c.args.cases.now c.args.k) b = subst (λ (x : Case). c.weight.result ≡ weight night x b)
    (sym case) c.weight.ensures.exact in
    let s = c.sum_over-sum.ensures.small in
    let w = c.weight.ensures.small in
    omega (arith, ints, sum, weighs, s.low, s.high, w.low, w.high)
