use Rattle.std.proofs.Common.{refl, arith}
use Rattle.std.proofs.lemmas.Int.{ints}
use Rattle.shunt_dual.proofs.feasibility.duals_over.Goals as goal
use Rattle.shunt_prices.proofs.Counts.{over_is}

pub returns-clause-exact : goal.returns-clause-exact
returns-clause-exact c =
    let first = c.run_sum.ensures.small in
    let second = c.run_sum-2.ensures.small in
    let is = over_is c.args.instance.now c.args.duals.now c.args.shape c.unit_from-u.result c.position_from-v.result c.args.shape.n _ _ c.run_sum.result c.run_sum-2.result
    c.unit_from-u.ensures.exact c.position_from-v.ensures.exact c.as_slice.ensures c.as_slice-2.ensures refl c.run_sum.ensures.exact c.run_sum-2.ensures.exact in
    omega (arith, ints, first.low, first.high, second.low, second.high, is)
