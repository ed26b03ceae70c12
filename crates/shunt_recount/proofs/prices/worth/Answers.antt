use Rattle.std.proofs.Common.{refl, arith}
use Rattle.std.proofs.lemmas.Int.{ints}
use Rattle.shunt_recount.proofs.prices.worth.Goals as goal
use Rattle.shunt_prices.proofs.Counts.{over_is}

pub returns-clause-exact : goal.returns-clause-exact
returns-clause-exact c =
    let first = c.run_sum-units.ensures.small in
    let second = c.run_sum-positions.ensures.small in
    let is = over_is c.args.instance.now c.args.duals.now c.args.shape c.unit_from.result c.position_from.result c.args.shape.n _ _ c.run_sum-units.result
    c.run_sum-positions.result
    c.unit_from.ensures.exact c.position_from.ensures.exact c.as_slice.ensures c.as_slice-2.ensures refl c.run_sum-units.ensures.exact c.run_sum-positions.ensures.exact in
    omega (arith, ints, first.low, first.high, second.low, second.high, is)
