use Rattle.std.specs.Prelude.{◌≤ℤ◌}
use Rattle.std.proofs.Common.{[], pos, arith}
use Rattle.std.proofs.lemmas.Int.{ints}
use Rattle.shunt_dual.proofs.Offered.{not_offered}
use Rattle.shunt_dual.proofs.case_offers.add_offer.Goals as goal
use Rattle.shunt_lists.proofs.Lists.{append_nothing as nothing_more}

pub returns-else-worth-least_parked : goal.returns-else-worth-least_parked
returns-else-worth-least_parked c =
    let small = c.duals_over-worth.ensures.small in
    let less = c.if-worth-least_parked.false in
    let low : c.duals_over-worth.result ≤ℤ pos c.least_parked.result = omega (arith, ints, less, small.low, small.high, c.least_parked.ensures.small) in (
      [],
      not_offered c.args.instance.now c.args.duals.now c.args.shape c.duals_over-worth.result c.least_parked.result c.duals_over-worth.ensures.exact low
          c.least_parked.ensures.least,
      nothing_more c.args.offers.now.items,
    )
