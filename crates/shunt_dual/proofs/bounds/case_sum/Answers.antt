use mir.Syntax.{w64}
use mir.Val.{to_z, of_z}
use Rattle.std.proofs.Common.{◌∙◌}
use Rattle.std.proofs.lemmas.Int.{to_z-of_z}
use Rattle.shunt_dual.proofs.LeastBounds.{case_sum_is}
use Rattle.shunt_dual.proofs.bounds.case_sum.Goals as goal
use Rattle.shunt_prices.proofs.Signed.{value_seen}
use Rattle.shunt_prices.proofs.Counts.{got_is}

pub returns-clause-exact : goal.returns-clause-exact
returns-clause-exact c =
    let night = c.args.instance.now in
    let path = c.args.path.now.blocks in
    let cases = c.args.cases.now in
    let case = c.get-case.result.now in
    let is = got_is night cases c.args.k case c.get-case.ensures c.requires.there c.requires.cases in
    to_z-of_z w64 c.sum_at.result (record { sfits = c.sum_at.type_inv })
    ∙ case_sum_is night path cases c.args.k case c.from_of-from.result (to_z w64 (of_z w64 case.multiplier)) c.sum_at.result c.get-case.ensures
    (value_seen case.multiplier is.multiplier) c.from_of-from.ensures c.sum_at.ensures.exact
