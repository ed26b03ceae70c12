use Rattle.std.proofs.Common.{arith}
use Rattle.std.proofs.lemmas.Int.{ints}
use Rattle.shunt_prices.specs.defs.Limits.{case_at}
use Rattle.shunt_checker.proofs.Lonely.{stack_sum_is}
use Rattle.shunt_checker.proofs.sums.stack_sum.Goals as goal

pub returns-clause-exact : goal.returns-clause-exact
returns-clause-exact c =
    let night = c.args.instance.now in
    let path = c.args.path.now.blocks in
    let s = c.case_sum.ensures.small in
    let t = c.total.ensures.small night path (case_at c.args.cases.now c.args.k) c.requires.counted in
    stack_sum_is night path c.args.cases.now c.args.k c.case_sum.result c.total.result _ c.case_sum.ensures.exact
    (c.total.ensures.exact night path (case_at c.args.cases.now c.args.k) c.requires.counted)
    (omega (arith, ints, s.low, s.high, t.low, t.high))

pub returns-clause-small : goal.returns-clause-small
returns-clause-small c =
    let s = c.case_sum.ensures.small in
    let t = c.total.ensures.small c.args.instance.now c.args.path.now.blocks (case_at c.args.cases.now c.args.k) c.requires.counted in
    record { low = omega (arith, ints, s.low, s.high, t.low, t.high); high = omega (arith, ints, s.low, s.high, t.low, t.high) }

pub overflow_sub-result : goal.overflow_sub-result
overflow_sub-result c =
    let s = c.case_sum.ensures.small in
    let t = c.total.ensures.small c.args.instance.now c.args.path.now.blocks (case_at c.args.cases.now c.args.k) c.requires.counted in
    omega (arith, ints, s.low, s.high, t.low, t.high)
