use Rattle.std.proofs.Common.{arith}
use Rattle.std.proofs.lemmas.Int.{ints}
use Rattle.shunt_checker.proofs.Lonely.{lone_is}
use Rattle.shunt_checker.proofs.omissions.lone_sum.Goals as goal
use Rattle.shunt_prices.proofs.Counts.{got, got_is}

pub weight_of-weight-requires-clause-case : goal.weight_of-weight-requires-clause-case
weight_of-weight-requires-clause-case c = got_is c.args.instance.now c.args.cases.now c.args.k c.get-case.result.now c.get-case.ensures c.requires.there c.requires.cases

pub returns-clause-exact : goal.returns-clause-exact
returns-clause-exact c =
    let s = c.requires.small in
    let w = c.weight_of-weight.ensures.small in
    let g = c.requires.gains.small in
    lone_is c.args.instance.now c.args.path.now.blocks c.args.cases.now c.args.k c.get-case.result.now c.args.shape c.args.park c.args.whole c.weight_of-weight.result
    c.args.gains.now.over _
    (got c.args.cases.now c.args.k c.get-case.result.now c.get-case.ensures) c.requires.whole c.weight_of-weight.ensures.exact c.requires.gains.over
    (omega (arith, ints, s.low, s.high, w.low, w.high, g.low, g.high))

pub returns-clause-small : goal.returns-clause-small
returns-clause-small c =
    let s = c.requires.small in
    let w = c.weight_of-weight.ensures.small in
    let g = c.requires.gains.small in
    record {
      low = omega (arith, ints, s.low, s.high, w.low, w.high, g.low, g.high);
      high = omega (arith, ints, s.low, s.high, w.low, w.high, g.low, g.high);
    }

pub overflow_add-result : goal.overflow_add-result
overflow_add-result c =
    let s = c.requires.small in
    let w = c.weight_of-weight.ensures.small in
    let g = c.requires.gains.small in
    omega (arith, ints, s.low, s.high, w.low, w.high, g.low, g.high)
