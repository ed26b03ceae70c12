use Rattle.std.proofs.Common.{arith}
use Rattle.std.proofs.lemmas.Int.{ints}
use Rattle.shunt_checker.proofs.Longer.{longer_is}
use Rattle.shunt_checker.proofs.gains.longer_sum.Goals as goal

pub returns-clause-exact : goal.returns-clause-exact
returns-clause-exact c =
    let s = c.requires.small in
    let w = c.weight_of-weight.ensures.small in
    let g = c.requires.gains.small in
    longer_is c.args.instance.now c.args.path.now.blocks c.args.path.now.covered c.args.from c.args.case.now c.args.shape c.args.park
    c.args.sum c.weight_of-weight.result c.args.gains.now.over _
    (λ b free. c.longer_paths.ensures.sum c.args.instance.now c.args.path.now.blocks b c.args.from c.args.case.now free)
    c.requires.path.covered c.requires.free c.requires.is c.weight_of-weight.ensures.exact c.requires.gains.over
    (omega (arith, ints, s.low, s.high, w.low, w.high, g.low, g.high))

pub returns-clause-small : goal.returns-clause-small
returns-clause-small c =
    let s = c.requires.small in
    let w = c.weight_of-weight.ensures.small in
    let g = c.requires.gains.small in
    record {
      low = omega (arith, ints, s.low, s.high, w.low, w.high, g.low, g.high);
      high = omega (arith, ints, s.low, s.high, w.low, w.high, g.low, g.high);
    }
