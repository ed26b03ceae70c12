use Rattle.std.proofs.Common.{arith}
use Rattle.std.proofs.lemmas.Int.{ints}
use Rattle.shunt_fillings.proofs.choices.with_fall.Goals as goal

pub returns : goal.returns
returns c =
    let sum = c.requires.sum in
    let before = c.requires.before in
    let after = c.requires.after in
    let own = c.requires.own in
    omega (arith, ints, sum.low, sum.high, before.low, before.high, after.low, after.high, own.low, own.high)
