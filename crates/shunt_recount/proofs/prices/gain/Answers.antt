use Rattle.std.proofs.Common.{◌∙◌, ap, arith}
use Rattle.std.proofs.lemmas.Int.{ints}
use Rattle.shunt_recount.proofs.Weighed.{gain_is}
use Rattle.shunt_recount.proofs.prices.gain.Goals as goal

pub returns-clause-exact : goal.returns-clause-exact
returns-clause-exact c =
    let little = c.requires.little in
    let part = c.price_part-part.ensures in
    let is = gain_is c.args.instance.now c.args.case.now c.args.block.now c.args.left c.price_part-part.result c.requires.parked c.requires.left
    (part.exact ∙ ap (λ ps. Rattle.shunt_prices.specs.defs.Prices.price_part c.args.instance.now ps c.args.block.now) c.as_slice.ensures) in
    omega (arith, ints, is, little.low, little.high, part.small)
