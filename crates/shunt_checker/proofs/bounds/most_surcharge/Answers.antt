use Rattle.std.proofs.Common.{◌∙◌, sym, subst}
use Rattle.shunt_prices.specs.defs.Sums.{IsWithin}
use Rattle.shunt_prices.proofs.Sizes.{most_within}
use Rattle.shunt_checker.proofs.bounds.most_surcharge.Goals as goal
use Rattle.shunt_prices.proofs.Signed.{small_seen, product_seen}
use Rattle.shunt_prices.proofs.Counts.{most_seen}

pub returns-clause-exact : goal.returns-clause-exact
returns-clause-exact c =
    let m = c.requires.multiplier in
    let is = most_seen c.args.multiplier c.args.from c.args.to c.max.result _ _ m c.requires.from c.requires.to
    (product_seen c.args.multiplier c.args.from m c.requires.from) (product_seen c.args.multiplier c.args.to m c.requires.to) c.max.ensures.value in
    small_seen c.max.result (subst (IsWithin 159999999999840) (sym is) (most_within c.args.multiplier c.args.from c.args.to m c.requires.from c.requires.to)) ∙ is

pub returns-clause-small : goal.returns-clause-small
returns-clause-small c = subst (IsWithin 159999999999840) (sym (returns-clause-exact c))
    (most_within c.args.multiplier c.args.from c.args.to c.requires.multiplier c.requires.from c.requires.to)
