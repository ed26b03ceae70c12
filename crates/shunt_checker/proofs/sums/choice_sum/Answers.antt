use Rattle.std.proofs.Common.{sym, subst}
use Rattle.shunt_prices.specs.defs.Sums.{IsWithin}
use Rattle.shunt_checker.proofs.Seen.{seen_choice, choice_within}
use Rattle.shunt_checker.proofs.Lonely.{choice_sum_is}
use Rattle.shunt_checker.proofs.sums.choice_sum.Goals as goal

pub returns-clause-exact : goal.returns-clause-exact
returns-clause-exact c =
    choice_sum_is c.args.instance.now c.args.path.now.blocks c.args.block.now c.args.cases.now c.args.k c.stack_sum-whole.result c.in_ok-fall.fall c.gain_in-gain.result _
    c.stack_sum-whole.ensures.exact c.in_ok-fall.ensures.exact c.gain_in-gain.ensures.exact
    (seen_choice c.stack_sum-whole.result c.in_ok-fall.fall c.gain_in-gain.result c.stack_sum-whole.ensures.small c.in_ok-fall.ensures.small c.gain_in-gain.ensures.small)

pub returns-clause-small : goal.returns-clause-small
returns-clause-small c =
    subst (IsWithin 4100000000000000000) (sym (seen_choice c.stack_sum-whole.result c.in_ok-fall.fall c.gain_in-gain.result c.stack_sum-whole.ensures.small
    c.in_ok-fall.ensures.small c.gain_in-gain.ensures.small))
    (choice_within c.stack_sum-whole.result c.in_ok-fall.fall c.gain_in-gain.result c.stack_sum-whole.ensures.small c.in_ok-fall.ensures.small c.gain_in-gain.ensures.small)
