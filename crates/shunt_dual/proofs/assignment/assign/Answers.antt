use Rattle.std.proofs.Common.{◌∙◌, arith}
use Rattle.std.proofs.lemmas.Int.{ints}
use Rattle.shunt_dual.proofs.PaidShares.{duals_hold}
use Rattle.shunt_dual.proofs.Shown.{bounds_all, starts_with}
use Rattle.shunt_dual.proofs.assignment.assign.Goals as goal

pub returns-clause-hold : goal.returns-clause-hold
returns-clause-hold c = duals_hold c.args.instance.now c.args.shares.now _ c.requires.shares c.in_ok-shown.ensures.under

pub returns-clause-bound : goal.returns-clause-bound
returns-clause-bound c =
    bounds_all c.args.instance.now c.args.shares.now c.in_ok-shown.shown.place c.in_ok-shown.shown.alpha c.in_ok-shown.shown.beta _ _ c.requires.shares c.in_ok-shown.ensures
    (omega (arith, ints))

pub returns-clause-at_start : goal.returns-clause-at_start
returns-clause-at_start c =
    starts_with c.args.instance.now c.args.shares.now c.in_ok-shown.shown.place (record
    { alpha = c.in_ok-shown.shown.alpha; beta = c.in_ok-shown.shown.beta; prices = c.from_vec.result }) _ _ c.in_ok-shown.ensures
    (c.from_vec.ensures ∙ c.new.ensures.items) (omega (arith, ints))
