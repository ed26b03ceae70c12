use mir.Syntax.{w64}
use Rattle.std.proofs.Common.{subst, ◌∙◌}
use Rattle.std.proofs.lemmas.Int.{to_z-of_z}
use Rattle.shunt_base.specs.declared.duals.Case.{Case}
use Rattle.shunt_choices.specs.defs.Choices.{longer_by}
use Rattle.shunt_checker.specs.defs.Lows.{AreGains, offer_of}
use Rattle.shunt_checker.proofs.Opened.{case_sum_is, sum_of_case}
use Rattle.shunt_checker.proofs.Lowness.{unparked_is, shut, low_is}
use Rattle.shunt_checker.proofs.missed_choices.is_low_in.Goals as goal
use Rattle.shunt_prices.proofs.Counts.{got, got_is}

pub longer_sum-longer-requires-clause-case : goal.longer_sum-longer-requires-clause-case
longer_sum-longer-requires-clause-case c = got_is c.args.instance.now c.args.branch.now.cases.now c.args.k c.get-case.result.now c.get-case.ensures c.requires.there
    c.requires.branch.cases

pub longer_sum-longer-requires-clause-is : goal.longer_sum-longer-requires-clause-is
longer_sum-longer-requires-clause-is c =
    to_z-of_z w64 c.args.sum c.ranges.sum
    ∙ sum_of_case c.args.instance.now c.args.branch.now.path.now.blocks c.args.branch.now.cases.now c.args.k c.get-case.result.now c.from_of-from.result c.args.sum
    c.get-case.ensures c.from_of-from.ensures c.requires.sum

pub longer_sum-longer-requires-clause-gains : goal.longer_sum-longer-requires-clause-gains
longer_sum-longer-requires-clause-gains c =
    subst (λ (x : Case). AreGains c.args.instance.now x c.args.shape c.args.gains.now)
    (got c.args.branch.now.cases.now c.args.k c.get-case.result.now c.get-case.ensures) c.requires.gains

pub returns-then-not-is_open_to : goal.returns-then-not-is_open_to
returns-then-not-is_open_to c =
    let night = c.args.instance.now in
    let b = c.args.branch.now in
    let offer = offer_of c.args.shape c.args.park in
    shut night b.path.now.blocks b.cases.now b.stated offer c.args.k c.unparked_with-unparked.result
    (unparked_is night b.path.now.blocks b.cases.now b.stated offer b.unparked c.unparked_with-unparked.result c.requires.branch.unparked c.unparked_with-unparked.ensures)
    c.is_open_to.result c.is_open_to.ensures c.if-not-is_open_to.true

pub returns : goal.returns
returns c =
    let night = c.args.instance.now in
    let b = c.args.branch.now in
    let offer = offer_of c.args.shape c.args.park in
    low_is night b.path.now.blocks b.cases.now b.stated offer c.args.k c.unparked_with-unparked.result
    (unparked_is night b.path.now.blocks b.cases.now b.stated offer b.unparked c.unparked_with-unparked.result c.requires.branch.unparked c.unparked_with-unparked.ensures)
    c.is_below.result _ c.requires.there (c.is_open_to.ensures.0 c.if-not-is_open_to.false)
    (to_z-of_z w64 c.longer_sum-longer.result (record { sfits = c.longer_sum-longer.type_inv })
    ∙ case_sum_is night (longer_by b.path.now.blocks offer) b.cases.now c.args.k c.get-case.result.now c.from_of-from.result c.longer_sum-longer.result c.get-case.ensures
    c.from_of-from.ensures c.longer_sum-longer.ensures.exact)
    c.is_below.ensures
