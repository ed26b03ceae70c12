use mir.Syntax.{w64}
use mir.Val.{to_z, of_z}
use borrow.Author.Count.{below_more}
use Rattle.std.proofs.Common.{subst, ◌∙◌, refl, arith, sym}
use Rattle.std.proofs.lemmas.Int.{ints}
use Rattle.std.proofs.lemmas.List.Elements.{All-from_get_or}
use Rattle.shunt_choices.specs.defs.Paths.{Masks, masks_of}
use Rattle.shunt_prices.specs.defs.Limits.{case_at}
use Rattle.shunt_dual.specs.defs.Weighed.{case_of, CaseHolds, AllHold}
use Rattle.shunt_dual.proofs.Holds.{case_back, case_on}
use Rattle.shunt_dual.proofs.feasibility.all_hold.Goals as goal
use Rattle.shunt_lists.proofs.Tests.{refutes as failed}
use Rattle.shunt_choices.proofs.Trails.{masks_fit}
use Rattle.shunt_prices.proofs.Counts.{got_is}

pub holds_in_case-requires-clause-covered : goal.holds_in_case-requires-clause-covered
holds_in_case-requires-clause-covered c = masks_fit c.args.instance.now c.args.path.now c.covered.result.now c.covered.ensures c.requires.path

pub holds_in_case-requires-clause-multiplier : goal.holds_in_case-requires-clause-multiplier
holds_in_case-requires-clause-multiplier c =
    let is = got_is c.args.instance.now c.args.cases.now c.loop-k.k c.get-case.result.now c.get-case.ensures (omega arith) c.requires.cases in
    let low = is.multiplier.low in
    let high = is.multiplier.high in
    record { low = omega (arith, ints, low, high); high = omega (arith, ints, low, high) }

pub holds_in_case-requires-clause-duals : goal.holds_in_case-requires-clause-duals
holds_in_case-requires-clause-duals c =
    (got_is c.args.instance.now c.args.cases.now c.loop-k.k c.get-case.result.now c.get-case.ensures (omega arith) c.requires.cases).duals

pub loop-k-preserved : goal.loop-k-preserved
loop-k-preserved c =
    let case = c.get-case.result.now in
    let is = got_is c.args.instance.now c.args.cases.now c.loop-k.k case c.get-case.ensures (omega arith) c.requires.cases in
    let low = is.multiplier.low in
    let high = is.multiplier.high in
    let m = to_z w64 (of_z w64 c.get-case.result.now.multiplier) in
    below_more _ _ c.loop-k.invariant
    (case_back c.args.asked c.args.instance.now c.args.path.now.covered c.args.cases.now c.loop-k.k case m c.get-case.ensures (omega (arith, ints, low, high))
    (subst (λ (w : Masks). CaseHolds c.args.asked c.args.instance.now w (case_of m case.duals)) c.covered.ensures (c.holds_in_case.ensures.0 c.if-not-holds_in_case.false)))

pub returns-then-not-holds_in_case : goal.returns-then-not-holds_in_case
returns-then-not-holds_in_case c =
    let night = c.args.instance.now in
    let case = c.get-case.result.now in
    let is = got_is night c.args.cases.now c.loop-k.k case c.get-case.ensures (omega arith) c.requires.cases in
    let low = is.multiplier.low in
    let high = is.multiplier.high in
    let m = to_z w64 (of_z w64 c.get-case.result.now.multiplier) in
    failed (CaseHolds c.args.asked night c.covered.result.now (case_of m case.duals))
    (AllHold c.args.asked night c.args.path.now.blocks c.args.cases.now) c.holds_in_case.result c.holds_in_case.ensures c.if-not-holds_in_case.true
    (λ all. subst (λ (w : Masks). CaseHolds c.args.asked night w (case_of m case.duals)) (sym (c.covered.ensures ∙ c.requires.path.covered))
    (case_on c.args.asked night (masks_of night c.args.path.now.blocks) c.args.cases.now c.loop-k.k case m c.get-case.ensures (omega (arith, ints, low, high)) (omega arith) all))

pub returns : goal.returns
returns c = (
  λ t. All-from_get_or (CaseHolds c.args.asked c.args.instance.now (masks_of c.args.instance.now c.args.path.now.blocks)) c.args.cases.now _
      (λ i lt. subst (λ (w : Masks). CaseHolds c.args.asked c.args.instance.now w (case_at c.args.cases.now i)) c.requires.path.covered
      (c.loop-k.invariant i (omega (arith, lt, c.loop-k-test.false, c.len-k-end.ensures.value)))),
  λ h. refl,
)
