use mir.Syntax.{w64}
use mir.Val.{to_z, of_z}
use borrow.Author.Count.{below_more}
use Rattle.std.specs.Prelude.{IsTrue, ◌↔◌, false}
use Rattle.std.proofs.Common.{ℤ, subst, refl, arith}
use Rattle.std.proofs.lemmas.Int.{to_z-of_z}
use Rattle.shunt_dual.specs.defs.Weighed.{case_of, UnitHolds, CaseHolds}
use Rattle.shunt_dual.proofs.Holds.{unit_of, case_is}
use Rattle.shunt_dual.proofs.feasibility.holds_in_case.Goals as goal
use Rattle.shunt_lists.proofs.Tests.{refutes as failed}

pub loop-u-preserved : goal.loop-u-preserved
loop-u-preserved c = below_more _ _ c.loop-u.invariant (c.unit_holds.ensures.0 c.if-not-unit_holds.false)

pub returns-then-not-unit_holds : goal.returns-then-not-unit_holds
returns-then-not-unit_holds c =
    let k = case_of (to_z w64 (of_z w64 c.args.multiplier)) c.args.duals.now in
    subst (λ (z : ℤ). IsTrue false ↔ CaseHolds c.args.asked c.args.instance.now c.args.covered.now (case_of z c.args.duals.now))
    (to_z-of_z w64 c.args.multiplier c.ranges.multiplier)
    (failed (UnitHolds c.args.asked c.args.instance.now c.args.covered.now k c.loop-u.u)
    (CaseHolds c.args.asked c.args.instance.now c.args.covered.now k) c.unit_holds.result c.unit_holds.ensures c.if-not-unit_holds.true
    (λ h. unit_of c.args.asked c.args.instance.now c.args.covered.now k h c.loop-u.u))

pub returns : goal.returns
returns c = (
  λ t. subst (λ (z : ℤ). CaseHolds c.args.asked c.args.instance.now c.args.covered.now (case_of z c.args.duals.now)) (to_z-of_z w64 c.args.multiplier c.ranges.multiplier)
      (case_is c.args.instance.now c.args.covered.now (case_of (to_z w64 (of_z w64 c.args.multiplier)) c.args.duals.now) c.loop-u.u
      (omega (arith, c.loop-u-test.false, c.units-u-end.ensures.exact)) (c.rooms_of_trains.ensures.unit c.args.instance.now) c.args.asked c.loop-u.invariant),
  λ h. refl,
)
