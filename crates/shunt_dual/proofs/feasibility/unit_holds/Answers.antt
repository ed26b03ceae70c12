use mir.Syntax.{w64}
use mir.Val.{to_z, of_z}
use Rattle.std.specs.Prelude.{IsTrue, ◌↔◌, false}
use Rattle.std.specs.List.{AllByRecursion}
use Rattle.std.proofs.Common.{ℤ, subst, sym, refl}
use Rattle.std.proofs.lemmas.Int.{to_z-of_z}
use Rattle.shunt_choices.specs.defs.Choices.{shapes_of}
use Rattle.shunt_dual.specs.defs.Weighed.{case_of, ShapeHolds, UnitHolds}
use Rattle.shunt_dual.proofs.Holds.{unit_is, unit_each}
use Rattle.shunt_dual.proofs.feasibility.unit_holds.Goals as goal
use Rattle.shunt_lists.proofs.Tests.{refutes as failed}

pub returns-then-not-shape_holds : goal.returns-then-not-shape_holds
returns-then-not-shape_holds c =
    let night = c.args.instance.now in
    let k = case_of (to_z w64 (of_z w64 c.args.multiplier)) c.args.duals.now in
    subst (λ (z : ℤ). IsTrue false ↔ UnitHolds c.args.asked c.args.instance.now c.args.covered.now (case_of z c.args.duals.now) c.args.u)
    (to_z-of_z w64 c.args.multiplier c.ranges.multiplier)
    (failed (ShapeHolds c.args.asked night k c.in-Some.shape) (UnitHolds c.args.asked night c.args.covered.now k c.args.u) c.shape_holds.result c.shape_holds.ensures
    c.if-not-shape_holds.true
    (λ h. (subst (AllByRecursion (ShapeHolds c.args.asked night k)) c.in-Some.ensures.steps (c.shapes.invariant.left
    (unit_each c.args.asked night c.args.covered.now k c.args.u (shapes_of night c.args.covered.now c.args.u)
    (λ s. c.free_shapes.ensures.members night c.args.covered.now c.args.u s c.units-2.ensures.formed c.requires.unit) h))).0))

pub returns : goal.returns
returns c =
    let night = c.args.instance.now in
    let k = case_of (to_z w64 (of_z w64 c.args.multiplier)) c.args.duals.now in (
      λ t. subst (λ (z : ℤ). UnitHolds c.args.asked c.args.instance.now c.args.covered.now (case_of z c.args.duals.now) c.args.u)
          (to_z-of_z w64 c.args.multiplier c.ranges.multiplier)
          (unit_is c.args.asked night c.args.covered.now k c.args.u (shapes_of night c.args.covered.now c.args.u)
          (λ s. c.free_shapes.ensures.members night c.args.covered.now c.args.u s c.units-2.ensures.formed c.requires.unit)
          (c.shapes.invariant.all (subst (AllByRecursion (ShapeHolds c.args.asked night k)) (sym c.in_default.ensures.steps.0) tt))),
      λ h. refl,
    )
