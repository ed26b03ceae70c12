use Rattle.std.specs.List.{AllByRecursion}
use Rattle.shunt_blocks.specs.defs.Shapes.{AreRunsWithin}
use Rattle.shunt_choices.specs.defs.Choices.{shapes_of}
use Rattle.shunt_dual.specs.defs.Weighed.{case_of, ShapeHolds}
use Rattle.shunt_dual.proofs.feasibility.unit_holds.Given as goal

abbrev pub invariant-shapes : goal.invariant-shapes
invariant-shapes l = record {
  can_next : (goal.iterator-shapes).can_next l.shapes;
  is_finite : (goal.iterator-shapes).is_finite l.shapes;
  within : AllByRecursion (AreRunsWithin l.instance) l.shapes;
  all : AllByRecursion (ShapeHolds l.asked l.instance (case_of l.multiplier l.duals)) l.shapes
      → AllByRecursion (ShapeHolds l.asked l.instance (case_of l.multiplier l.duals)) (shapes_of l.instance l.covered l.u);
  left : AllByRecursion (ShapeHolds l.asked l.instance (case_of l.multiplier l.duals)) (shapes_of l.instance l.covered l.u)
      → AllByRecursion (ShapeHolds l.asked l.instance (case_of l.multiplier l.duals)) l.shapes;
}
