use Rattle.std.specs.Prelude.{All}
use Rattle.std.specs.List.{AllByRecursion, flat_map}
use Rattle.std.proofs.Common.{◌≡◌, ◌++◌, map}
use Rattle.shunt_blocks.specs.defs.Shapes.{AreRunsWithin}
use Rattle.shunt_choices.specs.defs.Paths.{masks_of}
use Rattle.shunt_choices.specs.defs.Choices.{choices_with, shapes_of}
use Rattle.shunt_search.specs.defs.Yards.{choice_of}
use Rattle.shunt_search.proofs.children.add_shapes.Given as goal

abbrev pub invariant-shapes : goal.invariant-shapes
invariant-shapes l = record {
  can_next : (goal.iterator-shapes).can_next l.shapes;
  is_finite : (goal.iterator-shapes).is_finite l.shapes;
  within : AllByRecursion (AreRunsWithin l.instance) l.shapes;
  so_far : map choice_of l.blocks.items ++ flat_map (choices_with l.instance) l.shapes
      ≡ flat_map (choices_with l.instance) (shapes_of l.instance (masks_of l.instance l.fn.path.blocks) l.fn.unit);
  ids : All (λ b. b.id ≡ l.id) l.blocks.items;
}
