use Rattle.std.specs.List.{AllByRecursion, flat_map}
use Rattle.std.proofs.Common.{◌≡◌, ◌++◌, ◌∙◌, List, map, sym, subst, ap}
use Rattle.shunt_blocks.specs.declared.records.Shape.{Shape}
use Rattle.shunt_blocks.specs.declared.records.Block.{Block}
use Rattle.shunt_blocks.specs.defs.Shapes.{AreRunsWithin}
use Rattle.shunt_choices.specs.defs.Paths.{Masks, masks_of}
use Rattle.shunt_choices.specs.defs.Choices.{choices_with, shapes_of}
use Rattle.shunt_lists.proofs.Members.{all_from}
use Rattle.shunt_search.specs.defs.Yards.{choice_of}
use Rattle.shunt_search.proofs.Offered.{masks_are, next_shape, last_shape, none_yet}
use Rattle.shunt_search.proofs.children.add_shapes.Goals as goal
use Rattle.shunt_choices.proofs.AtPaths.{next_in}

pub shapes_from-shapes-requires-clause-covered : goal.shapes_from-shapes-requires-clause-covered
shapes_from-shapes-requires-clause-covered c = masks_are c.args.instance.now c.args.path.now c.covered.result.now c.requires.path c.covered.ensures

pub shapes_from-shapes-requires-clause-unit : goal.shapes_from-shapes-requires-clause-unit
shapes_from-shapes-requires-clause-unit c = next_in c.args.instance.now c.args.path.now.blocks c.args.unit c.requires.next

pub shapes-init : goal.shapes-init
shapes-init c =
    let night = c.args.instance.now in
    let given = c.shapes_from-shapes.ensures ∙ ap (λ (m : Masks). shapes_of night m c.args.unit) (c.covered.ensures ∙ c.requires.path.covered) in
    record {
      can_next = tt;
      is_finite = tt;
      within = subst (λ (l : List Shape). AllByRecursion (AreRunsWithin night) l) (sym given)
          (all_from (AreRunsWithin night) (shapes_of night (masks_of night c.args.path.now.blocks) c.args.unit)
          (λ s i. ((c.free_shapes.ensures.members night (masks_of night c.args.path.now.blocks) c.args.unit s c.units.ensures.formed
          (next_in night c.args.path.now.blocks c.args.unit c.requires.next)).0 i).shape.within));
      so_far = ap (λ (l : List Block). map choice_of l ++ flat_map (choices_with night) c.shapes_from-shapes.result) c.requires.none
          ∙ ap (λ (l : List Shape). flat_map (choices_with night) l) given;
      ids = none_yet (λ (b : Block). b.id ≡ c.args.id) c.args.blocks.now.items c.requires.none;
    }

pub add_options-requires-clause-within : goal.add_options-requires-clause-within
add_options-requires-clause-within c = (subst (λ (l : List Shape). AllByRecursion (AreRunsWithin c.args.instance.now) l) c.in-Some.ensures.steps c.shapes.invariant.within).0

pub shapes-preserved : goal.shapes-preserved
shapes-preserved c =
    let night = c.args.instance.now in
    let h = c.shapes.invariant in
    record {
      can_next = tt;
      is_finite = tt;
      within = (subst (λ (l : List Shape). AllByRecursion (AreRunsWithin night) l) c.in-Some.ensures.steps h.within).1;
      so_far = next_shape night c.in-Some.shape _ _ c.shapes.blocks.items c.add_options.new.blocks.items _ c.in-Some.ensures.steps c.in_ok-add_options.ensures.choices h.so_far;
      ids = c.in_ok-add_options.ensures.ids;
    }

pub returns-clause-choices : goal.returns-clause-choices
returns-clause-choices c = last_shape c.args.instance.now c.args.path.now.blocks c.args.unit _ c.shapes.blocks.items c.requires.next c.in_default.ensures.steps.0
    c.shapes.invariant.so_far
