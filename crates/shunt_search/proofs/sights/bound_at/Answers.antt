use Rattle.std.proofs.Common.{◌∙◌, List, sym, subst, ap}
use Rattle.shunt_blocks.specs.declared.records.Shape.{Shape}
use Rattle.shunt_choices.specs.defs.Paths.{Masks}
use Rattle.shunt_choices.specs.defs.Choices.{AreFreeShapes}
use Rattle.shunt_fillings.specs.declared.ends.Stack.{Stack}
use Rattle.shunt_fillings.specs.defs.Pieces.{all_seen}
use Rattle.shunt_search.proofs.Offered.{masks_are}
use Rattle.shunt_search.proofs.sights.bound_at.Goals as goal

pub all_shapes-requires : goal.all_shapes-requires
all_shapes-requires c = record { covered = masks_are c.args.instance.now c.args.yard.now.path c.covered.result.now c.requires.yard.path c.covered.ensures }

pub stack_bound-requires-clause-scene : goal.stack_bound-requires-clause-scene
stack_bound-requires-clause-scene c =
    record {
      events = c.requires.ends.events;
      stacks = ap (λ (l : List Stack). all_seen l) c.deref.ensures.value ∙ c.requires.ends.stacks;
      path = c.requires.yard.path;
      each = c.requires.yard.each;
      through = c.requires.yard.through;
      shapes = subst (λ (l : List Shape). AreFreeShapes c.args.instance.now c.args.yard.now.path.covered l) (sym c.deref-2.ensures.value)
          (subst (λ (m : Masks). AreFreeShapes c.args.instance.now m c.in_ok-shapes.shapes.items) c.covered.ensures c.in_ok-shapes.ensures.exact);
    }
