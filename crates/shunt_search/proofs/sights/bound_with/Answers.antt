use Rattle.std.proofs.Common.{◌∙◌, List, refl, sym, subst, ap}
use Rattle.std.proofs.lemmas.Result.{IfOk-weaker}
use Rattle.shunt_blocks.specs.declared.records.Shape.{Shape}
use Rattle.shunt_stacks.specs.defs.Bounds.{IsChoiceBound}
use Rattle.shunt_fillings.specs.declared.ends.Stack.{Stack}
use Rattle.shunt_fillings.specs.defs.Pieces.{all_seen}
use Rattle.shunt_proof.specs.declared.records.Version.TheVariants.{Stacks}
use Rattle.shunt_proof.specs.defs.Versions.{IsStepBoundIn}
use Rattle.shunt_search.specs.defs.Yards.{more_by}
use Rattle.shunt_search.proofs.YardChanges.{few_path}
use Rattle.shunt_search.proofs.Nexts.{next_in_range, next_free}
use Rattle.shunt_search.proofs.sights.bound_with.Goals as goal
use Rattle.shunt_choices.specs.defs.Choices.{AreFreeShapes}

pub choice_bound-requires-clause-scene : goal.choice_bound-requires-clause-scene
choice_bound-requires-clause-scene c =
    record {
      events = c.requires.ends.events;
      stacks = ap (λ (l : List Stack). all_seen l) c.deref.ensures.value ∙ c.requires.ends.stacks;
      path = c.requires.yard.path;
      each = c.requires.yard.each;
      through = c.requires.yard.through;
      shapes = subst (λ (l : List Shape). AreFreeShapes c.args.instance.now c.args.yard.now.path.covered l) (sym c.deref-2.ensures.value) c.requires.sight.shapes;
    }

pub choice_bound-requires-clause-block : goal.choice_bound-requires-clause-block
choice_bound-requires-clause-block c =
    let few = few_path c.few_blocks.ensures.most c.args.instance.now c.args.yard.now.path c.units.result c.requires.yard.path c.units.ensures.exact c.units.ensures.few in
    record {
      in_range = next_in_range c.args.instance.now c.args.yard.now.path.blocks c.args.block.now few c.requires.next;
      free = next_free c.args.instance.now c.args.yard.now.path.blocks c.args.block.now c.requires.next;
      through = c.requires.through;
    }

pub returns : goal.returns
returns c =
    let night = c.args.instance.now in
    let path = c.args.yard.now.path.blocks in
    IfOk-weaker c.choice_bound.result
    (λ bound. IsChoiceBound night path c.args.block.now c.args.cases.now bound)
    (λ bound. IsStepBoundIn Stacks night path (more_by path c.args.block.now) c.args.cases.now bound)
    (λ bound is. (c.args.block.now, refl, is))
    c.choice_bound.ensures
