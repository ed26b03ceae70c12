use Rattle.std.proofs.Common.{◌≡◌, ◌++◌, List, length, map, take, drop, sym, subst, ap, ◌∙◌, arith}
use Rattle.std.proofs.lemmas.List.Sorted.{length_permutation}
use Rattle.shunt_blocks.specs.declared.records.Block.{Block}
use Rattle.shunt_blocks.specs.defs.Lists.{AreInRange, IsFeasible, placed, total_cost}
use Rattle.shunt_blocks.specs.defs.Pins.{Keeps}
use Rattle.shunt_blocks.specs.defs.Polished.{IsPolished}
use Rattle.shunt_search.specs.defs.Polish.{unparked}
use Rattle.shunt_search.specs.defs.Conditions.{AreNumbered}
use Rattle.shunt_search.proofs.Swept.{polished, first_part}
use Rattle.shunt_search.proofs.final_plan.tidy_plan.Goals.{In_ok-polish_around}
use Rattle.shunt_search.proofs.final_plan.tidy_plan.Goals as goal

-- the blocks of the vector are those of the slice that it was handed out as
whole : (c : In_ok-polish_around) → take c.in_ok-numbered.numbered.len (c.polish_around.new.blocks ++ drop (length c.polish_around.new.blocks) c.in_ok-numbered.numbered.items)
    ≡ c.polish_around.new.blocks
whole c = first_part c.in_ok-numbered.numbered.len c.polish_around.new.blocks (drop (length c.polish_around.new.blocks) c.in_ok-numbered.numbered.items)
    (c.polish_around.auto.blocks ∙ c.deref_mut.ensures.len)

pub start_with-requires-clause-apart : goal.start_with-requires-clause-apart
start_with-requires-clause-apart c = c.feasible_lists.ensures.apart c.args.instance.now c.args.blocks.now c.requires.feasible

pub placed_blocks-requires : goal.placed_blocks-requires
placed_blocks-requires c =
    let size = ap (λ (l : List Block). length l) c.blocks-2.ensures in
    let same = length_permutation c.args.blocks.now c.in_ok-sorted.sorted.blocks c.in_ok-sorted.ensures.same in
    let few = c.feasible_lists.ensures.few c.args.instance.now c.args.blocks.now c.units.ensures.formed c.requires.feasible in
    omega (arith, size, same, few)

pub polish_around-requires : goal.polish_around-requires
polish_around-requires c =
    subst (λ (l : List Block). IsFeasible c.args.instance.now l) (sym (c.deref_mut.ensures.value ∙ c.in_ok-numbered.ensures ∙ ap (λ (l : List Block). placed l) c.blocks-2.ensures))
    (c.numbered_plans.ensures.feasible c.args.instance.now c.args.blocks.now c.in_ok-sorted.sorted.blocks c.units.ensures.formed c.requires.feasible c.in_ok-sorted.ensures.same)

pub planned-requires : goal.planned-requires
planned-requires c = subst (λ (l : List Block). AreInRange c.args.instance.now l) (sym (whole c))
    (c.feasible_lists.ensures.in_range c.args.instance.now c.polish_around.new.blocks c.units.ensures.formed c.polish_around.ensures.feasible)

pub returns-clause-plan : goal.returns-clause-plan
returns-clause-plan c =
    let is = c.deref_mut.ensures.value ∙ c.in_ok-numbered.ensures ∙ ap (λ (l : List Block). placed l) c.blocks-2.ensures in
    let keeps = c.polish_around.ensures.keeps (subst (λ (l : List Block). Keeps l c.args.pins.now) (sym is)
    (c.numbered_plans.ensures.keeps c.args.blocks.now c.in_ok-sorted.sorted.blocks c.args.pins.now c.in_ok-sorted.ensures.same c.requires.keeps)) in
    let e = sym (c.planned.ensures.blocks ∙ first_part c.in_ok-numbered.numbered.len c.polish_around.new.blocks
    (drop (length c.polish_around.new.blocks) c.in_ok-numbered.numbered.items) (c.polish_around.auto.blocks ∙ c.deref_mut.ensures.len)) in
    record {
      feasible = subst (λ (l : List Block). IsFeasible c.args.instance.now l) e c.polish_around.ensures.feasible;
      keeps = subst (λ (l : List Block). Keeps l c.args.pins.now) e keeps;
      states = c.planned.ensures.cost ∙ ap (λ (l : List Block). total_cost c.args.instance.now l) (sym c.planned.ensures.blocks);
    }

pub returns-clause-tidy : goal.returns-clause-tidy
returns-clause-tidy c =
    let night = c.args.instance.now in
    let new = c.polish_around.new.blocks in
    let is = c.deref_mut.ensures.value ∙ c.in_ok-numbered.ensures ∙ ap (λ (l : List Block). placed l) c.blocks-2.ensures in
    let keeps = c.polish_around.ensures.keeps (subst (λ (l : List Block). Keeps l c.args.pins.now) (sym is)
    (c.numbered_plans.ensures.keeps c.args.blocks.now c.in_ok-sorted.sorted.blocks c.args.pins.now c.in_ok-sorted.ensures.same c.requires.keeps)) in
    let e = sym (c.planned.ensures.blocks ∙ first_part c.in_ok-numbered.numbered.len c.polish_around.new.blocks
    (drop (length c.polish_around.new.blocks) c.in_ok-numbered.numbered.items) (c.polish_around.auto.blocks ∙ c.deref_mut.ensures.len)) in
    let sorted = c.in_ok-sorted.sorted.blocks in
    let shapes = c.polish_around.ensures.shapes ∙ ap (λ (l : List Block). map unparked l) is in
    record {
      polished = subst (λ (l : List Block). IsPolished night c.args.pins.now l) e
          (polished night c.args.pins.now new c.polish_around.ensures.feasible keeps c.in_ok-polish_around.ensures.least);
      numbered = subst (λ (l : List Block). AreNumbered night l) e (c.numbered_plans.ensures.still night (placed sorted) new
          (c.numbered_plans.ensures.numbered night sorted c.in_ok-sorted.ensures.order) shapes);
    }
