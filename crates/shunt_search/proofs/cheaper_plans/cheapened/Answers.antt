use Rattle.std.specs.Prelude.{All}
use Rattle.std.proofs.Common.{List, length, drop, sym, subst, ap, ◌∙◌}
use Rattle.shunt_blocks.specs.declared.records.Block.{Block}
use Rattle.shunt_blocks.specs.defs.Shapes.{IsWithinTrains}
use Rattle.shunt_blocks.specs.defs.Lists.{IsFeasible, total_cost}
use Rattle.shunt_blocks.specs.defs.Pins.{Keeps}
use Rattle.shunt_search.proofs.Swept.{first_part}
use Rattle.shunt_search.proofs.cheaper_plans.cheapened.Goals as goal

pub ruin_and_recreate-requires-clause-keeps : goal.ruin_and_recreate-requires-clause-keeps
ruin_and_recreate-requires-clause-keeps c = subst (λ (l : List Block). Keeps l c.args.pins.now) (sym c.deref.ensures.value) c.requires.keeps

pub path_cost-cost-requires-clause-within : goal.path_cost-cost-requires-clause-within
path_cost-cost-requires-clause-within c =
    let new = c.polish_around.new.blocks in
    let same = first_part c.in_ok-blocks.blocks.len new (drop (length new) c.in_ok-blocks.blocks.items) (c.polish_around.auto.blocks ∙ c.deref_mut.ensures.len) in
    let in_range = c.feasible_lists.ensures.in_range c.args.instance.now new c.units.ensures.formed c.polish_around.ensures.feasible in
    subst (λ (l : List Block). All (IsWithinTrains c.args.instance.now) l) (sym (c.deref-2.ensures.value ∙ same)) (λ k d lt. (in_range.each k d lt).within)

pub returns-clause-best : goal.returns-clause-best
returns-clause-best c =
    let new = c.polish_around.new.blocks in
    let same = first_part c.in_ok-blocks.blocks.len new (drop (length new) c.in_ok-blocks.blocks.items) (c.polish_around.auto.blocks ∙ c.deref_mut.ensures.len) in
    let keeps = c.polish_around.ensures.keeps (subst (λ (l : List Block). Keeps l c.args.pins.now) (sym c.deref_mut.ensures.value) c.in_ok-blocks.ensures.keeps) in
    record {
      feasible = subst (λ (l : List Block). IsFeasible c.args.instance.now l) (sym same) c.polish_around.ensures.feasible;
      keeps = subst (λ (l : List Block). Keeps l c.args.pins.now) (sym same) keeps;
      cost = c.path_cost-cost.ensures.exact ∙ ap (λ (l : List Block). total_cost c.args.instance.now l) c.deref-2.ensures.value;
    }
