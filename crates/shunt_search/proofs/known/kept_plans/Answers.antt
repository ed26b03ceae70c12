use Rattle.std.proofs.Common.{⊎_elim, List, sym, subst}
use Rattle.std.proofs.lemmas.List.Sorted.{IsPermutation-sym}
use Rattle.shunt_blocks.specs.declared.records.Block.{Block}
use Rattle.shunt_blocks.specs.defs.Lists.{placed, total_cost}
use Rattle.shunt_blocks.specs.defs.Pins.{Keeps}
use Rattle.shunt_search.specs.declared.known.KnownPlan.{KnownPlan}
use Rattle.shunt_search.specs.defs.WalkStates.{IsBest}
use Rattle.shunt_search.proofs.known.kept_plans.Goals as goal

pub returns : goal.returns
returns c = λ night pins t old new formed of plan whole same best kept.
    let feasible = c.whole_paths.ensures.feasible night t formed of plan.each plan.through whole same in
    let front = subst (λ (l : List Block). Keeps (placed l) plan.start) (sym plan.is) (c.opening_plans.ensures.keeps plan.start plan.found) in
    let keeps = c.starts.ensures.keeps (placed t.blocks) plan.start pins (IsPermutation-sym pins plan.start plan.pinned) front in
    let placed_best : IsBest night pins (placed t.blocks) (total_cost night t.blocks) = record {
      feasible = feasible;
      keeps = keeps;
      cost = sym
          (c.feasible_lists.ensures.cost night t.blocks);
    } in
    ⊎_elim
    (λ e. subst (λ (k : KnownPlan). IsBest night pins k.blocks.items k.cost) (sym e) best)
    (λ e. subst (λ (l : List Block). IsBest night pins l new.cost) (sym e.0) (subst (λ n. IsBest night pins (placed t.blocks) n) (sym e.1) placed_best))
    kept.is
