use Rattle.std.proofs.lemmas.List.Sorted.{IsPermutation-sym}
use Rattle.shunt_search.proofs.Tidied.{TidyLaws, feasible, keeps, cost, numbered, still}
use Rattle.shunt_search.proofs.final_plan.numbered_plans.Goals as goal

pub returns : goal.returns
returns c =
    let laws : TidyLaws = record {
      placed_too = c.feasible_lists.ensures.placed;
      apart = c.feasible_lists.ensures.apart;
      cost = c.feasible_lists.ensures.cost;
      no_ids = c.feasible_lists.ensures.no_ids;
      part = c.ids_do_not_matter.ensures.placed_part;
      keeps = c.opening_plans.ensures.keeps;
    } in
    record {
      feasible = λ night blocks sorted i h same. feasible laws night blocks sorted i h same;
      keeps = λ blocks sorted pins same all. keeps laws blocks sorted pins (IsPermutation-sym blocks sorted same) all;
      cost = λ night blocks sorted same. cost laws night blocks sorted same;
      numbered = λ night sorted order. numbered night sorted order;
      still = λ night blocks others h same. still night blocks others h same;
    }
