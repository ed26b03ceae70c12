use Rattle.shunt_search.proofs.Searched.{SearchLaws, SteadyLaws, is_ready, whole_search, branch_search, closed_search}
use Rattle.shunt_search.proofs.search.searches_go_on.Goals as goal

pub returns : goal.returns
returns c =
    let steady : SteadyLaws = record { branch = c.walks_stay_steady.ensures.branch; whole = c.walks_stay_steady.ensures.whole; closed = c.walks_stay_steady.ensures.closed } in
    let laws : SearchLaws = record {
      branch = c.walks_go_on.ensures.branch;
      whole = c.walks_go_on.ensures.whole;
      follows = c.walks_go_on.ensures.follows;
      next = c.walks_go_on.ensures.next;
      hold = c.walks_go_on.ensures.hold;
      node = c.next_nodes.ensures;
      kept_plan = c.kept_plans.ensures;
      steady = steady;
      rise = c.bounds_rise_in_versions.ensures.step;
      longer = c.bounds_rise_in_versions.ensures.longer;
      some = c.bounds_by_version.ensures.some;
      partial = c.few_nodes.ensures.partial;
      grows = c.plans_grow.ensures.grows;
      most = c.few_blocks.ensures.most;
    } in
    record {
      ready = λ version night pins stock told number owned left t s i h below. is_ready laws version night i
          (c.unit_numbers.ensures.units_few night i) pins stock told number owned left t s h below;
      branch = λ version night pins stock told now number count owned cases left t s z how i h below arrives not_whole more owns both.
          branch_search laws version night i (c.unit_numbers.ensures.units_few night i) pins stock told number owned left t s h below z how arrives now count cases more owns both
          not_whole;
      whole = λ version night pins stock told now number count owned cases left t s z w i h below arrives more owns both takes.
          whole_search laws version night i (c.unit_numbers.ensures.units_few night i) pins stock told number owned left t s h below z w arrives now count cases more owns
          both takes;
      closed = λ version night pins stock told number owned waiting left s z h falls.
          closed_search c.walks_go_on.ensures.closed steady version night pins stock told number owned waiting left s z h falls;
    }
