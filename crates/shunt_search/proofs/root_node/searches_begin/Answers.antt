use Rattle.shunt_search.proofs.Opened.{BeginLaws, first_lifts, whole_begins, branch_begins}
use Rattle.shunt_search.proofs.root_node.searches_begin.Goals as goal

pub returns : goal.returns
returns c =
    let laws : BeginLaws = record {
      branch = c.walks_begin.ensures.branch;
      whole = c.walks_begin.ensures.whole;
      kept_plan = c.kept_plans.ensures;
      opening = c.starts.ensures.opening;
      partial = c.starts.ensures.partial;
      steady = c.walks_stay_steady.ensures.root;
      cost = c.floors.ensures;
      rise = c.bounds_rise_in_versions.ensures.step;
      some = c.bounds_by_version.ensures.some;
      one = c.bounds_by_version.ensures.one;
    } in
    record {
      first = λ version night pins stock s i f. first_lifts laws.rise version night i pins stock s f;
      whole = λ version night pins stock told now count cases s z w i f tells first none begins empty covers takes.
          whole_begins laws version night i pins stock told now count cases s f first z w tells none begins empty covers takes;
      branch = λ version night pins stock told now count cases s z place i f lifts tells first owns begins unfinished adds.
          branch_begins laws version night i pins stock told now count cases s f first z place lifts tells owns begins unfinished adds;
    }
