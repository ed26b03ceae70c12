use Rattle.shunt_search.proofs.Ended.{EndLaws, natural, end}
use Rattle.shunt_search.proofs.conclusion.searches_end.Goals as goal

pub returns : goal.returns
returns c =
    let laws : EndLaws = record {
      right = c.walks_go_on.ensures.right;
      exactly = c.trees_by_version.ensures.exactly;
      left = c.walks_stay_steady.ensures.left;
      fronts = c.walks_stay_steady.ensures.fronts;
      costs = c.walks_stay_steady.ensures.costs;
      one = c.starts.ensures.one;
      opening = c.starts.ensures.opening;
      before_opening = c.best_costs.ensures.opening;
      before_whole = c.best_costs.ensures.whole;
      accepted = λ night pins own stated x plan i h apart a f keeps. c.proved_by_version.ensures.accepted x.version night pins own stated x plan i h apart a f keeps;
      all_plans = c.all_plans.ensures;
    } in
    record {
      natural = λ version night pins stock told number owned s bound i h left. natural laws version night i pins stock told number owned s h bound left;
      end = λ version night pins stock told number owned most b s plan i h left for_plan tidy cheap few limit done.
          end laws version night i pins stock told number owned s h most b plan left for_plan tidy cheap few limit done;
    }
