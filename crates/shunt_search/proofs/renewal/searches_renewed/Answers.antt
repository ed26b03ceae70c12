use Rattle.shunt_search.proofs.Restarted.{RestartLaws}
use Rattle.shunt_search.proofs.Renewed.{ground_of, ground_with}
use Rattle.shunt_search.proofs.renewal.searches_renewed.Goals as goal

pub returns : goal.returns
returns c =
    let laws : RestartLaws = record { one = c.starts.ensures.one; opening = c.starts.ensures.opening; before_opening = c.best_costs.ensures.opening } in
    record {
      root = λ night pins stock told number owned s r h cases floor. ground_of laws night pins stock told number owned s r h cases floor;
      plan = λ version night pins stock told number owned s r k h ground. ground_with laws version night pins stock told number owned s r k h ground;
    }
