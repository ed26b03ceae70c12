use Rattle.shunt_search.proofs.Restarted.{RestartLaws, restarted}
use Rattle.shunt_search.proofs.attempts.searches_restart.Goals as goal

pub returns : goal.returns
returns c =
    let laws : RestartLaws = record { one = c.starts.ensures.one; opening = c.starts.ensures.opening; before_opening = c.best_costs.ensures.opening } in
    λ version night pins stock told number owned s z h again. restarted laws version night pins stock told number owned s z h again
