use Rattle.std.proofs.Common.{inl, inr, ⊎_elim, arith}
use Rattle.std.proofs.lemmas.Int.{ints}
use Rattle.shunt_search.proofs.Restarted.{over_where_none}
use Rattle.shunt_search.proofs.attempts.walk_plainly.Goals as goal

pub returns-clause-done : goal.returns-clause-done
returns-clause-done g c =
    let h = c.in_ok-walk_again.ensures in
    ⊎_elim inl (λ none. inr (over_where_none _ _ _ none (let low = h.search.plain h.plain in omega (arith, ints, low)))) h.done
