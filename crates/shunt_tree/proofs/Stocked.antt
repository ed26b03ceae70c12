-- Cases within the limits, with some more.
use Rattle.std.specs.Prelude.{All}
use Rattle.std.proofs.Common.{List, [], ◌∷◌, ◌++◌}
use Rattle.std.proofs.lemmas.List.Elements.{All-append, All-cons, All-nil}
use Rattle.shunt_base.specs.declared.duals.Case.{Case}
use Rattle.shunt_instance.specs.defs.Instance.{Night}
use Rattle.shunt_prices.specs.defs.Limits.{AreCases}

pub cases_more : (night : Night) (stock : List (List Case)) (cases : List Case) → All (AreCases night) stock → AreCases night cases → All (AreCases night) (stock ++ cases ∷ [])
cases_more night stock cases each is = All-append (AreCases night) stock (cases ∷ []) each (All-cons (AreCases night) cases [] is (All-nil (AreCases night)))
