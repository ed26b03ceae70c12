-- Stocks of cases, the root's first.
use Rattle.std.specs.Prelude.{All}
use Rattle.std.proofs.Common.{◌≡◌, ◌<◌, List, [], ◌∷◌, ◌++◌, length, set, refl, sym, subst, ap, ◌∙◌, arith}
use Rattle.std.proofs.lemmas.List.{length-set, get_or-set_same}
use Rattle.std.proofs.lemmas.List.Elements.{All-cons, All-nil, All-set}
use Rattle.shunt_base.specs.declared.duals.Case.{Case}
use Rattle.shunt_instance.specs.defs.Instance.{Night}
use Rattle.shunt_prices.specs.defs.Limits.{AreApart, AreCases}
use Rattle.shunt_proof.specs.defs.Nodes.{AreStatable}
use Rattle.shunt_search.specs.defs.WalkStates.{cases_in}
use Rattle.shunt_search.specs.defs.SearchStates.{IsStock}

-- one entry
pub alone : (night : Night) (stock : List (List Case)) (cases : List Case) → stock ≡ cases ∷ [] → AreStatable night cases → IsStock night stock × (cases_in stock 0 ≡ cases)
alone night stock cases e s = subst (λ (l : List (List Case)). IsStock night l × (cases_in l 0 ≡ cases)) (sym e) (
  record { some = omega arith; each = All-cons (AreStatable night) cases [] s (All-nil (AreStatable night)) },
  refl,
)

-- the first of no entries
pub pushed : (night : Night) (old new : List (List Case)) (cases : List Case) → old ≡ [] → new ≡ old ++ cases ∷ [] → AreStatable night cases
    → IsStock night new × (cases_in new 0 ≡ cases)
pushed night old new cases none e s = alone night new cases (e ∙ ap (λ (l : List (List Case)). l ++ cases ∷ []) none) s

-- the first of some is replaced
pub replaced : (night : Night) (old : List (List Case)) (cases : List Case) → 0 < length old → All (AreStatable night) old → AreStatable night cases
    → IsStock night (set old 0 cases) × (cases_in (set old 0 cases) 0 ≡ cases)
replaced night old cases some all s = (
  record { some = let same = length-set old 0 cases in omega (arith, same, some); each = All-set (AreStatable night) old 0 cases s all },
  get_or-set_same old 0 cases [] some,
)

-- cases within the limits whose prices are apart can be stated
pub all_statable : (night : Night) (stock : List (List Case)) → All (AreCases night) stock → All (λ cases. All (λ c. AreApart c.duals.prices) cases) stock
    → All (AreStatable night) stock
all_statable night stock within apart k d lt = record { within = within k d lt; apart = apart k d lt }
