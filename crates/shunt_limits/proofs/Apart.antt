-- Prices that no two of which agree in kind, track and train, with one more.
use Rattle.std.specs.Prelude.{◌≢◌, All, map}
use Rattle.std.proofs.Common.{List, [], ◌∷◌, ◌++◌, sym, subst, ◌∙◌}
use Rattle.std.proofs.lemmas.List.{map-append}
use Rattle.std.proofs.lemmas.List.Elements.{recursion_from_All}
use Rattle.shunt_lists.specs.defs.Members.{AreDistinct}
use Rattle.shunt_lists.proofs.Members.{all_in, of_map, pairs_more}
use Rattle.shunt_base.specs.declared.duals.Price.{Price}
use Rattle.shunt_prices.specs.defs.Limits.{AreApart, place_of_price}

pub apart_more : (prices : List Price) (p : Price) → AreApart prices → All (λ other. place_of_price other ≢ place_of_price p) prices → AreApart (prices ++ p ∷ [])
apart_more prices p apart new = subst AreDistinct (sym (map-append place_of_price prices (p ∷ [])))
    (pairs_more (λ x y. x ≢ y) (map place_of_price prices) (place_of_price p) apart
    (λ y i e. let from = of_map place_of_price prices y i in
    all_in (λ other. place_of_price other ≢ place_of_price p) prices from.0 (recursion_from_All (λ other. place_of_price other ≢ place_of_price p) prices new) from.1
    (sym from.2 ∙ e)))
