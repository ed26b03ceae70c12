-- The costs of a shape by track, option by option, and its least weight, track by track.
use Rattle.std.specs.Prelude.{Option, Some, None, ◌↔◌, replicate}
use Rattle.std.specs.List.{AllByRecursion}
use Rattle.std.proofs.Common.{◌≡◌, ◌⊎◌, inl, inr, ⊎_elim, ℕ, ◌+◌, ◌*◌, ◌<◌, ◌≤◌, List, length, get_or, refl, sym, ap, subst, ◌∙◌, arith}
use Rattle.std.proofs.lemmas.Bool.{cases_lt}
use Rattle.std.proofs.lemmas.List.{length-replicate, get_or-replicate, get_or_past}
use Rattle.shunt_lists.specs.defs.Members.{In}
use Rattle.shunt_lists.proofs.Members.{all_in, all_from}
use Rattle.shunt_base.specs.declared.duals.Price.{Price}
use Rattle.shunt_instance.specs.defs.Instance.{Night}
use Rattle.shunt_blocks.specs.declared.records.Shape.{Shape}
use Rattle.shunt_blocks.specs.declared.records.Park.{Park}
use Rattle.shunt_blocks.specs.defs.Blocks.{IsOption}
use Rattle.shunt_blocks.specs.defs.Costs.{cost_with}
use Rattle.shunt_choices.specs.defs.Choices.{options_of}
use Rattle.shunt_prices.specs.defs.Prices.{price_part_with}
use Rattle.shunt_prices.specs.defs.Cases.{HasRoom}
use Rattle.shunt_dual.specs.defs.Asks.{weight_at, weight_of, IsGiven, IsLeastWeight, IsCostOn, AreCosts, AreCostsWith}
use Rattle.shunt_prices.proofs.Counts.{no_part}

-- an option that isn't parked, or has no room, or costs at least the number of its track
abbrev pub CostsAtLeast : Night → Shape → (ℕ → ℕ) → Option Park → Type 0
CostsAtLeast night s least None = Unit {0}
CostsAtLeast night s least (Some k) = HasRoom night s (Some k) → least k.track.0 ≤ cost_with night s (Some k)

module _ (night : Night) (s : Shape) where
  pub are_options : ((o : Option Park) → In o (options_of night s) ↔ IsOption night s o) → AllByRecursion (IsOption night s) (options_of night s)
  are_options members = all_from (IsOption night s) (options_of night s) (λ o i. (members o).0 i)

  pub first_small : (x : ℕ) → x ≡ cost_with night s None → (t : ℕ) → get_or (replicate 60 x) t 0 ≤ cost_with night s None
  first_small x e t = ⊎_elim
      (λ (lt : t < 60). omega (arith, e, get_or-replicate 60 t x 0 lt))
      (λ (past : 60 ≤ t). omega (arith, get_or_past (replicate 60 x) t 0 (omega (arith, length-replicate 60 x, past))))
      (cases_lt t 60)

  pub first_one : (x : ℕ) → x ≡ cost_with night s None → (t : ℕ) → t < 60 → IsCostOn night s t (get_or (replicate 60 x) t 0)
  first_one x e t lt = inl (get_or-replicate 60 t x 0 lt ∙ e)

  module _ (option : Option Park) (old new : List ℕ) (w : AreCostsWith night s option old new) where
    pub next_small : ((t : ℕ) → get_or old t 0 ≤ cost_with night s None) → (t : ℕ) → get_or new t 0 ≤ cost_with night s None
    next_small small t = omega (arith, small t, w.less t)

    pub next_one : IsOption night s option → ((t : ℕ) → t < 60 → IsCostOn night s t (get_or old t 0)) → (t : ℕ) → t < 60 → IsCostOn night s t (get_or new t 0)
    next_one is one t lt = ⊎_elim
        (λ (e : get_or new t 0 ≡ get_or old t 0). subst (IsCostOn night s t) (sym e) (one t lt))
        (λ (x : (k : Park) × (option ≡ Some k) × (k.track.0 ≡ t) × HasRoom night s (Some k) × (get_or new t 0 ≡ cost_with night s (Some k))).
        inr (x.0, subst (IsOption night s) x.1 is, x.3, x.2, x.4))
        (w.one t)

  pub head_least : (option : Option Park) (old new : List ℕ) → AreCostsWith night s option old new → length old ≡ 60 → (least : ℕ → ℕ) → ((t : ℕ) → least t ≤ get_or new t 0)
      → CostsAtLeast night s least option
  head_least None old new w long least le = tt
  head_least (Some k) old new w long least le = λ room. omega (arith, le k.track.0, w.room k refl long room)

  pub costs_are : (costs : List ℕ) → length costs ≡ 60 → ((t : ℕ) → get_or costs t 0 ≤ cost_with night s None) → ((t : ℕ) → t < 60 → IsCostOn night s t (get_or costs t 0))
      → AllByRecursion (CostsAtLeast night s (λ t. get_or costs t 0)) (options_of night s) → ((o : Option Park) → In o (options_of night s) ↔ IsOption night s o)
      → AreCosts night s costs
  costs_are costs long small one all members = record {
    long = long;
    small = small;
    each = λ k is room. all_in (CostsAtLeast night s (λ t. get_or costs t 0)) (options_of night s) (Some k) all ((members (Some k)).1 is) room;
    one = one;
  }

  -- ---- weights

  -- each way to park on a track before a number that has room weighs at least so much
  abbrev pub LeastBefore : List ℕ → ℕ → ℕ → Type 0
  LeastBefore charges t weight = (k : Park) → k.track.0 < t → IsOption night s (Some k) → HasRoom night s (Some k) → weight ≤ weight_at night charges s (Some k)

  pub unparked_given : (charges : List ℕ) (x : ℕ) → x ≡ cost_with night s None → IsGiven night charges s (1000 * x)
  unparked_given charges x e = record { option = None; is_option = tt; room = tt; is = omega (arith, e) }

  module _ (charges costs : List ℕ) (are : AreCosts night s costs) (t old new : ℕ) where
    pub given_next : t < 60 → old ≤ 1000 * cost_with night s None → new ≤ old → IsGiven night charges s old
        → (new ≡ old) ⊎ (new ≡ 1000 * get_or costs t 0 + get_or charges t 0) → IsGiven night charges s new
    given_next lt low le g one = ⊎_elim
        (λ (e : new ≡ old). record { option = g.option; is_option = g.is_option; room = g.room; is = e ∙ g.is })
        (λ (e : new ≡ 1000 * get_or costs t 0 + get_or charges t 0). ⊎_elim
        (λ (u : get_or costs t 0 ≡ cost_with night s None). record { option = None; is_option = tt; room = tt; is = omega (arith, e, u, low, le) })
        (λ (x : (k : Park) × IsOption night s (Some k) × HasRoom night s (Some k) × (k.track.0 ≡ t) × (get_or costs t 0 ≡ cost_with night s (Some k))).
        let charge : get_or charges x.0.track.0 0 ≡ get_or charges t 0 = ap (λ (n : ℕ). get_or charges n 0) x.3 in
        record { option = Some x.0; is_option = x.1; room = x.2; is = omega (arith, e, x.4, charge) })
        (are.one t lt))
        one

    pub before_next : new ≤ old → new ≤ 1000 * get_or costs t 0 + get_or charges t 0 → LeastBefore charges t old → LeastBefore charges (t + 1) new
    before_next le here before k lt is room = ⊎_elim
        (λ (early : k.track.0 < t). let b = before k early is room in omega (arith, b, le))
        (λ (late : t ≤ k.track.0).
        let e : k.track.0 ≡ t = omega (arith, late, lt) in
        let charge : get_or charges k.track.0 0 ≡ get_or charges t 0 = ap (λ (n : ℕ). get_or charges n 0) e in
        let cost : get_or costs k.track.0 0 ≡ get_or costs t 0 = ap (λ (n : ℕ). get_or costs n 0) e in
        omega (arith, here, charge, cost, are.each k is room))
        (cases_lt k.track.0 t)

  module _ (charges : List ℕ) (prices : List Price) (tracks : ℕ) (count : tracks ≡ length night.station.tracks) (few : tracks ≤ 60)
      (exact : (k : Park) → k.track.0 < 60 → get_or charges k.track.0 0 ≡ price_part_with night prices s (Some k)) where
    same_weight : (park : Option Park) → IsOption night s park → weight_at night charges s park ≡ weight_of night prices s park
    same_weight None is = ap (λ (n : ℕ). 1000 * cost_with night s None + n) (sym (no_part night prices s))
    same_weight (Some k) is = ap (λ (n : ℕ). 1000 * cost_with night s (Some k) + n) (exact k (omega (arith, is.track, few, count)))

    pub least_is : (w t : ℕ) → tracks ≤ t → IsGiven night charges s w → w ≤ 1000 * cost_with night s None → LeastBefore charges t w → IsLeastWeight night prices s w
    least_is w t le g small before = record {
      option = g.option;
      is_option = g.is_option;
      room = g.room;
      is = g.is ∙ same_weight g.option g.is_option;
      least = λ park is room. at_least park is room;
    }
      where
        at_least : (park : Option Park) → IsOption night s park → HasRoom night s park → w ≤ weight_of night prices s park
        at_least None is room = omega (arith, small)
        at_least (Some k) is room = let b = before k (omega (arith, is.track, le, count)) is room in omega (arith, b, same_weight (Some k) is)
