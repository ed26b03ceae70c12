-- Raised prices, and price steps.
use Rattle.std.specs.Prelude.{◌≢◌, map, ◌==◌, ◌&&◌, All, cond, sum_by, Option}
use Rattle.std.proofs.Common.{◌≡◌, ⊎_elim, ℕ, zero, suc, ◌+◌, ◌*◌, Bool, true, false, List, [], ◌∷◌, get_or, set, ℤ, refl, sym, subst, ap, ◌∙◌, arith}
use Rattle.std.proofs.Math.Nat.{add-mul, one-mul}
use Rattle.std.proofs.lemmas.Int.{ints}
use Rattle.std.proofs.lemmas.Bool.{cases_Bool, cases_eq, eqb-true, eq-eqb, false≢true, and_parts}
use Rattle.std.proofs.lemmas.List.{length-set, get_or-set_same, get_or-set_other}
use Rattle.std.proofs.lemmas.List.Sums.{sum_by-cons}
use Rattle.std.proofs.lemmas.List.Elements.{All-cons, All-tail}
use Rattle.std.proofs.lemmas.List.Kept.{AllPairs-cons}
use Rattle.shunt_lists.specs.defs.Members.{AreDistinct}
use Rattle.shunt_lists.proofs.Lists.{all_one}
use Rattle.shunt_base.specs.declared.ids.ArrId.{ArrId}
use Rattle.shunt_base.specs.declared.ids.TrackId.{TrackId}
use Rattle.shunt_base.specs.declared.duals.PriceKind.{PriceKind}
use Rattle.shunt_base.specs.declared.duals.PriceKind.TheVariants as kind
use Rattle.shunt_base.specs.declared.duals.Price.{Price}
use Rattle.shunt_base.specs.declared.duals.Duals.{Duals}
use Rattle.shunt_instance.specs.defs.Instance.{Night, unit_total}
use Rattle.shunt_blocks.specs.declared.records.Shape.{Shape}
use Rattle.shunt_blocks.specs.declared.records.Block.{Block}
use Rattle.shunt_blocks.specs.declared.records.Park.{Park}
use Rattle.shunt_choices.specs.defs.Paths.{masks_of}
use Rattle.shunt_prices.specs.defs.Prices.{track_length, most, counted_with, price_part_with, paid_at_most}
use Rattle.shunt_prices.specs.defs.Limits.{IsValue, AreDuals, AreApart, place_of_price, case_at, plain}
use Rattle.shunt_prices.specs.defs.Cases.{DualsHold, HoldsInCase}
use Rattle.shunt_prices.specs.defs.Steps.{is_by_length, is_length_price, length_price, raised, with_alpha, IsGreatest, IsRefit, AreRefitted, IsPriceStep}

abbrev PlaceOfPrice : Type 0
PlaceOfPrice = PriceKind × (TrackId × ArrId)

by_length : (k : PriceKind) → is_by_length k ≡ true → k ≡ kind.Length
by_length kind.Length e = refl
by_length (kind.Parts r) e = absurd (false≢true e)

-- what is true of the price that is raised
record IsOf (t j : ℕ) (price : Price) : Type 0 where
  kind : price.kind ≡ kind.Length
  track : price.track.0 ≡ t
  train : price.train.0 ≡ j

found : (t j : ℕ) (price : Price) → is_length_price t j price ≡ true → IsOf t j price
found t j price e =
    let first = and_parts (is_by_length price.kind && price.track.0 == t) (price.train.0 == j) e in
    let second = and_parts (is_by_length price.kind) (price.track.0 == t) first.0 in
    record { kind = by_length price.kind second.0; track = eqb-true price.track.0 t second.1; train = eqb-true price.train.0 j first.1 }

abbrev made : PriceKind → ℕ → ℕ → Price
made k t j = record { kind = k; track = record { 0 = t }; train = record { 0 = j }; value = 1 }

module _ (night : Night) (t j : ℕ) where
  same_count : (price : Price) (s : Shape) (park : Option Park) → IsOf t j price → counted_with night price s park ≡ counted_with night (length_price t j) s park
  same_count price s park is =
      ap (λ k. counted_with night (made k price.track.0 price.train.0) s park) is.kind
      ∙ ap (λ n. counted_with night (made kind.Length n price.train.0) s park) is.track
      ∙ ap (λ n. counted_with night (made kind.Length t n) s park) is.train

  same_most : (price : Price) → IsOf t j price → most night price ≡ track_length night t
  same_most price is = ap (λ k. most night (made k price.track.0 price.train.0)) is.kind ∙ ap (λ n. most night (made kind.Length n price.train.0)) is.track

  one_more : (v n : ℕ) → (v + 1) * n ≡ v * n + n
  one_more v n = omega (arith, add-mul v 1 n, one-mul n)

  -- sums over prices of their values times what each has
  module _ (has : Price → ℕ) (own : ℕ) (same : (price : Price) → IsOf t j price → has price ≡ own) (alike : (price : Price) (v : ℕ)
      → has (record price { value = v }) ≡ has price) where
    abbrev each : Price → ℕ
    each price = price.value * has price

    rises : (prices : List Price) → sum_by each (raised t j prices) ≡ sum_by each prices + own
    rises [] = omega (arith, sum_by-cons each (length_price t j) [], one-mul (has (length_price t j)), same (length_price t j) (record { kind = refl; track = refl; train = refl }))
    rises (price ∷ prices) = ⊎_elim
        (λ e. ap (sum_by each) (ap (λ b. cond b (record price { value = price.value + 1 } ∷ prices) (price ∷ raised t j prices)) e) ∙ first (found t j price e))
        (λ e. ap (sum_by each) (ap (λ b. cond b (record price { value = price.value + 1 } ∷ prices) (price ∷ raised t j prices)) e) ∙ other (rises prices))
        (cases_Bool (is_length_price t j price))
      where
        first : IsOf t j price → sum_by each (record price { value = price.value + 1 } ∷ prices) ≡ sum_by each (price ∷ prices) + own
        first is = omega (
          arith,
          sum_by-cons each (record price { value = price.value + 1 }) prices,
          sum_by-cons each price prices,
          ap (λ n. (price.value + 1) * n) (alike price (price.value + 1)),
          one_more price.value (has price),
          same price is,
        )

        other : sum_by each (raised t j prices) ≡ sum_by each prices + own → sum_by each (price ∷ raised t j prices) ≡ sum_by each (price ∷ prices) + own
        other rest = omega (arith, sum_by-cons each price (raised t j prices), sum_by-cons each price prices, rest)

  pub part_rises : (prices : List Price) (s : Shape) (park : Option Park) → price_part_with night (raised t j prices) s park
      ≡ price_part_with night prices s park + counted_with night (length_price t j) s park
  part_rises prices s park = rises (λ price. counted_with night price s park) (counted_with night (length_price t j) s park) (λ price is. same_count price s park is)
      (λ price v. refl) prices

  pub paid_rises : (prices : List Price) → paid_at_most night (raised t j prices) ≡ paid_at_most night prices + track_length night t
  paid_rises prices = rises (most night) (track_length night t) same_most (λ price v. refl) prices

  -- duals still hold
  pub still_hold : (path : List Block) (d : Duals) → DualsHold night path d → DualsHold night path (record d { prices = raised t j d.prices })
  still_hold path d all = all_one (HoldsInCase night (masks_of night path)) _ (record {
    holds = λ s park free room.
        let h = (all 0 (case_at (plain d) 0) (omega arith)).holds s park free room in omega (arith, ints, h, part_rises d.prices s park);
  })

-- ---- no two alike

abbrev Differ : PlaceOfPrice → PlaceOfPrice → Type 0
Differ x y = x ≢ y

-- a raised list has the same places, and at most that one more
raised_places : (t j : ℕ) (prices : List Price) (P : PlaceOfPrice → Type 0) → All P (map place_of_price prices) → P (place_of_price (length_price t j))
    → All P (map place_of_price (raised t j prices))
raised_places t j [] P all own = all_one P (place_of_price (length_price t j)) own
raised_places t j (price ∷ prices) P all own = ⊎_elim
    (λ e. subst (λ (b : Bool). All P (map place_of_price (cond b (record price { value = price.value + 1 } ∷ prices) (price ∷ raised t j prices)))) (sym e) all)
    (λ e. subst (λ (b : Bool). All P (map place_of_price (cond b (record price { value = price.value + 1 } ∷ prices) (price ∷ raised t j prices)))) (sym e)
    (All-cons P (place_of_price price) (map place_of_price (raised t j prices)) (all 0 (place_of_price price) (omega arith))
    (raised_places t j prices P (All-tail P (place_of_price price) (map place_of_price prices) all) own)))
    (cases_Bool (is_length_price t j price))

own_place : (t j : ℕ) (price : Price) → place_of_price price ≡ place_of_price (length_price t j) → is_length_price t j price ≡ true
own_place t j price e = all_three (ap is_by_length (ap (λ (x : PlaceOfPrice). x.0) e)) (eq-eqb price.track.0 t (ap (λ (x : PlaceOfPrice). x.1.0.0) e))
    (eq-eqb price.train.0 j (ap (λ (x : PlaceOfPrice). x.1.1.0) e))
  where
    all_three : {x y z : Bool} → x ≡ true → y ≡ true → z ≡ true → (x && y && z) ≡ true
    all_three {x} {y} {z} e f g = cc

pub still_apart : (t j : ℕ) (prices : List Price) → AreApart prices → AreApart (raised t j prices)
still_apart t j [] apart = no_two (place_of_price (length_price t j))
  where
    no_two : (x : PlaceOfPrice) → AreDistinct (x ∷ [])
    no_two x i k d before within = absurd (omega (arith, before, within))
still_apart t j (price ∷ prices) apart = ⊎_elim
    (λ e. subst (λ (b : Bool). AreApart (cond b (record price { value = price.value + 1 } ∷ prices) (price ∷ raised t j prices))) (sym e) apart)
    (λ e. subst (λ (b : Bool). AreApart (cond b (record price { value = price.value + 1 } ∷ prices) (price ∷ raised t j prices))) (sym e)
    (AllPairs-cons Differ (place_of_price price) (map place_of_price (raised t j prices))
    (raised_places t j prices (Differ (place_of_price price)) (λ k d lt. apart 0 (suc k) d (omega arith) (omega (arith, lt)))
    (λ same. false≢true (sym e ∙ own_place t j price same)))
    (still_apart t j prices (λ i k d before within. apart (suc i) (suc k) d (omega (arith, before)) (omega (arith, within))))))
    (cases_Bool (is_length_price t j price))

-- ---- price steps

module _ (night : Night) (path : List Block) where
  set_in : (zs : List ℤ) (u : ℕ) (z : ℤ) → All IsValue zs → IsValue z → All IsValue (set zs u z)
  set_in zs u z all v k d lt = ⊎_elim
      (λ e. subst (λ (n : ℕ). IsValue (get_or (set zs u z) n d)) (sym e) (subst IsValue (sym (get_or-set_same zs u z d (omega (arith, e, lt, length-set zs u z)))) v))
      (λ ne. subst IsValue (sym (get_or-set_other zs u k z d ne)) (all k d (omega (arith, lt, length-set zs u z))))
      (cases_eq k u)

  -- duals of the night that hold
  record IsStage (d : Duals) : Type 0 where
    are : AreDuals night d
    hold : DualsHold night path d

  refit : (u : ℕ) (old new : Duals) → IsStage old → IsRefit night path u old new → IsStage new
  refit u old new is r = ⊎_elim (λ e. subst IsStage (sym (r.covered e)) is) (λ e. let x = r.refit e in subst IsStage (sym x.2) (with_greatest x.0 x.1))
      (cases_Bool (get_or (masks_of night path).units u true))
    where
      with_greatest : (z : ℤ) → IsGreatest night path old u z → IsStage (with_alpha u z old)
      with_greatest z g = record {
        are = record {
          alphas = length-set old.alpha u z ∙ is.are.alphas;
          betas = is.are.betas;
          alphas_in = set_in old.alpha u z is.are.alphas_in g.value;
          betas_in =
              is.are.betas_in;
          prices = is.are.prices;
        };
        hold = g.holds;
      }

  all_refit : (n : ℕ) (old new : Duals) → IsStage old → AreRefitted night path n old new → IsStage new
  all_refit zero old new is e = subst IsStage (sym e) is
  all_refit (suc n) old new is r = refit n r.0 new (all_refit n old r.0 is r.1) r.2

  pub step_holds : (old new : Duals) → AreDuals night old → IsPriceStep night path old new → AreDuals night new × DualsHold night path new
  step_holds old new are step =
      let end = all_refit (unit_total night) (record old { prices = raised step.track step.train old.prices }) new (record {
        are = record { alphas = are.alphas; betas = are.betas; alphas_in = are.alphas_in; betas_in = are.betas_in; prices = step.within };
        hold = still_hold night step.track step.train path old step.held;
      }) step.refitted in
      (end.are, end.hold)
