-- What duals without prices add up to where nothing is covered yet.
use Rattle.std.specs.Prelude.{if◌then◌else◌, map, slice_index_or}
use Rattle.std.specs.List.{range_with_len}
use Rattle.std.proofs.Common.{◌≡◌, ℕ, zero, suc, ◌<◌, Bool, true, false, ℤ, pos, ◌+ℤ◌, List, [], ◌∷◌, length, refl, sym, ◌∙◌, subst, arith}
use Rattle.std.proofs.lemmas.Int.{ints}
use Rattle.std.proofs.lemmas.Bool.{true≢false}
use Rattle.std.proofs.lemmas.List.FromFn.{get_or-map-range_with_len}
use Rattle.shunt_base.specs.declared.duals.Price.{Price}
use Rattle.shunt_base.specs.declared.duals.Duals.{Duals}
use Rattle.shunt_instance.specs.defs.Instance.{Night, unit_total, position_total}
use Rattle.shunt_choices.specs.defs.Paths.{masks_of}
use Rattle.shunt_prices.specs.defs.Sums.{sum_z, sum_z_below}
use Rattle.shunt_prices.specs.defs.Prices.{paid_at_most}
use Rattle.shunt_prices.specs.defs.Limits.{AreDuals}
use Rattle.shunt_prices.specs.defs.Cases.{alpha_at, beta_at}
use Rattle.shunt_prices.specs.defs.Bounds.{uncovered_alphas, uncovered_betas, duals_sum}
use Rattle.shunt_dual.specs.defs.Tables.{at_z}
use Rattle.shunt_prices.proofs.Signed.{sum_z_below-same as same_below}

first_apart : (n : ℕ) (f : ℕ → ℤ) → sum_z_below (suc n) f ≡ f 0 +ℤ sum_z_below n (λ i. f (suc i))
first_apart zero f = omega (arith, ints)
first_apart (suc n) f = omega (arith, ints, first_apart n f)

whole : (n : ℕ) (zs : List ℤ) → length zs ≡ n → sum_z_below n (at_z zs) ≡ sum_z (λ z. z) zs
whole zero [] e = refl
whole zero (z ∷ zs) e = absurd (omega arith)
whole (suc n) [] e = absurd (omega arith)
whole (suc n) (z ∷ zs) e = omega (arith, ints, first_apart n (at_z (z ∷ zs)), whole n zs (omega arith))

bare_value : (b : Bool) (z : ℤ) → b ≡ false → (if b then pos 0 else z) ≡ z
bare_value true z e = absurd (true≢false e)
bare_value false z e = refl

nothing_taken : (n u : ℕ) → u < n → slice_index_or (map (λ i. false) (range_with_len 0 n)) u true ≡ false
nothing_taken n u lt = get_or-map-range_with_len (λ i. false) 0 n u u true lt (omega arith)

no_price : (night : Night) (prices : List Price) → prices ≡ [] → paid_at_most night prices ≡ 0
no_price night prices e = subst (λ (ps : List Price). paid_at_most night ps ≡ 0) (sym e) refl

pub starts : (night : Night) (d : Duals) → AreDuals night d → d.prices ≡ [] → duals_sum night [] d ≡ sum_z (λ z. z) d.alpha +ℤ sum_z (λ z. z) d.beta
starts night d h none =
    let alphas : uncovered_alphas night (masks_of night []) d ≡ sum_z (λ z. z) d.alpha =
    same_below (unit_total night) _ (alpha_at d) (λ u lt. bare_value _ (alpha_at d u) (nothing_taken (unit_total night) u lt)) ∙ whole (unit_total night) d.alpha h.alphas in
    let betas : uncovered_betas night (masks_of night []) d ≡ sum_z (λ z. z) d.beta =
    same_below (position_total night) _ (beta_at d) (λ v lt. bare_value _ (beta_at d v) (nothing_taken (position_total night) v lt))
    ∙ whole (position_total night) d.beta h.betas in
    omega (arith, ints, alphas, betas, no_price night d.prices none)
