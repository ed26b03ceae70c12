-- What a raised price and another value of a unit do to the sum of duals.
use Rattle.std.specs.Prelude.{◌==◌, cond, sum_by, ◌-ℤ◌}
use Rattle.std.proofs.Common.{◌≡◌, ⊎_elim, ℕ, ◌+◌, ◌<◌, Bool, true, false, List, length, get_or, set, ℤ, pos, ◌+ℤ◌, refl, ap, ◌∙◌, arith}
use Rattle.std.proofs.lemmas.Int.{ints}
use Rattle.std.proofs.lemmas.Bool.{cases_eq, eq-eqb, ne_eqb}
use Rattle.std.proofs.lemmas.List.{get_or-set_same, get_or-set_other}
use Rattle.shunt_base.specs.declared.duals.Duals.{Duals}
use Rattle.shunt_instance.specs.defs.Instance.{Night, unit_total}
use Rattle.shunt_blocks.specs.declared.records.Block.{Block}
use Rattle.shunt_blocks.specs.defs.Shapes.{shape_of}
use Rattle.shunt_choices.specs.defs.Paths.{masks_of}
use Rattle.shunt_prices.specs.defs.Sums.{sum_z_below}
use Rattle.shunt_prices.specs.defs.Prices.{track_length, counted, price_part}
use Rattle.shunt_prices.specs.defs.Limits.{case_at, plain}
use Rattle.shunt_prices.specs.defs.Cases.{alpha_at}
use Rattle.shunt_prices.specs.defs.Bounds.{duals_sum}
use Rattle.shunt_prices.specs.defs.Steps.{length_price, raised, with_alpha}
use Rattle.shunt_prices.proofs.Signed.{sum_z_below-same, sum_z_below-add, sum_z_below-one}
use Rattle.shunt_prices.proofs.Whole.{weights_are, sum_by-add}
use Rattle.shunt_prices.proofs.Raised.{part_rises, paid_rises}
use Rattle.shunt_lists.proofs.Sums.{sum_by-same}

pub raised_sum : (night : Night) (path : List Block) (t j : ℕ) (d : Duals) → duals_sum night path (record d { prices = raised t j d.prices })
    ≡ duals_sum night path d +ℤ pos (sum_by (counted night (length_price t j)) path) -ℤ pos (track_length night t)
raised_sum night path t j d =
    let parts : sum_by (price_part night (raised t j d.prices)) path ≡ sum_by (price_part night d.prices) path + sum_by (counted night (length_price t j)) path =
    sum_by-same (price_part night (raised t j d.prices)) (λ b. price_part night d.prices b + counted night (length_price t j) b) path
    (λ b. part_rises night t j d.prices (shape_of b) b.park)
    ∙ sum_by-add (price_part night d.prices) (counted night (length_price t j)) path in
    omega (
      arith,
      ints,
      weights_are night (case_at (plain d) 0) path,
      weights_are night (case_at (plain (record d { prices = raised t j d.prices })) 0) path,
      parts,
      paid_rises night t j d.prices,
    )

-- one value of a list that isn't left out
other_value : (n : ℕ) (covered : ℕ → Bool) (zs : List ℤ) (u : ℕ) (z : ℤ) → u < n → u < length zs → covered u ≡ false
    → sum_z_below n (λ i. cond (covered i) (pos 0) (get_or (set zs u z) i (pos 0)))
    ≡ sum_z_below n (λ i. cond (covered i) (pos 0) (get_or zs i (pos 0))) +ℤ (z -ℤ get_or zs u (pos 0))
other_value n covered zs u z lt there free =
    sum_z_below-same n _ _ (λ i below. each i)
    ∙ sum_z_below-add n (λ i. cond (covered i) (pos 0) (get_or zs i (pos 0))) (λ i. cond (i == u) more (pos 0))
    ∙ ap (λ y. sum_z_below n (λ i. cond (covered i) (pos 0) (get_or zs i (pos 0))) +ℤ y) only
  where
    more : ℤ
    more = z -ℤ get_or zs u (pos 0)

    only : sum_z_below n (λ i. cond (i == u) more (pos 0)) ≡ more
    only = sum_z_below-one n (λ i. cond (i == u) more (pos 0)) u lt (λ k below ne. ap (λ t. cond t more (pos 0)) (ne_eqb k u ne)) ∙ ap (λ t. cond t more (pos 0)) (eq-eqb u u refl)

    each : (i : ℕ) → cond (covered i) (pos 0) (get_or (set zs u z) i (pos 0)) ≡ cond (covered i) (pos 0) (get_or zs i (pos 0)) +ℤ cond (i == u) more (pos 0)
    each i = ⊎_elim
        (λ e. let shown : covered i ≡ false = ap covered e ∙ free in
        omega (
          arith,
          ints,
          ap (λ t. cond t (pos 0) (get_or (set zs u z) i (pos 0))) shown ∙ ap (λ k. get_or (set zs u z) k (pos 0)) e ∙ get_or-set_same zs u z (pos 0) there,
          ap (λ t. cond t (pos 0) (get_or zs i (pos 0))) shown ∙ ap (λ k. get_or zs k (pos 0)) e,
          ap (λ t. cond t more (pos 0)) (eq-eqb i u e),
        ))
        (λ ne. omega (
          arith,
          ints,
          ap (cond (covered i) (pos 0)) (get_or-set_other zs u i z (pos 0) ne),
          ap (λ t. cond t more (pos 0)) (ne_eqb i u ne),
        ))
        (cases_eq i u)

pub other_alpha : (night : Night) (path : List Block) (d : Duals) (u : ℕ) (z : ℤ) → u < unit_total night → length d.alpha ≡ unit_total night
    → get_or (masks_of night path).units u true ≡ false
    → duals_sum night path (with_alpha u z d) ≡ duals_sum night path d +ℤ z -ℤ alpha_at d u
other_alpha night path d u z lt size free = omega (
  arith,
  ints,
  other_value (unit_total night) (λ i. get_or (masks_of night path).units i true) d.alpha u z lt
      (omega (arith, lt, size)) free,
)
