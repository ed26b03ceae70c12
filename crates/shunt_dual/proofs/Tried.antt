-- Duals whose price for a track and a train has risen by a number, as code makes them list by list.
use Rattle.std.specs.Prelude.{sum_by, ◌-ℤ◌}
use Rattle.std.proofs.Common.{◌≡◌, ℕ, zero, suc, ◌*◌, ◌≤◌, List, [], ◌∷◌, ℤ, pos, ◌+ℤ◌, refl, sym, subst, arith}
use Rattle.std.proofs.lemmas.Int.{ints}
use Rattle.shunt_base.specs.declared.duals.Price.{Price}
use Rattle.shunt_base.specs.declared.duals.Duals.{Duals}
use Rattle.shunt_instance.specs.defs.Instance.{Night}
use Rattle.shunt_blocks.specs.declared.records.Block.{Block}
use Rattle.shunt_prices.specs.defs.Sums.{IsWithin}
use Rattle.shunt_prices.specs.defs.Prices.{track_length, price_part}
use Rattle.shunt_prices.specs.defs.Limits.{ArePrices, AreApart}
use Rattle.shunt_prices.specs.defs.Cases.{DualsHold}
use Rattle.shunt_dual.specs.defs.Raises.{price_at, raised_by, AreHeld, AreGood, AreRefit, IsRaise}
use Rattle.shunt_dual.proofs.Raised.{StillHold, StillApart, SumRises, hold_after, apart_after, sum_after_rise, parts_raised}

pub charges_seen : (night : Night) (by t j : ℕ) (price : Price) (bs path : List Block) (n : ℕ) → price ≡ price_at by t j → bs ≡ path → n ≡ sum_by (price_part night (price ∷ [])) bs
    → n ≡ sum_by (price_part night (price_at by t j ∷ [])) path
charges_seen night by t j price bs path n ep eb e =
    subst (λ (p : Price). n ≡ sum_by (price_part night (p ∷ [])) path) ep (subst (λ (xs : List Block). n ≡ sum_by (price_part night (price ∷ [])) xs) eb e)

module _ (night : Night) (path : List Block) (by t j : ℕ) (old : Duals) where
  abbrev risen : Duals
  risen = record { alpha = old.alpha; beta = old.beta; prices = raised_by by t j old.prices }

  held_by : (m : ℕ) → 1 ≤ m → StillHold → DualsHold night path old → DualsHold night path (record old { prices = raised_by m t j old.prices })
  held_by zero some still h = absurd (omega (arith, some))
  held_by (suc m) some still h = hold_after night path t j old still m h

  apart_by : (m : ℕ) → 1 ≤ m → StillApart → AreApart old.prices → AreApart (raised_by m t j old.prices)
  apart_by zero some still h = absurd (omega (arith, some))
  apart_by (suc m) some still h = apart_after night path t j old still m h

  stage : StillHold → 1 ≤ by → AreGood night path old → ArePrices night (raised_by by t j old.prices) → AreHeld night path risen
  stage still some good are = record {
    are = record { alphas = good.are.alphas; betas = good.are.betas; alphas_in = good.are.alphas_in; betas_in = good.are.betas_in; prices = are };
    hold = held_by by some still good.hold;
  }

  pub stage_seen : StillHold → 1 ≤ by → AreGood night path old → ArePrices night (raised_by by t j old.prices) → (alpha beta : List ℤ) (prices : List Price)
      → alpha ≡ old.alpha → beta ≡ old.beta → prices ≡ raised_by by t j old.prices → AreHeld night path (record { alpha = alpha; beta = beta; prices = prices })
  stage_seen still some good are alpha beta prices ea eb ep =
      subst (λ (zs : List ℤ). AreHeld night path (record { alpha = zs; beta = beta; prices = prices })) (sym ea)
      (subst (λ (bs : List ℤ). AreHeld night path (record { alpha = old.alpha; beta = bs; prices = prices })) (sym eb)
      (subst (λ (ps : List Price). AreHeld night path (record { alpha = old.alpha; beta = old.beta; prices = ps })) (sym ep) (stage still some good are)))

  raise : SumRises → StillApart → 1 ≤ by → AreGood night path old → (new : List ℤ) (up gain : ℤ) (charged paid : ℕ)
      → AreRefit night path risen (record { alpha = new; beta = old.beta; prices = raised_by by t j old.prices }) up
      → charged ≡ sum_by (price_part night (price_at by t j ∷ [])) path → paid ≡ by * track_length night t → gain ≡ up +ℤ pos charged -ℤ pos paid
      → IsWithin 4000000000000000000 gain
      → IsRaise night path by t j old (record { alpha = new; beta = old.beta; prices = raised_by by t j old.prices }) gain
  raise sum still some good new up gain charged paid r ec ep eg small = record {
    good = record { are = r.held.are; hold = r.held.hold; apart = apart_by by some still good.apart };
    kept = record { beta = refl; parts = parts_raised t j by old.prices };
    refitted = r.refitted;
    sum = let s = r.sum in omega (arith, ints, s, sum_after_rise night path t j old sum by some, ec, ep, eg);
    small = small;
  }

  pub raise_seen : SumRises → StillApart → 1 ≤ by → AreGood night path old → (alpha beta beta_out new : List ℤ) (prices prices_out : List Price) (up gain : ℤ) (charged paid : ℕ)
      → alpha ≡ old.alpha → beta ≡ old.beta → prices ≡ raised_by by t j old.prices → beta_out ≡ old.beta → prices_out ≡ raised_by by t j old.prices
      → AreRefit night path (record { alpha = alpha; beta = beta; prices = prices }) (record { alpha = new; beta = beta; prices = prices }) up
      → charged ≡ sum_by (price_part night (price_at by t j ∷ [])) path → paid ≡ by * track_length night t → gain ≡ up +ℤ pos charged -ℤ pos paid
      → IsWithin 4000000000000000000 gain
      → IsRaise night path by t j old (record { alpha = new; beta = beta_out; prices = prices_out }) gain
  raise_seen sum still some good alpha beta beta_out new prices prices_out up gain charged paid ea eb ep fb fp r ec ed eg small =
      let one : AreRefit night path (record { alpha = old.alpha; beta = beta; prices = prices }) (record { alpha = new; beta = beta; prices = prices }) up =
      subst (λ (zs : List ℤ). AreRefit night path (record { alpha = zs; beta = beta; prices = prices }) (record { alpha = new; beta = beta; prices = prices }) up) ea r in
      let two : AreRefit night path (record { alpha = old.alpha; beta = old.beta; prices = prices }) (record { alpha = new; beta = old.beta; prices = prices }) up =
      subst (λ (bs : List ℤ). AreRefit night path (record { alpha = old.alpha; beta = bs; prices = prices }) (record { alpha = new; beta = bs; prices = prices }) up) eb one in
      let three : AreRefit night path risen (record { alpha = new; beta = old.beta; prices = raised_by by t j old.prices }) up =
      subst (λ (ps : List Price). AreRefit night path (record { alpha = old.alpha; beta = old.beta; prices = ps }) (record { alpha = new; beta = old.beta; prices = ps }) up)
      ep two in
      subst (λ (bs : List ℤ). IsRaise night path by t j old (record { alpha = new; beta = bs; prices = prices_out }) gain) (sym fb)
      (subst (λ (ps : List Price). IsRaise night path by t j old (record { alpha = new; beta = old.beta; prices = ps }) gain) (sym fp)
      (raise sum still some good new up gain charged paid three ec ed eg small))
