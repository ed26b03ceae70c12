-- Prices of which one of kind length rises by a number, and duals with them.
use Rattle.std.specs.Prelude.{◌==◌, ◌&&◌, All, cond, sum_by, ◌-ℤ◌}
use Rattle.std.proofs.Common.{◌≡◌, ⊎_elim, ℕ, zero, suc, ◌+◌, ◌*◌, ◌<◌, ◌≤◌, Bool, true, false, List, [], ◌∷◌, length, pos, ◌+ℤ◌, refl, sym, subst, ap, ◌∙◌, arith, add-one}
use Rattle.std.proofs.Math.Nat.{add-mul, one-mul, mul-add, mul-zero}
use Rattle.std.proofs.lemmas.Int.{ints}
use Rattle.std.proofs.lemmas.Bool.{cases_Bool, and_parts, eq-eqb}
use Rattle.std.proofs.lemmas.List.Sums.{sum_by-cons}
use Rattle.std.proofs.lemmas.List.Elements.{All-cons, All-tail}
use Rattle.shunt_lists.proofs.Lists.{all_one}
use Rattle.shunt_base.specs.declared.duals.Price.{Price}
use Rattle.shunt_base.specs.declared.duals.Duals.{Duals}
use Rattle.shunt_instance.specs.defs.Instance.{Night}
use Rattle.shunt_blocks.specs.declared.records.Block.{Block}
use Rattle.shunt_prices.specs.defs.Prices.{track_length, counted, price_part}
use Rattle.shunt_prices.specs.defs.Limits.{IsKind, ArePrices, AreApart}
use Rattle.shunt_prices.specs.defs.Cases.{DualsHold}
use Rattle.shunt_prices.specs.defs.Bounds.{duals_sum}
use Rattle.shunt_prices.specs.defs.Steps.{is_by_length, is_length_price, length_price, raised}
use Rattle.shunt_dual.specs.defs.Raises.{price_at, lifted, raised_by, parts_of}

module _ (t j : ℕ) where
  pub raised_one : (prices : List Price) → raised_by 1 t j prices ≡ raised t j prices
  raised_one [] = refl
  raised_one (p ∷ ps) = ap (λ (rest : List Price). cond (is_length_price t j p) (lifted 1 p ∷ ps) (p ∷ rest)) (raised_one ps)

  own : (m : ℕ) → is_length_price t j (price_at m t j) ≡ true
  own m = both (eq-eqb t t refl) (eq-eqb j j refl)
    where
      both : {x y : Bool} → x ≡ true → y ≡ true → (true && x && y) ≡ true
      both {x} {y} e f = cc

  pub raised_more : (m : ℕ) (prices : List Price) → raised_by (m + 1) t j prices ≡ raised t j (raised_by m t j prices)
  raised_more m [] = sym (ap (λ (b : Bool). cond b (price_at (m + 1) t j ∷ []) (price_at m t j ∷ raised t j [])) (own m))
  raised_more m (p ∷ ps) = ⊎_elim
      (λ e. ap (λ (b : Bool). cond b (lifted (m + 1) p ∷ ps) (p ∷ raised_by (m + 1) t j ps)) e
      ∙ ap (λ (n : ℕ). record p { value = n } ∷ ps) (let s : p.value + (m + 1) ≡ p.value + m + 1 = omega arith in s)
      ∙ sym (ap (λ (b : Bool). cond b (record p { value = p.value + m + 1 } ∷ ps) (lifted m p ∷ raised t j ps)) e)
      ∙ sym (ap (λ (b : Bool). raised t j (cond b (lifted m p ∷ ps) (p ∷ raised_by m t j ps))) e))
      (λ e. ap (λ (b : Bool). cond b (lifted (m + 1) p ∷ ps) (p ∷ raised_by (m + 1) t j ps)) e
      ∙ ap (λ (rest : List Price). p ∷ rest) (raised_more m ps)
      ∙ sym (ap (λ (b : Bool). cond b (record p { value = p.value + 1 } ∷ raised_by m t j ps) (p ∷ raised t j (raised_by m t j ps))) e)
      ∙ sym (ap (λ (b : Bool). raised t j (cond b (lifted m p ∷ ps) (p ∷ raised_by m t j ps))) e))
      (cases_Bool (is_length_price t j p))

  pub raised_next : (m : ℕ) (prices : List Price) → raised_by (suc m) t j prices ≡ raised t j (raised_by m t j prices)
  raised_next m prices = ap (λ (n : ℕ). raised_by n t j prices) (sym (add-one m)) ∙ raised_more m prices

  pub parts_raised : (m : ℕ) (prices : List Price) → parts_of (raised_by m t j prices) ≡ parts_of prices
  parts_raised m [] = refl
  parts_raised m (p ∷ ps) = ⊎_elim
      (λ (e : is_length_price t j p ≡ true).
      let first = and_parts (is_by_length p.kind && p.track.0 == t) (p.train.0 == j) e in
      let length = (and_parts (is_by_length p.kind) (p.track.0 == t) first.0).0 in
      ap (λ (b : Bool). parts_of (cond b (lifted m p ∷ ps) (p ∷ raised_by m t j ps))) e
      ∙ ap (λ (b : Bool). cond b (parts_of ps) (lifted m p ∷ parts_of ps)) length
      ∙ sym (ap (λ (b : Bool). cond b (parts_of ps) (p ∷ parts_of ps)) length))
      (λ (e : is_length_price t j p ≡ false).
      ap (λ (b : Bool). parts_of (cond b (lifted m p ∷ ps) (p ∷ raised_by m t j ps))) e
      ∙ ap (λ (rest : List Price). cond (is_by_length p.kind) rest (p ∷ rest)) (parts_raised m ps))
      (cases_Bool (is_length_price t j p))

-- what is still to be done of these prices
abbrev pub rest_of : Bool → ℕ → ℕ → ℕ → List Price → List Price
rest_of true by t j prices = prices
rest_of false by t j prices = raised_by by t j prices

-- ---- limits

-- kind, track and train are the night's
record IsPlaced (night : Night) (price : Price) : Type 0 where
  kind : IsKind price.kind
  track : price.track.0 < length night.station.tracks
  train : price.train.0 < length night.arrive

abbrev pub HasValue : Price → Type 0
HasValue price = price.value ≤ 1000000000

module _ (night : Night) (by t j : ℕ) where
  placed : (prices : List Price) → All (IsPlaced night) prices → IsPlaced night (price_at by t j) → All (IsPlaced night) (raised_by by t j prices)
  placed [] all own = all_one (IsPlaced night) (price_at by t j) own
  placed (p ∷ ps) all own =
      let first : IsPlaced night p = all 0 p (omega arith) in
      let rest : All (IsPlaced night) ps = All-tail (IsPlaced night) p ps all in
      ⊎_elim
      (λ e. subst (λ (b : Bool). All (IsPlaced night) (cond b (lifted by p ∷ ps) (p ∷ raised_by by t j ps))) (sym e)
      (All-cons (IsPlaced night) (lifted by p) ps (record { kind = first.kind; track = first.track; train = first.train }) rest))
      (λ e. subst (λ (b : Bool). All (IsPlaced night) (cond b (lifted by p ∷ ps) (p ∷ raised_by by t j ps))) (sym e)
      (All-cons (IsPlaced night) p (raised_by by t j ps) first (placed ps rest own)))
      (cases_Bool (is_length_price t j p))

  pub are_prices : (prices : List Price) → ArePrices night prices → t < length night.station.tracks → j < length night.arrive
      → length (raised_by by t j prices) ≤ 64 → All HasValue (raised_by by t j prices) → ArePrices night (raised_by by t j prices)
  are_prices prices are tt_ jt few values = record {
    few = few;
    each = λ k d lt.
        let p = placed prices (λ i e l. let h = are.each i e l in record { kind = h.kind; track = h.track; train = h.train })
        (record { kind = tt; track = tt_; train = jt }) k d lt in
        record { kind = p.kind; track = p.track; train = p.train; value = values k d lt };
  }

-- ---- duals that still hold, prices of which no two agree, and sums

-- what is known of one unit more
abbrev pub StillHold : Type 0
StillHold = (night : Night) (path : List Block) (track train : ℕ) (d : Duals) → DualsHold night path d → DualsHold night path (record d { prices = raised track train d.prices })

abbrev pub StillApart : Type 0
StillApart = (track train : ℕ) (prices : List Price) → AreApart prices → AreApart (raised track train prices)

abbrev pub SumRises : Type 0
SumRises = (night : Night) (path : List Block) (track train : ℕ) (d : Duals) → duals_sum night path (record d { prices = raised track train d.prices })
    ≡ duals_sum night path d +ℤ pos (sum_by (counted night (length_price track train)) path) -ℤ pos (track_length night track)

module _ (night : Night) (path : List Block) (t j : ℕ) (d : Duals) where
  abbrev risen_duals : ℕ → Duals
  risen_duals m = record d { prices = raised_by m t j d.prices }

  pub hold_after : StillHold → (m : ℕ) → DualsHold night path d → DualsHold night path (risen_duals (suc m))
  hold_after still zero h = subst (λ (ps : List Price). DualsHold night path (record d { prices = ps })) (sym (raised_one t j d.prices)) (still night path t j d h)
  hold_after still (suc m) h = subst (λ (ps : List Price). DualsHold night path (record d { prices = ps })) (sym (raised_next t j (suc m) d.prices))
      (still night path t j (risen_duals (suc m)) (hold_after still m h))

  pub apart_after : StillApart → (m : ℕ) → AreApart d.prices → AreApart (raised_by (suc m) t j d.prices)
  apart_after still zero h = subst AreApart (sym (raised_one t j d.prices)) (still t j d.prices h)
  apart_after still (suc m) h = subst AreApart (sym (raised_next t j (suc m) d.prices)) (still t j (raised_by (suc m) t j d.prices) (apart_after still m h))

  abbrev counts : ℕ
  counts = sum_by (counted night (length_price t j)) path

  one_time_more : (k x : ℕ) → suc k * x ≡ k * x + x
  one_time_more k x = ap (λ (n : ℕ). n * x) (sym (add-one k)) ∙ add-mul k 1 x ∙ ap (λ (y : ℕ). k * x + y) (one-mul x)

  sum_rises : SumRises → (m : ℕ) → duals_sum night path (risen_duals (suc m)) ≡ duals_sum night path d +ℤ pos (suc m * counts) -ℤ pos (suc m * track_length night t)
  sum_rises sum zero =
      let e : duals_sum night path (risen_duals 1) ≡ duals_sum night path (record d { prices = raised t j d.prices }) = ap
      (λ (ps : List Price). duals_sum night path (record d { prices = ps })) (raised_one t j d.prices) in
      omega (arith, ints, e, sum night path t j d, one-mul counts, one-mul (track_length night t))
  sum_rises sum (suc m) =
      let e : duals_sum night path (risen_duals (suc (suc m))) ≡ duals_sum night path (record d { prices = raised t j (raised_by (suc m) t j d.prices) }) = ap
      (λ (ps : List Price). duals_sum night path (record d { prices = ps })) (raised_next t j (suc m) d.prices) in
      omega (arith, ints, e, sum night path t j (risen_duals (suc m)), sum_rises sum m, one_time_more (suc m) counts, one_time_more (suc m) (track_length night t))

  -- what a price of such a value takes of blocks
  one_charge : (m : ℕ) (b : Block) → price_part night (price_at m t j ∷ []) b ≡ m * counted night (length_price t j) b
  one_charge m b = omega (arith, sum_by-cons (λ (q : Price). q.value * counted night q b) (price_at m t j) [])

  all_charges : (m : ℕ) (bs : List Block) → sum_by (price_part night (price_at m t j ∷ [])) bs ≡ m * sum_by (counted night (length_price t j)) bs
  all_charges m [] = sym (mul-zero m)
  all_charges m (b ∷ bs) = omega (
    arith,
    sum_by-cons (price_part night (price_at m t j ∷ [])) b bs,
    ap (λ (x : ℕ). m * x) (sum_by-cons (counted night (length_price t j)) b bs),
    one_charge m b,
    all_charges m bs,
    mul-add m (counted night (length_price t j) b) (sum_by (counted night (length_price t j)) bs),
  )

  pub sum_after_rise : SumRises → (m : ℕ) → 1 ≤ m → duals_sum night path (risen_duals m)
      ≡ duals_sum night path d +ℤ pos (sum_by (price_part night (price_at m t j ∷ [])) path) -ℤ pos (m * track_length night t)
  sum_after_rise sum zero le = absurd (omega arith)
  sum_after_rise sum (suc m) le = omega (arith, ints, sum_rises sum m, all_charges (suc m) path)
