-- Price steps are raises by 1, and a sweep over tracks and trains finds each that has a higher sum.
use Rattle.std.specs.Prelude.{All, cond, ◌==◌, ◌&&◌, Bool, true, false, ◌≤ℤ◌, ◌<ℤ◌}
use Rattle.std.proofs.Common.{◌≡◌, inl, inr, ⊎_elim, ℕ, ◌+◌, ◌*◌, ◌/◌, ◌%◌, ◌<◌, ◌≤◌, List, [], ◌∷◌, length, ℤ, pos, refl, sym, ap, subst, ◌∙◌, arith}
use Rattle.std.proofs.lemmas.Int.{ints}
use Rattle.std.proofs.lemmas.Bool.{cases_lt, cases_Bool, and_parts, eqb-true}
use Rattle.std.proofs.lemmas.Nat.{mul-add-lt, div-mul-add, mod-mul-add}
use Rattle.std.proofs.lemmas.List.Elements.{All-tail}
use Rattle.shunt_base.specs.declared.duals.Price.{Price}
use Rattle.shunt_base.specs.declared.duals.Duals.{Duals}
use Rattle.shunt_instance.specs.defs.Instance.{Night, unit_total}
use Rattle.shunt_blocks.specs.declared.records.Block.{Block}
use Rattle.shunt_prices.specs.defs.Limits.{IsPrice, ArePrices}
use Rattle.shunt_prices.specs.defs.Bounds.{duals_sum}
use Rattle.shunt_prices.specs.defs.Steps.{is_by_length, length_price, raised, is_length_price, AreRefitted, IsPriceStep}
use Rattle.shunt_dual.specs.defs.Raises.{raised_by, parts_of, AreGood, IsRaise, NoneHigher, AreHigher, AreImproved, AreSwept}
use Rattle.shunt_dual.proofs.Raised.{raised_one}
use Rattle.shunt_dual.proofs.Refitted.{one_refitted}

module _ (night : Night) (path : List Block) (t j : ℕ) (old : Duals) where
  -- the prices of a step for them
  step_prices : (new : Duals) (step : IsPriceStep night path old new) → step.track ≡ t → step.train ≡ j → raised step.track step.train old.prices ≡ raised_by 1 t j old.prices
  step_prices new step et ej =
      ap (λ (w : ℕ). raised w step.train old.prices) et ∙ ap (λ (w : ℕ). raised t w old.prices) ej ∙ sym (raised_one t j old.prices)

  pub none_where : (ArePrices night (raised_by 1 t j old.prices) → ⊥) → NoneHigher night path t j old
  none_where never new step et ej = absurd (never (subst (ArePrices night) (step_prices new step et ej) step.within))

  pub not_higher : (new : Duals) (gain : ℤ) → IsRaise night path 1 t j old new gain → gain ≤ℤ pos 0 → NoneHigher night path t j old
  not_higher new gain is le other step et ej =
      let refitted : AreRefitted night path (unit_total night) (record old { prices = raised_by 1 t j old.prices }) other =
      subst (λ (ps : List Price). AreRefitted night path (unit_total night) (record old { prices = ps }) other) (step_prices other step et ej) step.refitted in
      let same : duals_sum night path other ≡ duals_sum night path new = ap (duals_sum night path) (one_refitted night path (unit_total night) _ other new refitted is.refitted) in
      omega (arith, ints, same, is.sum, le)

  pub unimproved : AreGood night path old → NoneHigher night path t j old → AreImproved night path t j old old
  unimproved good none = record { good = good; kept = record { beta = refl; parts = refl }; either = inl (refl, none) }

  pub higher_improves : (new : Duals) → AreHigher night path old new → AreImproved night path t j old new
  higher_improves new h = record { good = h.good; kept = h.kept; either = inr h.higher }

  pub raise_higher : (by : ℕ) (new : Duals) (gain : ℤ) → IsRaise night path by t j old new gain → pos 0 <ℤ gain → AreHigher night path old new
  raise_higher by new gain is lt = record { good = is.good; kept = is.kept; higher = omega (arith, ints, is.sum, lt) }

-- ---- the sweep

module _ (night : Night) (path : List Block) (given : Duals) where
  pub not_yet : (now : Duals) → AreGood night path given → now ≡ given → AreSwept night path given 0 now
  not_yet now good e = record {
    good = subst (AreGood night path) (sym e) good;
    kept = record {
      beta = ap (λ (d : Duals). d.beta) e;
      parts = ap
          (λ (d : Duals). parts_of d.prices) e;
    };
    either = inl (e, λ i lt. absurd (omega (arith, lt)));
  }

  abbrev arrivals : ℕ
  arrivals = length night.arrive

  pub one_pair : (k t j : ℕ) (now new : Duals) → t ≡ k / arrivals → j ≡ k % arrivals → AreSwept night path given k now → AreImproved night path t j now new
      → AreSwept night path given (k + 1) new
  one_pair k t j now new et ej h is = record {
    good = is.good;
    kept = record { beta = is.kept.beta ∙ h.kept.beta; parts = is.kept.parts ∙ h.kept.parts };
    either = ⊎_elim
        (λ (same : (now ≡ given) × ((i : ℕ) → i < k → NoneHigher night path (i / arrivals) (i % arrivals) given)).
        ⊎_elim
        (λ (still : (new ≡ now) × NoneHigher night path t j now). inl (still.0 ∙ same.0, all_so_far same.1 (subst (NoneHigher night path t j) same.0 still.1)))
        (λ (up : duals_sum night path now <ℤ duals_sum night path new). inr (subst (λ (d : Duals). duals_sum night path d <ℤ duals_sum night path new) same.0 up))
        is.either)
        (λ (higher : duals_sum night path given <ℤ duals_sum night path now).
        ⊎_elim
        (λ (still : (new ≡ now) × NoneHigher night path t j now). inr (subst (λ (d : Duals). duals_sum night path given <ℤ duals_sum night path d) (sym still.0) higher))
        (λ (up : duals_sum night path now <ℤ duals_sum night path new). inr (omega (arith, ints, higher, up)))
        is.either)
        h.either;
  }
    where
      all_so_far : ((i : ℕ) → i < k → NoneHigher night path (i / arrivals) (i % arrivals) given) → NoneHigher night path t j given → (i : ℕ) → i < k + 1
          → NoneHigher night path (i / arrivals) (i % arrivals) given
      all_so_far before here i lt = ⊎_elim
          (λ (early : i < k). before i early)
          (λ (late : k ≤ i).
          let e : k ≡ i = omega (arith, late, lt) in
          subst (λ (w : ℕ). NoneHigher night path (w / arrivals) (w % arrivals) given) e
          (subst (λ (w : ℕ). NoneHigher night path w (k % arrivals) given) et (subst (λ (w : ℕ). NoneHigher night path t w given) ej here)))
          (cases_lt i k)

  pub never_lower : (k : ℕ) (now : Duals) → AreSwept night path given k now → duals_sum night path given ≤ℤ duals_sum night path now
  never_lower k now h = ⊎_elim
      (λ (same : (now ≡ given) × ((i : ℕ) → i < k → NoneHigher night path (i / arrivals) (i % arrivals) given)).
      let e : duals_sum night path now ≡ duals_sum night path given = ap (duals_sum night path) same.0 in omega (arith, ints, e))
      (λ (higher : duals_sum night path given <ℤ duals_sum night path now). omega (arith, ints, higher))
      h.either

  -- the track and the train of a step are the night's
  step_pair : (t j : ℕ) (prices : List Price) → All (IsPrice night) (raised t j prices) → (t < length night.station.tracks) × (j < arrivals)
  step_pair t j [] all = let p = all 0 (length_price t j) (omega arith) in (p.track, p.train)
  step_pair t j (q ∷ qs) all = ⊎_elim
      (λ (e : is_length_price t j q ≡ true).
      let first = and_parts (is_by_length q.kind && q.track.0 == t) (q.train.0 == j) e in
      let second = and_parts (is_by_length q.kind) (q.track.0 == t) first.0 in
      let p = (subst (λ (b : Bool). All (IsPrice night) (cond b (record q { value = q.value + 1 } ∷ qs) (q ∷ raised t j qs))) e all) 0 q (omega arith) in
      let track : q.track.0 < length night.station.tracks = p.track in
      let train : q.train.0 < arrivals = p.train in
      (subst (λ (n : ℕ). n < length night.station.tracks) (eqb-true q.track.0 t second.1) track, subst (λ (n : ℕ). n < arrivals) (eqb-true q.train.0 j first.1) train))
      (λ (e : is_length_price t j q ≡ false).
      step_pair t j qs (All-tail (IsPrice night) q (raised t j qs) (subst (λ (b : Bool). All (IsPrice night) (cond b (record q { value = q.value + 1 } ∷ qs) (q ∷ raised t j qs)))
      e all)))
      (cases_Bool (is_length_price t j q))

  pub higher_too : (k : ℕ) (now : Duals) → length night.station.tracks * arrivals ≤ k → AreSwept night path given k now → (step : Duals) → IsPriceStep night path given step
      → duals_sum night path given <ℤ duals_sum night path step → duals_sum night path given <ℤ duals_sum night path now
  higher_too k now le h step is lt = ⊎_elim
      (λ (same : (now ≡ given) × ((i : ℕ) → i < k → NoneHigher night path (i / arrivals) (i % arrivals) given)).
      let pair = step_pair is.track is.train given.prices is.within.each in
      let at : ℕ = is.track * arrivals + is.train in
      let within : at < length night.station.tracks * arrivals = omega (arith, mul-add-lt is.track arrivals is.train (length night.station.tracks) pair.0 pair.1) in
      let none = same.1 at (omega (arith, within, le)) step is (sym (div-mul-add is.track arrivals is.train pair.1)) (sym (mod-mul-add is.track arrivals is.train pair.1)) in
      absurd (omega (arith, ints, none, lt)))
      (λ (higher : duals_sum night path given <ℤ duals_sum night path now). higher)
      h.either
