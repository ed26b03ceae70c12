-- Units that have got their greatest values, one after the other: what that does to duals and their sum, and that no other duals have them.
use Rattle.std.specs.Prelude.{All, Bool, true, false, ◌-ℤ◌}
use Rattle.std.proofs.Common.{◌≡◌, ⊎_elim, ℕ, zero, suc, ◌<◌, ◌≤◌, List, length, get_or, set, ℤ, pos, ◌+ℤ◌, sym, ap, subst, ◌∙◌, arith}
use Rattle.std.proofs.lemmas.Int.{ints}
use Rattle.std.proofs.lemmas.Bool.{cases_Bool}
use Rattle.std.proofs.lemmas.List.{length-set, get_or-set_same}
use Rattle.shunt_lists.proofs.Lists.{all_one}
use Rattle.shunt_base.specs.declared.duals.Price.{Price}
use Rattle.shunt_base.specs.declared.duals.Duals.{Duals}
use Rattle.shunt_instance.specs.defs.Instance.{Night, unit_total}
use Rattle.shunt_blocks.specs.declared.records.Shape.{Shape}
use Rattle.shunt_blocks.specs.declared.records.Block.{Block}
use Rattle.shunt_choices.specs.defs.Paths.{masks_of}
use Rattle.shunt_choices.specs.defs.Choices.{AreFreeShapes}
use Rattle.shunt_prices.specs.defs.Sums.{IsWithin}
use Rattle.shunt_prices.specs.defs.Limits.{IsValue, AreDuals, case_at, plain}
use Rattle.shunt_prices.specs.defs.Cases.{alpha_at, HoldsInCase, DualsHold}
use Rattle.shunt_prices.specs.defs.Bounds.{duals_sum}
use Rattle.shunt_prices.specs.defs.Steps.{with_alpha, IsGreatest, IsRefit, AreRefitted}
use Rattle.shunt_dual.specs.declared.unit_values.Ask.{Ask}
use Rattle.shunt_dual.specs.defs.Refits.{IsMet, IsGreatestUnder, IsUnitRefit, AreUnitsRefit}
use Rattle.shunt_dual.specs.defs.Asks.{AreAsksOf}
use Rattle.shunt_dual.specs.defs.Raises.{AreRefit}
use Rattle.shunt_dual.proofs.Demands.{all_met, all_hold}

-- what another value of a unit does to the sum
abbrev pub OtherAlpha : Type 0
OtherAlpha = (night : Night) (path : List Block) (d : Duals) (u : ℕ) (z : ℤ) → u < unit_total night → length d.alpha ≡ unit_total night
    → get_or (masks_of night path).units u true ≡ false
    → duals_sum night path (with_alpha u z d) ≡ duals_sum night path d +ℤ z -ℤ alpha_at d u

module _ (night : Night) (path : List Block) (beta : List ℤ) (prices : List Price) (shapes : List Shape) (asks : List Ask)
    (free : AreFreeShapes night (masks_of night path) shapes) (are : AreAsksOf night beta prices shapes asks) where
  abbrev duals_of : List ℤ → Duals
  duals_of alpha = record { alpha = alpha; beta = beta; prices = prices }

  abbrev units : List Bool
  units = (masks_of night path).units

  pub hold_to : (alpha : List ℤ) → DualsHold night path (duals_of alpha) → All (IsMet alpha) asks
  hold_to alpha h = all_met night alpha beta prices (masks_of night path) shapes asks free are (h 0 (case_at (plain (duals_of alpha)) 0) (omega arith))

  pub hold_from : (alpha : List ℤ) → All (IsMet alpha) asks → DualsHold night path (duals_of alpha)
  hold_from alpha met = all_one (HoldsInCase night (masks_of night path)) _ (all_hold night alpha beta prices (masks_of night path) shapes asks free are met)

  greatest : (alpha : List ℤ) (u : ℕ) (z : ℤ) → IsGreatestUnder asks alpha u z → IsGreatest night path (duals_of alpha) u z
  greatest alpha u z g = record { value = g.value; holds = hold_from (set alpha u z) g.met; most = λ other v h. g.most other v (hold_to (set alpha u other) h) }

  one_refit : (u : ℕ) (old new : List ℤ) → IsUnitRefit asks units u old new → IsRefit night path u (duals_of old) (duals_of new)
  one_refit u old new r = record {
    covered = λ t. ap duals_of (r.kept t);
    refit = λ f. let x = r.refit f in (x.0, greatest old u x.0 x.1, ap duals_of x.2);
  }

  pub all_refit : (n : ℕ) (old new : List ℤ) (risen : ℤ) → AreUnitsRefit asks units n old new risen → AreRefitted night path n (duals_of old) (duals_of new)
  all_refit zero old new risen r = ap duals_of r.0
  all_refit (suc n) old new risen r = (duals_of r.0, all_refit n old r.0 r.1 r.2, one_refit n r.0 new r.3)

  record HasRisen (old new : List ℤ) (risen : ℤ) : Type 0 where
    long : length new ≡ unit_total night
    sum : duals_sum night path (duals_of new) ≡ duals_sum night path (duals_of old) +ℤ risen

  more : OtherAlpha → (u : ℕ) (old mid new : List ℤ) (before risen : ℤ) → u < unit_total night → HasRisen old mid before → IsUnitRefit asks units u mid new
      → risen ≡ before +ℤ (get_or new u (pos 0) -ℤ get_or mid u (pos 0)) → HasRisen old new risen
  more other u old mid new before risen lt h r e = ⊎_elim
      (λ (shut : get_or units u true ≡ true).
      let same = r.kept shut in
      record {
        long = ap length same ∙ h.long;
        sum = let nothing : get_or new u (pos 0) ≡ get_or mid u (pos 0) = ap (λ (zs : List ℤ). get_or zs u (pos 0)) same in
            let equal : duals_sum night path (duals_of new) ≡ duals_sum night path (duals_of mid) = ap (λ (zs : List ℤ). duals_sum night path (duals_of zs)) same in
            let s = h.sum in
            omega (arith, ints, nothing, equal, s, e);
      })
      (λ (bare : get_or units u true ≡ false).
      let x = r.refit bare in
      let there : u < length mid = omega (arith, lt, h.long) in
      record {
        long = ap length x.2 ∙ length-set mid u x.0 ∙ h.long;
        sum = let value : get_or new u (pos 0) ≡ x.0 = ap (λ (zs : List ℤ). get_or zs u (pos 0)) x.2 ∙ get_or-set_same mid u x.0 (pos 0) there in
            let equal : duals_sum night path (duals_of new) ≡ duals_sum night path (with_alpha u x.0 (duals_of mid)) = ap
            (λ (zs : List ℤ). duals_sum night path (duals_of zs)) x.2 in
            let s = h.sum in
            omega (arith, ints, value, equal, s, e, other night path (duals_of mid) u x.0 lt h.long bare);
      })
      (cases_Bool (get_or units u true))

  risen_by : OtherAlpha → (n : ℕ) (old new : List ℤ) (risen : ℤ) → n ≤ unit_total night → length old ≡ unit_total night → AreUnitsRefit asks units n old new risen
      → HasRisen old new risen
  risen_by other zero old new risen le long r = record {
    long = ap length r.0 ∙ long;
    sum = let equal : duals_sum night path (duals_of new) ≡ duals_sum night path (duals_of old) = ap (λ (zs : List ℤ). duals_sum night path (duals_of zs)) r.0 in
        omega (arith, ints, equal, r.1);
  }
  risen_by other (suc n) old new risen le long r = more other n old r.0 new r.1 risen (omega (arith, le)) (risen_by other n old r.0 r.1 (omega (arith, le)) long r.2) r.3 r.4

  pub long_after : OtherAlpha → (n : ℕ) (old new : List ℤ) (risen : ℤ) → n ≤ unit_total night → length old ≡ unit_total night → AreUnitsRefit asks units n old new risen
      → length new ≡ unit_total night
  long_after other n old new risen le long r = (risen_by other n old new risen le long r).long

  pub sum_after : OtherAlpha → (n : ℕ) (old new : List ℤ) (risen : ℤ) → n ≤ unit_total night → length old ≡ unit_total night → AreUnitsRefit asks units n old new risen
      → duals_sum night path (duals_of new) ≡ duals_sum night path (duals_of old) +ℤ risen
  sum_after other n old new risen le long r = (risen_by other n old new risen le long r).sum

  -- new values of units, as duals
  pub refit_is : OtherAlpha → (n : ℕ) (covered : List Bool) (old new : List ℤ) (risen : ℤ) → AreDuals night (duals_of old) → covered ≡ units → n ≡ unit_total night
      → AreUnitsRefit asks covered n old new risen
      → All IsValue new → All (IsMet new) asks → IsWithin 319999999999680 risen → AreRefit night path (duals_of old) (duals_of new) risen
  refit_is other n covered old new risen are_old ec en r values met small =
      let done : AreUnitsRefit asks units (unit_total night) old new risen = subst (λ (m : ℕ). AreUnitsRefit asks units m old new risen) en
      (subst (λ (bs : List Bool). AreUnitsRefit asks bs n old new risen) ec r) in
      record {
        held = record {
          are = record {
            alphas = long_after other (unit_total night) old new risen (omega arith) are_old.alphas done;
            betas = are_old.betas;
            alphas_in = values;
            betas_in = are_old.betas_in;
            prices = are_old.prices;
          };
          hold = hold_from new met;
        };
        refitted = all_refit (unit_total night) old new risen done;
        sum = sum_after other (unit_total night) old new risen (omega arith) are_old.alphas done;
        small = small;
      }

-- ---- no other duals

module _ (night : Night) (path : List Block) where
  one_value : (d : Duals) (u : ℕ) (y z : ℤ) → IsGreatest night path d u y → IsGreatest night path d u z → y ≡ z
  one_value d u y z g h = let le = h.most y g.value g.holds in let ge = g.most z h.value h.holds in omega (arith, ints, le, ge)

  one_way : (u : ℕ) (old new other : Duals) → IsRefit night path u old new → IsRefit night path u old other → new ≡ other
  one_way u old new other r q = ⊎_elim
      (λ (t : get_or (masks_of night path).units u true ≡ true). r.covered t ∙ sym (q.covered t))
      (λ (f : get_or (masks_of night path).units u true ≡ false).
      let x = r.refit f in
      let y = q.refit f in
      x.2 ∙ ap (λ (z : ℤ). with_alpha u z old) (one_value old u x.0 y.0 x.1 y.1) ∙ sym y.2)
      (cases_Bool (get_or (masks_of night path).units u true))

  pub one_refitted : (n : ℕ) (old new other : Duals) → AreRefitted night path n old new → AreRefitted night path n old other → new ≡ other
  one_refitted zero old new other r q = r ∙ sym q
  one_refitted (suc n) old new other r q =
      one_way n r.0 new other r.2 (subst (λ (mid : Duals). IsRefit night path n mid other) (sym (one_refitted n old r.0 q.0 r.1 q.1)) q.2)
