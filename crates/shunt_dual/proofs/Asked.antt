-- Runs of units that are asked to come to at most a number, where one value changes.
use mir.Syntax.{w64}
use mir.Val.{to_z, of_z, SFits}
use Rattle.std.specs.Prelude.{true, false, ◌≤ℤ◌, ◌-ℤ◌, All}
use Rattle.std.proofs.Common.{◌≡◌, ◌≢◌, ⊎_elim, ℕ, zero, suc, ◌+◌, ◌*◌, ◌<◌, ◌≤◌, Bool, List, length, get_or, set, ℤ, pos, negsuc, ◌+ℤ◌, refl, sym, ap, subst, ◌∙◌, arith, add-one}
use Rattle.std.proofs.lemmas.Int.{ints}
use Rattle.std.proofs.lemmas.Bool.{cases_lt, cases_eq, true≢false}
use Rattle.std.proofs.lemmas.List.{length-set, get_or-set_same, get_or-set_other, get_or_default, set-get_or}
use Rattle.shunt_prices.specs.defs.Sums.{sum_z_below, IsWithin}
use Rattle.shunt_prices.specs.defs.Limits.{IsValue}
use Rattle.shunt_dual.specs.defs.Refits.{run_of, IsMet, IsGreatestUnder, IsUnitRefit, AreUnitsRefit}
use Rattle.shunt_dual.specs.declared.unit_values.Ask.{Ask}

-- ---- sums of a run

-- a run without the unit
run_other : (alpha : List ℤ) (first n u : ℕ) (z : ℤ) → ((k : ℕ) → k < n → first + k ≢ u)
    → sum_z_below n (λ k. get_or (set alpha u z) (first + k) (pos 0)) ≡ sum_z_below n (λ k. get_or alpha (first + k) (pos 0))
run_other alpha first zero u z apart = refl
run_other alpha first (suc n) u z apart =
    omega (arith, ints, run_other alpha first n u z (λ k lt. apart k (omega arith)), get_or-set_other alpha u (first + n) z (pos 0) (apart n (omega arith)))

-- a run with the unit
run_with : (alpha : List ℤ) (first n u : ℕ) (z : ℤ) → u < length alpha → first ≤ u → u < first + n
    → sum_z_below n (λ k. get_or (set alpha u z) (first + k) (pos 0)) ≡ sum_z_below n (λ k. get_or alpha (first + k) (pos 0)) +ℤ z -ℤ get_or alpha u (pos 0)
run_with alpha first zero u z there from to = absurd (omega arith)
run_with alpha first (suc n) u z there from to = ⊎_elim
    (λ (lt : u < first + n). omega (
      arith,
      ints,
      run_with alpha first n u z there from lt,
      get_or-set_other alpha u (first + n) z (pos 0) (λ (e : first + n ≡ u). omega (arith, e, lt)),
    ))
    (λ (le : first + n ≤ u).
    let e : first + n ≡ u = omega (arith, le, to) in
    omega (
      arith,
      ints,
      run_other alpha first n u z (λ k lt same. omega (arith, same, e, lt)),
      subst (λ (w : ℕ). get_or (set alpha u z) w (pos 0) ≡ z) (sym e) (get_or-set_same alpha u z (pos 0) there),
      subst (λ (w : ℕ). get_or alpha w (pos 0) ≡ get_or alpha u (pos 0)) (sym e) refl,
    ))
    (cases_lt u (first + n))

module _ (alpha : List ℤ) (a : Ask) (u : ℕ) where
  pub met_before : (z : ℤ) → u < a.first → IsMet alpha a → IsMet (set alpha u z) a
  met_before z lt h = record { met = let le = h.met in omega (arith, ints, le, run_other alpha a.first a.n u z (λ k below e. omega (arith, lt, e))) }

  pub met_after : (z : ℤ) → a.first + a.n ≤ u → IsMet alpha a → IsMet (set alpha u z) a
  met_after z past h = record { met = let le = h.met in omega (arith, ints, le, run_other alpha a.first a.n u z (λ k below e. omega (arith, past, below, e))) }

  module _ (there : u < length alpha) (from : a.first ≤ u) (to : u < a.first + a.n) where
    pub met_within : (z : ℤ) → (run_of alpha a +ℤ z -ℤ get_or alpha u (pos 0)) ≤ℤ a.most → IsMet (set alpha u z) a
    met_within z le = record { met = omega (arith, ints, le, run_with alpha a.first a.n u z there from to) }

    pub within_met : (z : ℤ) → IsMet (set alpha u z) a → (run_of alpha a +ℤ z -ℤ get_or alpha u (pos 0)) ≤ℤ a.most
    within_met z h = let le = h.met in omega (arith, ints, le, run_with alpha a.first a.n u z there from to)

-- a lesser value
pub met_less : (alpha : List ℤ) (a : Ask) (u : ℕ) (z less : ℤ) → u < length alpha → less ≤ℤ z → IsMet (set alpha u z) a → IsMet (set alpha u less) a
met_less alpha a u z less there le h = ⊎_elim
    (λ (lt : u < a.first). record {
      met = let m = h.met in omega (
        arith,
        ints,
        m,
        run_other alpha a.first a.n u z (λ k below e. omega (arith, lt, e)),
        run_other alpha a.first a.n u less (λ k below e. omega (arith, lt, e)),
      );
    })
    (λ (from : a.first ≤ u). ⊎_elim
    (λ (to : u < a.first + a.n). met_within alpha a u there from to less (let m = within_met alpha a u there from to z h in omega (arith, ints, m, le)))
    (λ (past : a.first + a.n ≤ u). record {
      met = let m = h.met in omega (
        arith,
        ints,
        m,
        run_other alpha a.first a.n u z (λ k below e. omega (arith, past, below, e)),
        run_other alpha a.first a.n u less (λ k below e. omega (arith, past, below, e)),
      );
    })
    (cases_lt u (a.first + a.n)))
    (cases_lt u a.first)

-- ---- all asks, one after the other

-- values with which the asks before a number are met
abbrev pub MetBelow : List ℤ → List Ask → ℕ → Type 0
MetBelow alpha asks k = (i : ℕ) (a : Ask) → i < k → IsMet alpha (get_or asks i a)

pub none_met : (alpha : List ℤ) (asks : List Ask) → MetBelow alpha asks 0
none_met alpha asks i a lt = absurd (omega (arith, lt))

module _ (alpha : List ℤ) (asks : List Ask) (u k : ℕ) (z less : ℤ) (d : Ask) (there : u < length alpha) (within : k < length asks) where
  pub met_more : less ≤ℤ z → MetBelow (set alpha u z) asks k → IsMet (set alpha u less) (get_or asks k d) → MetBelow (set alpha u less) asks (k + 1)
  met_more le before now i a lt = ⊎_elim
      (λ (early : i < k). met_less alpha (get_or asks i a) u z less there le (before i a early))
      (λ (late : k ≤ i).
      let e : k ≡ i = omega (arith, late, lt) in
      subst (λ (j : ℕ). IsMet (set alpha u less) (get_or asks j a)) e (subst (IsMet (set alpha u less)) (get_or_default asks k d a within) now))
      (cases_lt i k)

  pub most_more : ((other : ℤ) → IsValue other → MetBelow (set alpha u other) asks k → other ≤ℤ z)
      → ((other : ℤ) → other ≤ℤ z → IsMet (set alpha u other) (get_or asks k d) → other ≤ℤ less)
      → (other : ℤ) → IsValue other → MetBelow (set alpha u other) asks (k + 1) → other ≤ℤ less
  most_more before now other v met = now other (before other v (λ i a lt. met i a (omega (arith, lt)))) (met k d (omega arith))

pub greatest_is : (alpha : List ℤ) (asks : List Ask) (u k : ℕ) (z : ℤ) → k ≡ length asks → IsValue z → MetBelow (set alpha u z) asks k
    → ((other : ℤ) → IsValue other → MetBelow (set alpha u other) asks k → other ≤ℤ z) → IsGreatestUnder asks alpha u z
greatest_is alpha asks u k z e v met most = record {
  value = v;
  met = subst (MetBelow (set alpha u z) asks) e met;
  most = λ other w all. most other w (subst (MetBelow (set alpha u other) asks) (sym e) all);
}

-- ---- all units, one after the other

pub as_it_was : (asks : List Ask) (covered : List Bool) (alpha : List ℤ) (u : ℕ) (z : ℤ) → get_or covered u true ≡ true → z ≡ get_or alpha u (pos 0)
    → IsUnitRefit asks covered u alpha (set alpha u z)
as_it_was asks covered alpha u z shut e = record {
  kept = λ t. ap (set alpha u) e ∙ set-get_or alpha u (pos 0);
  refit = λ f. absurd (true≢false (sym shut ∙ f));
}

pub got_greatest : (asks : List Ask) (covered : List Bool) (alpha : List ℤ) (u : ℕ) (z : ℤ) → get_or covered u true ≡ false → IsGreatestUnder asks alpha u z
    → IsUnitRefit asks covered u alpha (set alpha u z)
got_greatest asks covered alpha u z bare g = record {
  kept = λ t. absurd (true≢false (sym t ∙ bare));
  refit = λ f. (z, g, refl);
}

pub unit_more : (asks : List Ask) (covered : List Bool) (u : ℕ) (old mid : List ℤ) (z before risen : ℤ) → u < length mid → AreUnitsRefit asks covered u old mid before
    → IsUnitRefit asks covered u mid (set mid u z)
    → risen ≡ before +ℤ (z -ℤ get_or mid u (pos 0)) → AreUnitsRefit asks covered (u + 1) old (set mid u z) risen
unit_more asks covered u old mid z before risen there are one e =
    subst (λ (n : ℕ). AreUnitsRefit asks covered n old (set mid u z) risen) (sym (add-one u))
    (mid, before, are, one, e ∙ ap (λ (x : ℤ). before +ℤ (x -ℤ get_or mid u (pos 0))) (sym (get_or-set_same mid u z (pos 0) there)))

pub values_set : (zs : List ℤ) (u : ℕ) (z : ℤ) → All IsValue zs → IsValue z → All IsValue (set zs u z)
values_set zs u z all v k d lt = ⊎_elim
    (λ (e : k ≡ u). subst (λ (n : ℕ). IsValue (get_or (set zs u z) n d)) (sym e) (subst IsValue (sym (get_or-set_same zs u z d (omega (arith, e, lt, length-set zs u z)))) v))
    (λ (ne : k ≢ u). subst IsValue (sym (get_or-set_other zs u k z d ne)) (all k d (omega (arith, lt, length-set zs u z))))
    (cases_eq k u)

pub risen_more : (k : ℕ) (total new old z : ℤ) → z ≡ total +ℤ (new -ℤ old) → IsValue new → IsValue old → IsWithin (k * 1999999999998) total → IsWithin ((k + 1) * 1999999999998) z
risen_more k total new old z e v o w = record {
  low = omega (arith, ints, v.low, v.high, o.low, o.high, w.low, w.high, e);
  high = omega
      (arith, ints, v.low, v.high, o.low, o.high, w.low, w.high, e);
}

pub risen_seen : (new old : ℤ) → IsValue new → IsValue old → to_z w64 (of_z w64 (to_z w64 (of_z w64 new) -ℤ to_z w64 (of_z w64 old))) ≡ new -ℤ old
risen_seen new old v o = omega (arith, ints, v.low, v.high, o.low, o.high)

pub small_fits : (z : ℤ) → IsWithin 4000000000000000000 z → SFits w64 z
small_fits (pos n) w = record { sfits = omega (arith, ints, w.high) }
small_fits (negsuc n) w = record { sfits = omega (arith, ints, w.low) }

pub risen_fits : (k : ℕ) (total new old more : ℤ) → IsValue new → IsValue old → IsWithin (k * 1999999999998) total → more ≡ new -ℤ old → k ≤ 160 → SFits w64 (total +ℤ more)
risen_fits k total new old more v o w e few = small_fits (total +ℤ more) (record {
  low = omega (arith, ints, v.low, v.high, o.low, o.high, w.low, w.high, e, few);
  high = omega
      (arith, ints, v.low, v.high, o.low, o.high, w.low, w.high, e, few);
})

pub risen_sum : (k : ℕ) (total new old more : ℤ) → IsValue new → IsValue old → IsWithin (k * 1999999999998) total → more ≡ new -ℤ old → k ≤ 160
    → to_z w64 (of_z w64 (total +ℤ more)) ≡ total +ℤ (new -ℤ old)
risen_sum k total new old more v o w e few = omega (arith, ints, v.low, v.high, o.low, o.high, w.low, w.high, e, few)
