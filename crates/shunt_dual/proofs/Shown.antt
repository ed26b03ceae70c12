-- What the least choice in the filled table shows.
use Rattle.std.specs.Prelude.{Option, Some, None, unwrap_or, IfSome, map, All, slice_index_or}
use Rattle.std.proofs.Common.{◌≡◌, ℕ, ◌<◌, ◌≤◌, ℤ, pos, ◌≤ℤ◌, List, [], length, refl, sym, ap, ◌∙◌, subst, arith}
use Rattle.std.proofs.lemmas.Int.{ints}
use Rattle.std.proofs.lemmas.List.{get_or_default}
use Rattle.shunt_base.specs.declared.duals.Duals.{Duals}
use Rattle.shunt_instance.specs.defs.Instance.{Night, IsInstance, unit_total, position_total}
use Rattle.shunt_instance.specs.defs.Matching.{place_of}
use Rattle.shunt_matching.specs.defs.Nights.{Matches}
use Rattle.shunt_prices.specs.defs.Limits.{IsValue, AreDuals, ArePrices}
use Rattle.shunt_prices.specs.defs.Bounds.{duals_sum, IsBoundOf}
use Rattle.shunt_dual.specs.defs.Shares.{Table, share_at, IsEntry, IsShare, AreShares}
use Rattle.shunt_dual.specs.defs.Assignments.{share_total, IsAssignmentBound, IsShown}
use Rattle.shunt_dual.specs.defs.Tables.{at, at_z, cost_at, top, total, IsTable, IsPlace, IsAssigned, or_top}
use Rattle.shunt_dual.proofs.Start.{starts}
use Rattle.shunt_dual.proofs.Matched.{as_many, is_place, of_place, is_table, low_pair, pair_low, same_total, low_matching}

-- the filled table is one
pub filled_is : (night : Night) (t : Table) (n : ℕ) (table : List ℕ) → ((place : List ℕ) × Matches night place) → IsInstance night → AreShares night t
    → n ≡ unit_total night → table ≡ map or_top t.entries → IsTable n table
filled_is night t n table some is shares ne te =
    let same = as_many night some.0 some.1 in
    subst (λ (m : ℕ). IsTable m table) (sym ne) (subst (IsTable (unit_total night)) (sym te) (is_table night t is shares same))

some_pair : (night : Night) (u v : ℕ) (o : Option ℕ) (z : ℤ) (cost : ℕ) → IsEntry night u v o
    → ((share : ℕ) → IsShare night u v share → cost ≡ unwrap_or o 0) → z ≤ℤ pos cost → IfSome o (λ share. z ≤ℤ pos share)
some_pair night u v None z cost e same le = tt
some_pair night u v (Some share) z cost e same le = omega (arith, ints, le, same share e)

pub all_values : (n : ℕ) (zs : List ℤ) → length zs ≡ n → ((k : ℕ) → k < n → IsValue (at_z zs k)) → All IsValue zs
all_values n zs e each k d lt = subst IsValue (get_or_default zs k (pos 0) d lt) (each k (omega arith))

module _ (night : Night) (t : Table) (is : IsInstance night) (shares : AreShares night t) (some : (place : List ℕ) × Matches night place)
    (place : List ℕ) (alpha beta : List ℤ) (sum : ℕ)
    (a : IsAssigned (unit_total night) (cost_at (map or_top t.entries) (unit_total night)) place alpha beta)
    (is_sum : sum ≡ total (cost_at (map or_top t.entries) (unit_total night)) place)
    (least : (other : List ℕ) → IsPlace (unit_total night) other → sum ≤ total (cost_at (map or_top t.entries) (unit_total night)) other)
    (unfilled : (other : List ℕ) → IsPlace (unit_total night) other → ((r : ℕ) → r < unit_total night
    → cost_at (map or_top t.entries) (unit_total night) r (at other r) ≤ 3000000000)
    → (r : ℕ) → r < unit_total night → cost_at (map or_top t.entries) (unit_total night) r (at place r) < top) where
  same : position_total night ≡ unit_total night
  same = as_many night some.0 some.1

  matches : Matches night place
  matches = of_place night place same a.is_place
      (λ u lt. low_pair night t is shares same u (place_of place u) lt (a.is_place.below u lt)
      (unfilled some.0 (is_place night some.0 some.1) (low_matching night t is shares same some.0 some.1) u lt))

  pub shown : IsShown night t place alpha beta (pos sum)
  shown = record {
    matches = matches;
    is = ap pos (is_sum ∙ same_total night t is shares same place matches);
    least = λ other m. omega (arith, ints, least other (is_place night other m), same_total night t is shares same other m);
    alphas = a.alpha_len;
    betas = a.beta_len ∙ sym same;
    alphas_in = all_values (unit_total night) alpha a.alpha_len (λ k lt. record { low = omega (arith, ints, a.alphas k lt); high = omega (arith, ints, a.alphas k lt) });
    betas_in = all_values (unit_total night) beta a.beta_len (λ k lt. record { low = omega (arith, ints, a.betas k lt); high = omega (arith, ints, a.betas k lt) });
    under = λ u v ul vl.
        let vn : v < unit_total night = omega (arith, vl, same) in
        some_pair night u v (share_at t u v) _ _ (shares.each u v ul vl)
        (λ share h. (pair_low night t is shares same u v ul vn h.pair).0) (a.under u v ul vn);
    sum = omega (arith, ints, a.sums, is_sum);
  }

-- what is known of the least choice in a table of n rows
pub record IsLeastOver (n : ℕ) (table place : List ℕ) (alpha beta : List ℤ) (sum : ℕ) : Type 0 where
  pub assigned : IsAssigned n (cost_at table n) place alpha beta
  pub is_sum : sum ≡ total (cost_at table n) place
  pub least : (other : List ℕ) → IsPlace n other → sum ≤ total (cost_at table n) other
  pub unfilled : (other : List ℕ) → IsPlace n other → ((r : ℕ) → r < n → cost_at table n r (at other r) ≤ 3000000000) → (r : ℕ) → r < n → cost_at table n r (at place r) < top

pub shown_over : (night : Night) (t : Table) (n : ℕ) (table place : List ℕ) (alpha beta : List ℤ) (sum : ℕ) → IsInstance night → AreShares night t
    → ((place : List ℕ) × Matches night place)
    → n ≡ unit_total night → table ≡ map or_top t.entries → IsLeastOver n table place alpha beta sum → IsShown night t place alpha beta (pos sum)
shown_over night t n table place alpha beta sum is shares some ne te h =
    let k = subst (λ (xs : List ℕ). IsLeastOver (unit_total night) xs place alpha beta sum) te (subst (λ (m : ℕ). IsLeastOver m table place alpha beta sum) ne h) in
    shown night t is shares some place alpha beta sum k.assigned k.is_sum k.least k.unfilled

pub small_places : (n : ℕ) (place xs : List ℕ) → IsPlace n place → n ≤ 160 → xs ≡ place → All (λ k. k < 65536) xs
small_places n place xs p few e = subst (All (λ k. k < 65536)) (sym e) (λ k d lt.
    let here : slice_index_or place k d ≡ at place k = get_or_default place k d 0 lt in
    omega (arith, here, p.below k (omega (arith, p.rows))))

-- the same of equal lists
pub shown_alike : (night : Night) (t : Table) (place xs : List ℕ) (alpha ys beta zs : List ℤ) (total z : ℤ) → IsShown night t place alpha beta total
    → xs ≡ place → ys ≡ alpha → zs ≡ beta → z ≡ total → IsShown night t xs ys zs z
shown_alike night t place xs alpha ys beta zs total z h ep ea eb ez =
    subst (λ (p : List ℕ). IsShown night t p ys zs z) (sym ep)
    (subst (λ (a : List ℤ). IsShown night t place a zs z) (sym ea)
    (subst (λ (b : List ℤ). IsShown night t place alpha b z) (sym eb)
    (subst (λ (s : ℤ). IsShown night t place alpha beta s) (sym ez) h)))

-- what follows of it
pub are_duals : (night : Night) (t : Table) (place : List ℕ) (d : Duals) (total : ℤ) → IsShown night t place d.alpha d.beta total → d.prices ≡ [] → AreDuals night d
are_duals night t place d total h e = record {
  alphas = h.alphas;
  betas = h.betas;
  alphas_in = h.alphas_in;
  betas_in = h.betas_in;
  prices = subst (ArePrices night) (sym e) (record { few = omega arith; each = λ k x lt. absurd (omega arith) });
}

pub bounds_all : (night : Night) (t : Table) (place : List ℕ) (alpha beta : List ℤ) (total z : ℤ) → AreShares night t → IsShown night t place alpha beta total
    → z ≡ total → (b : ℕ) → IsBoundOf z (pos b) → IsAssignmentBound night b
bounds_all night t place alpha beta total z shares h e b is = record {
  table = t;
  shares = shares;
  total = share_total t place;
  least = record { place = place; matches = h.matches; is = refl; least = λ other m. omega (arith, ints, h.is, h.least other m) };
  enough = omega (arith, ints, h.is, e, is.enough);
  rounded = omega (arith, ints, h.is, e, is.least);
}

pub starts_with : (night : Night) (t : Table) (place : List ℕ) (d : Duals) (total z : ℤ) → IsShown night t place d.alpha d.beta total → d.prices ≡ [] → z ≡ total
    → duals_sum night [] d ≡ z
starts_with night t place d total z h none e = starts night d (are_duals night t place d total h none) none ∙ (h.sum ∙ sym e)
