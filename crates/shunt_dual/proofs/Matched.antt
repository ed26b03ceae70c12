-- Matchings of a night as places of the filled table, and back.
use Rattle.std.specs.Prelude.{Option, Some, None, unwrap_or, ◌==◌, ◌&&◌, not, cond, map, slice_index_or}
use Rattle.std.proofs.Common.{◌≡◌, ℕ, zero, suc, ◌+◌, ◌*◌, ◌<◌, ◌≤◌, Bool, true, false, List, [], length, take, refl, sym, ap, ◌∙◌, subst, arith}
use Rattle.std.proofs.lemmas.List.{length-map, get_or-map, get_or_past, take_all}
use Rattle.std.proofs.lemmas.List.Sums.{sum_by_more}
use Rattle.std.proofs.lemmas.Nat.{mul-add-lt}
use Rattle.shunt_lists.specs.defs.Below.{count_below, sum_below}
use Rattle.shunt_lists.proofs.CountsBelow.{count_below-same}
use Rattle.shunt_lists.proofs.SumsBelow.{sum_below-same, count_of_places}
use Rattle.shunt_instance.specs.defs.Instance.{Night, IsInstance, unit_total, position_total}
use Rattle.shunt_instance.specs.defs.Matching.{entry_at, is_in_rest, IsMatchable, place_of, unit_entries, position_entries}
use Rattle.shunt_instance.proofs.Facts.{unit_entry_is, position_entry_is}
use Rattle.shunt_instance.proofs.Looked.{units_few}
use Rattle.shunt_instance.proofs.Orders.{opened}
use Rattle.shunt_blocks.specs.defs.Shapes.{IsPair, unit_entry, position_entry}
use Rattle.shunt_matching.specs.defs.Nights.{Matches}
use Rattle.shunt_dual.specs.defs.Shares.{Table, share_at, IsEntry, AreShares}
use Rattle.shunt_dual.specs.defs.Assignments.{share_total}
use Rattle.shunt_dual.specs.defs.Tables.{at, cost_at, top, times, total, IsTable, IsPlace, or_top}
use Rattle.shunt_dual.proofs.Sums.{total_none, total_more}
use Rattle.shunt_dual.proofs.PaidShares.{small}
use Rattle.shunt_matching.proofs.Nights.{length-unit_entries as units, length-position_entries as positions}

-- ---- counts by places

counted_take : (v : ℕ) (xs : List ℕ) (k : ℕ) → k ≤ length xs → times v (take k xs) ≡ count_below k (λ i. at xs i == v)
counted_take v xs zero le = refl
counted_take v xs (suc k) le =
    let more = sum_by_more (λ x. cond (x == v) 1 0) xs k 0 (omega arith) in
    let e : suc k ≡ k + 1 = omega arith in
    let one : times v (take (suc k) xs) ≡ times v (take (k + 1) xs) = ap (λ (i : ℕ). times v (take i xs)) e in
    omega (arith, counted_take v xs k (omega arith), more, one)

counted : (v n : ℕ) (xs : List ℕ) → length xs ≡ n → times v xs ≡ count_below n (λ i. at xs i == v)
counted v n xs e = sym (ap (times v) (take_all n xs (omega arith))) ∙ counted_take v xs n (omega arith)

totalled_take : (cost : ℕ → ℕ → ℕ) (xs : List ℕ) (k : ℕ) → k ≤ length xs → total cost (take k xs) ≡ sum_below k (λ i. cost i (at xs i))
totalled_take cost xs zero le = total_none cost xs
totalled_take cost xs (suc k) le =
    let e : suc k ≡ k + 1 = omega arith in
    let one : total cost (take (suc k) xs) ≡ total cost (take (k + 1) xs) = ap (λ (i : ℕ). total cost (take i xs)) e in
    omega (arith, totalled_take cost xs k (omega arith), total_more cost k xs (omega arith), one)

totalled : (cost : ℕ → ℕ → ℕ) (n : ℕ) (xs : List ℕ) → length xs ≡ n → total cost xs ≡ sum_below n (λ i. cost i (at xs i))
totalled cost n xs e = sym (ap (total cost) (take_all n xs (omega arith))) ∙ totalled_take cost xs n (omega arith)

all_counted : (n : ℕ) → count_below n (λ i. true && true) ≡ n
all_counted zero = refl
all_counted (suc n) = omega (arith, all_counted n)

-- nothing is left out
in_rest : (i : ℕ) → is_in_rest [] i ≡ true
in_rest i = ap not (get_or_past [] i false (omega arith))

given_count : (n v : ℕ) (xs : List ℕ) → count_below n (λ u. is_in_rest [] u && (place_of xs u == v)) ≡ count_below n (λ u. place_of xs u == v)
given_count n v xs = count_below-same n _ _ (λ u lt. ap (λ (b : Bool). b && (place_of xs u == v)) (in_rest u))

-- ---- a matching is a list of places

module _ (night : Night) (place : List ℕ) (m : Matches night place) where
  pub place_length : length place ≡ unit_total night
  place_length = m.same_length ∙ units night

  pub place_below : (u : ℕ) → u < unit_total night → place_of place u < position_total night
  place_below u lt = omega (arith, (m.given u (record { there = omega (arith, units night); left = in_rest u })).there, positions night)

  once : (v : ℕ) → v < position_total night → count_below (unit_total night) (λ u. place_of place u == v) ≡ 1
  once v lt =
      let e = m.once v (record { there = omega (arith, positions night); left = in_rest v }) in
      sym (given_count (unit_total night) v place) ∙ (sym (ap (λ (n : ℕ). count_below n (λ u. is_in_rest [] u && (place_of place u == v))) (units night)) ∙ e)

  pub as_many : position_total night ≡ unit_total night
  as_many =
      let counts = count_of_places (unit_total night) (position_total night) (λ u. true) (λ v. true) (place_of place) (λ v. true)
      (λ u lt is. (place_below u lt, refl)) (λ v lt is. once v lt) in
      omega (arith, counts, all_counted (unit_total night), all_counted (position_total night))

  pub is_place : IsPlace (unit_total night) place
  is_place = record {
    rows = place_length;
    below = λ u lt. omega (arith, place_below u lt, as_many);
    once = λ v lt. counted v (unit_total night) place place_length ∙ once v (omega (arith, as_many));
  }

  pub pair_of : (u : ℕ) → u < unit_total night → IsPair night u (place_of place u)
  pair_of u lt =
      let serves = m.serves u (record { there = omega (arith, units night); left = in_rest u }) in
      subst (λ e. IsMatchable e (position_entry night (place_of place u))) (unit_entry_is night u lt)
      (subst (λ e. IsMatchable (entry_at (unit_entries night) u) e) (position_entry_is night (place_of place u) (place_below u lt)) serves)

pub of_place : (night : Night) (place : List ℕ) → position_total night ≡ unit_total night → IsPlace (unit_total night) place
    → ((u : ℕ) → u < unit_total night → IsPair night u (place_of place u)) → Matches night place
of_place night place same p pairs = record {
  same_length = p.rows ∙ sym (units night);
  given = λ u at.
      let lt : u < unit_total night = omega (arith, at.there, units night) in
      record { there = omega (arith, p.below u lt, same, positions night); left = in_rest (place_of place u) };
  serves = λ u at.
      let lt : u < unit_total night = omega (arith, at.there, units night) in
      subst (λ e. IsMatchable e (entry_at (position_entries night) (place_of place u))) (sym (unit_entry_is night u lt))
      (subst (λ e. IsMatchable (unit_entry night u) e) (sym (position_entry_is night (place_of place u) (omega (arith, p.below u lt, same)))) (pairs u lt));
  once = λ v at.
      let lt : v < unit_total night = omega (arith, at.there, same, positions night) in
      ap (λ (n : ℕ). count_below n (λ u. is_in_rest [] u && (place_of place u == v))) (units night)
      ∙ (given_count (unit_total night) v place ∙ (sym (counted v (unit_total night) place p.rows) ∙ p.once v lt));
}

-- ---- the filled table

entry_low : (night : Night) (u v : ℕ) (o : Option ℕ) → IsInstance night → IsEntry night u v o → or_top o ≤ top
entry_low night u v None is e = omega arith
entry_low night u v (Some share) is e = omega (arith, small night u v share is e)

entry_pair : (night : Night) (u v : ℕ) (o : Option ℕ) → IsEntry night u v o → or_top o < top → IsPair night u v
entry_pair night u v None e lt = absurd (omega arith)
entry_pair night u v (Some share) e lt = e.pair

pair_entry : (night : Night) (u v : ℕ) (o : Option ℕ) → IsInstance night → IsEntry night u v o → IsPair night u v → (or_top o ≡ unwrap_or o 0) × (or_top o ≤ 3000000000)
pair_entry night u v None is e p = absurd (e p)
pair_entry night u v (Some share) is e p = (refl, small night u v share is e)

module _ (night : Night) (t : Table) (is : IsInstance night) (shares : AreShares night t) (same : position_total night ≡ unit_total night) where
  abbrev n : ℕ
  n = unit_total night

  abbrev table : List ℕ
  table = map or_top t.entries

  cell : (u v : ℕ) → u < n → v < n → cost_at table n u v ≡ or_top (share_at t u v)
  unfolding cost_at
  cell u v ul vl =
      let wide : t.positions ≡ n = shares.positions ∙ same in
      let size : length t.entries ≡ n * n = shares.size ∙ ap (λ (m : ℕ). n * m) same in
      let inside : u * n + v < length t.entries = omega (arith, mul-add-lt u n v n ul vl, size) in
      get_or-map or_top t.entries (u * n + v) None 0 inside ∙ sym (ap (λ (w : ℕ). or_top (slice_index_or t.entries (u * w + v) None)) wide)

  entry : (u v : ℕ) → u < n → v < n → IsEntry night u v (share_at t u v)
  entry u v ul vl = shares.each u v ul (omega (arith, same))

  pub is_table : IsTable n table
  is_table = record {
    few = units_few night (opened night is);
    size = length-map t.entries or_top ∙ (shares.size ∙ ap (λ (m : ℕ). n * m) same);
    low = λ u v ul vl. omega (arith, cell u v ul vl, entry_low night u v (share_at t u v) is (entry u v ul vl));
  }

  pub low_pair : (u v : ℕ) → u < n → v < n → cost_at table n u v < top → IsPair night u v
  low_pair u v ul vl lt = entry_pair night u v (share_at t u v) (entry u v ul vl) (omega (arith, cell u v ul vl))

  pub pair_low : (u v : ℕ) → u < n → v < n → IsPair night u v → (cost_at table n u v ≡ unwrap_or (share_at t u v) 0) × (cost_at table n u v ≤ 3000000000)
  pair_low u v ul vl p =
      let e = pair_entry night u v (share_at t u v) is (entry u v ul vl) p in
      (cell u v ul vl ∙ e.0, omega (arith, cell u v ul vl, e.1))

  pub same_total : (place : List ℕ) → Matches night place → total (cost_at table n) place ≡ share_total t place
  same_total place m =
      let here = place_length night place m in
      totalled (cost_at table n) n place here
      ∙ (sum_below-same n _ _ (λ u lt. (pair_low u (place_of place u) lt (omega (arith, place_below night place m u lt, same)) (pair_of night place m u lt)).0)
      ∙ sym (ap (λ (k : ℕ). sum_below k (λ u. unwrap_or (share_at t u (place_of place u)) 0)) here))

  pub low_matching : (place : List ℕ) → Matches night place → (u : ℕ) → u < n → cost_at table n u (at place u) ≤ 3000000000
  low_matching place m u lt = (pair_low u (place_of place u) lt (omega (arith, place_below night place m u lt, same)) (pair_of night place m u lt)).1
