-- The opening cost is that of every matching of the rest.
use Rattle.std.specs.Prelude.{◌==◌, ◌&&◌, not, cond}
use Rattle.std.proofs.Common.{◌≡◌, ⊎_elim, ℕ, zero, suc, ◌+◌, ◌*◌, ◌<◌, ◌≤◌, Bool, true, false, List, [], ◌∷◌, ◌++◌, length, refl, sym, ap, ◌∙◌, arith}
use Rattle.std.proofs.lemmas.Bool.{cases_lt, true≢false}
use Rattle.std.proofs.lemmas.Bool.Decides.{nat_tests}
use Rattle.std.proofs.Math.Nat.{mul-suc}
use Rattle.std.proofs.lemmas.List.{length-map}
use Rattle.std.proofs.lemmas.List.Sums.{sum_by-append}
use Rattle.std.proofs.lemmas.List.FromFn.{get_or-map-range_with_len}
use Rattle.shunt_lists.proofs.CountsBelow.{count_below-same}
use Rattle.shunt_lists.proofs.SumsBelow.{sum_below-same, sum_below-add, exchange}
use Rattle.shunt_lists.specs.defs.Below.{count_below, sum_below}
use Rattle.shunt_instance.specs.defs.Instance.{Night, units_of, positions_of, unit_total, position_total}
use Rattle.shunt_instance.specs.defs.Matching.{is_in_rest, place_of, IsMatchingOfRest, unit_entries, position_entries}
use Rattle.shunt_blocks.specs.declared.records.Block.{Block}
use Rattle.shunt_blocks.specs.defs.Costs.{block_cost}
use Rattle.shunt_blocks.specs.defs.Lists.{times_unit, times_position, total_cost, units_taken, positions_taken}
use Rattle.shunt_blocks.specs.defs.Pins.{unit_price, position_price, opening_cost, single, singles_below, singles}

-- ---- sums of numbers below one

pub no_sum : (n : ℕ) → sum_below n (λ i. 0) ≡ 0
no_sum zero = refl
no_sum (suc n) = omega (arith, no_sum n)

-- of the numbers below n only w counts
past_pick : (n w : ℕ) (f : ℕ → ℕ) → n ≤ w → sum_below n (λ v. cond (w == v) (f v) 0) ≡ 0
past_pick zero w f le = refl
past_pick (suc n) w f le = let none : (w == n) ≡ false = grind (arith, nat_tests, le) in omega (arith, past_pick n w f (omega (arith, le)), ap (λ t. cond t (f n) 0) none)

pub pick : (n w : ℕ) (f : ℕ → ℕ) → w < n → sum_below n (λ v. cond (w == v) (f v) 0) ≡ f w
pick zero w f lt = absurd (omega (arith, lt))
pick (suc n) w f lt = ⊎_elim
    (λ less. let none : (w == n) ≡ false = grind (arith, nat_tests, less) in omega (arith, pick n w f less, ap (λ t. cond t (f n) 0) none))
    (λ ge. let same : w ≡ n = omega (arith, lt, ge) in let one : (w == n) ≡ true = grind (arith, nat_tests, same) in
    omega (arith, past_pick n w f ge, ap (λ t. cond t (f n) 0) one, ap f same))
    (cases_lt w n)

counted : (n c : ℕ) (test : ℕ → Bool) → sum_below n (λ i. cond (test i) c 0) ≡ c * count_below n test
counted zero c test = omega arith
counted (suc n) c test = one (test n) (sum_below n (λ i. cond (test i) c 0)) (count_below n test) (counted n c test)
  where
    one : (t : Bool) (sum count : ℕ) → sum ≡ c * count → sum + cond t c 0 ≡ c * (count + cond t 1 0)
    one true sum count e = ap (λ s. s + c) e ∙ sym (mul-suc c count) ∙ ap (λ k. c * k) (let more : suc count ≡ count + 1 = omega arith in more)
    one false sum count e = let same : sum + 0 ≡ sum = omega arith in same ∙ e ∙ ap (λ k. c * k) (let more : count ≡ count + 0 = omega arith in more)

-- ---- a sum over what is given is that over what is there

-- where each i that passes is given a place that passes, and each such place is given once
bijection : (n m : ℕ) (from to : ℕ → Bool) (place : ℕ → ℕ) (f : ℕ → ℕ)
    → ((i : ℕ) → i < n → from i ≡ true → (place i < m) × (to (place i) ≡ true))
    → ((j : ℕ) → j < m → to j ≡ true → count_below n (λ i. from i && (place i == j)) ≡ 1)
    → sum_below n (λ i. cond (from i) (f (place i)) 0) ≡ sum_below m (λ j. cond (to j) (f j) 0)
bijection n m from to place f given once =
    sum_below-same n _ _ spread
    ∙ exchange n m (λ i j. cond (from i && (place i == j)) (f j) 0)
    ∙ sum_below-same m _ _ gathered
  where
    spread_at : (t : Bool) (i : ℕ) → from i ≡ t → i < n → cond t (f (place i)) 0 ≡ sum_below m (λ j. cond (t && (place i == j)) (f j) 0)
    spread_at true i e lt = sym (pick m (place i) f (given i lt e).0)
    spread_at false i e lt = sym (no_sum m)

    spread : (i : ℕ) → i < n → cond (from i) (f (place i)) 0 ≡ sum_below m (λ j. cond (from i && (place i == j)) (f j) 0)
    spread i lt = spread_at (from i) i refl lt

    not_given : (t s : Bool) (k j : ℕ) → from k ≡ t → (place k == j) ≡ s → k < n → to j ≡ false → (t && s) ≡ false
    not_given false s k j is same lt e = refl
    not_given true false k j is same lt e = refl
    not_given true true k j is same lt e = let at : place k ≡ j = grind (arith, nat_tests, same) in absurd (true≢false (sym (given k lt is).1 ∙ ap to at ∙ e))

    none_at : (k : ℕ) (j : ℕ) → k ≤ n → to j ≡ false → count_below k (λ i. from i && (place i == j)) ≡ 0
    none_at zero j le e = refl
    none_at (suc k) j le e = omega (arith, none_at k j (omega (arith, le)) e, ap {B = ℕ} (λ t. cond t 1 0) (not_given (from k) (place k == j) k j refl refl (omega (arith, le)) e))

    gathered_at : (t : Bool) (j : ℕ) → to j ≡ t → j < m → sum_below n (λ i. cond (from i && (place i == j)) (f j) 0) ≡ cond t (f j) 0
    gathered_at true j e lt = counted n (f j) (λ i. from i && (place i == j)) ∙ ap (λ c. f j * c) (once j lt e) ∙ omega arith
    gathered_at false j e lt = counted n (f j) (λ i. from i && (place i == j)) ∙ ap (λ c. f j * c) (none_at n j (omega arith) e) ∙ omega arith

    gathered : (j : ℕ) → j < m → sum_below n (λ i. cond (from i && (place i == j)) (f j) 0) ≡ cond (to j) (f j) 0
    gathered j lt = gathered_at (to j) j refl lt

-- ---- what the singles cost

pub single_cost : (night : Night) (u v : ℕ) → block_cost night (single night u v) ≡ unit_price night u + position_price night v
single_cost night u v = omega arith

singles_cost : (night : Night) (pins : List Block) (place : List ℕ) (n : ℕ) → total_cost night (singles_below night pins place n)
    ≡ sum_below n (λ u. cond (times_unit night pins u == 0) (unit_price night u + position_price night (place_of place u)) 0)
singles_cost night pins place zero = refl
singles_cost night pins place (suc n) = omega (
  arith,
  sum_by-append (block_cost night) (singles_below night pins place n) (last (times_unit night pins n == 0)),
  singles_cost night pins place n,
  costs (times_unit night pins n == 0),
)
  where
    last : Bool → List Block
    last t = cond t (single night n (place_of place n) ∷ []) []

    costs : (t : Bool) → total_cost night (last t) ≡ cond t (unit_price night n + position_price night (place_of place n)) 0
    costs true = omega (arith, single_cost night n (place_of place n))
    costs false = refl

pub parted : (n : ℕ) (test : ℕ → Bool) (f g : ℕ → ℕ) → sum_below n (λ u. cond (test u) (f u + g u) 0)
    ≡ sum_below n (λ u. cond (test u) (f u) 0) + sum_below n (λ u. cond (test u) (g u) 0)
parted n test f g = sum_below-same n _ _ (λ u lt. each (test u) (f u) (g u)) ∙ sum_below-add n (λ u. cond (test u) (f u) 0) (λ u. cond (test u) (g u) 0)
  where
    each : (t : Bool) (x y : ℕ) → cond t (x + y) 0 ≡ cond t x 0 + cond t y 0
    each true x y = refl
    each false x y = refl

-- the numbers that the masks leave are those that no pin has
pub rest_units : (night : Night) (pins : List Block) (u : ℕ) → u < unit_total night → is_in_rest (units_taken night pins) u ≡ (times_unit night pins u == 0)
rest_units night pins u lt = ap not (get_or-map-range_with_len (λ k. not (times_unit night pins k == 0)) 0 (unit_total night) u u false lt (omega arith))
    ∙ twice (times_unit night pins u == 0)
  where
    twice : (b : Bool) → not (not b) ≡ b
    twice true = refl
    twice false = refl

pub rest_positions : (night : Night) (pins : List Block) (v : ℕ) → v < position_total night → is_in_rest (positions_taken night pins) v ≡ (times_position night pins v == 0)
rest_positions night pins v lt = ap not (get_or-map-range_with_len (λ k. not (times_position night pins k == 0)) 0 (position_total night) v v false lt (omega arith))
    ∙ twice (times_position night pins v == 0)
  where
    twice : (b : Bool) → not (not b) ≡ b
    twice true = refl
    twice false = refl

pub one_cost : (night : Night) (pins : List Block) (place : List ℕ) → IsMatchingOfRest (unit_entries night) (position_entries night) (units_taken night pins)
    (positions_taken night pins) place → total_cost night (pins ++ singles night pins place) ≡ opening_cost night pins
one_cost night pins place m =
    omega (
      arith,
      sum_by-append (block_cost night) pins (singles night pins place),
      singles_cost night pins place (unit_total night),
      parted (unit_total night) free_unit (unit_price night) (λ u. position_price night (place_of place u)),
      bijection (unit_total night) (position_total night) free_unit free_position (place_of place) (position_price night) given once,
    )
  where
    free_unit : ℕ → Bool
    free_unit u = times_unit night pins u == 0

    free_position : ℕ → Bool
    free_position v = times_position night pins v == 0

    units : length (unit_entries night) ≡ unit_total night
    units = length-map (units_of night.arrive) _

    positions : length (position_entries night) ≡ position_total night
    positions = length-map (positions_of night.depart) _

    given : (u : ℕ) → u < unit_total night → free_unit u ≡ true → (place_of place u < position_total night) × (free_position (place_of place u) ≡ true)
    given u lt free =
        let at = m.given u (record { there = omega (arith, lt, units); left = rest_units night pins u lt ∙ free }) in
        let within : place_of place u < position_total night = omega (arith, at.there, positions) in
        (within, sym (rest_positions night pins (place_of place u) within) ∙ at.left)

    once : (v : ℕ) → v < position_total night → free_position v ≡ true → count_below (unit_total night) (λ u. free_unit u && (place_of place u == v)) ≡ 1
    once v lt free =
        count_below-same (unit_total night) _ _ (λ u in_night. ap (λ t. t && (place_of place u == v)) (sym (rest_units night pins u in_night)))
        ∙ ap (λ n. count_below n (λ u. is_in_rest (units_taken night pins) u && (place_of place u == v))) (sym units)
        ∙ m.once v (record { there = omega (arith, lt, positions); left = rest_positions night pins v lt ∙ free })
