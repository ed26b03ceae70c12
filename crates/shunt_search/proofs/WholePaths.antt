-- Whole paths: blocks that share nothing and have all units have all positions too, where there are as many of both.
use Rattle.std.specs.Prelude.{not, nat_le, nat_lt, ◌&&◌, count_by, sum_by, cond, None}
use Rattle.std.proofs.Common.{◌≡◌, inl, inr, ⊎_elim, ℕ, zero, suc, ◌+◌, ◌<◌, ◌≤◌, Bool, true, false, List, [], ◌∷◌, refl, sym, subst, ap, ◌∙◌, arith}
use Rattle.std.proofs.lemmas.Bool.{cases_lt, not-false}
use Rattle.std.proofs.lemmas.Bool.Decides.{nat_tests}
use Rattle.std.proofs.lemmas.List.Sums.{sum_by-cons}
use Rattle.shunt_lists.specs.defs.Below.{sum_below, count_below}
use Rattle.shunt_lists.specs.defs.Members.{In}
use Rattle.shunt_lists.proofs.SumsBelow.{sum_below-same, sum_below-zero, sum_below-add, sum_below-times, sum_below-small}
use Rattle.shunt_lists.proofs.CountsBelow.{count_below-none, count_below-stops, count_below-more}
use Rattle.shunt_instance.specs.defs.Instance.{Night, unit_total, position_total}
use Rattle.shunt_blocks.specs.declared.records.Block.{Block}
use Rattle.shunt_blocks.specs.defs.Shapes.{shape_of, unit_from, position_from, IsInRange}
use Rattle.shunt_blocks.specs.defs.Lists.{times_unit, times_position, ShareNothing, Covers}
use Rattle.shunt_choices.specs.defs.Paths.{Masks, Trail, IsTrailOf, masks_of, next_of}
use Rattle.shunt_choices.proofs.Given.{PlaceLaws}
use Rattle.shunt_choices.proofs.Trails.{length_units, unit_end, position_end}
use Rattle.shunt_lists.proofs.Members.{each_one as of_all}
use Rattle.shunt_lists.proofs.Lists.{none_passes, count_some as taken}

-- ---- numbers in a run

abbrev worth : Bool → ℕ
worth t = cond t 1 0

module _ (from many : ℕ) where
  up : (k : ℕ) → k ≤ many → count_below (from + k) (λ u. nat_le from u && nat_lt u (from + many)) ≡ k
  up zero le =
      let e : from + 0 ≡ from = omega arith in
      ap (λ m. count_below m (λ u. nat_le from u && nat_lt u (from + many))) e ∙ count_below-none from (λ u. nat_le from u && nat_lt u (from + many)) (λ i lt. before i lt)
    where
      before : (i : ℕ) → i < from → (nat_le from i && nat_lt i (from + many)) ≡ false
      before i lt = grind (arith, nat_tests)
  up (suc k) le =
      let e : from + suc k ≡ (from + k) + 1 = omega arith in
      let one : worth (nat_le from (from + k) && nat_lt (from + k) (from + many)) ≡ 1 = ap worth within in
      let more = count_below-more (from + k) (λ u. nat_le from u && nat_lt u (from + many)) in
      let known = up k (omega (arith, le)) in
      ap (λ m. count_below m (λ u. nat_le from u && nat_lt u (from + many))) e ∙ omega (arith, more, one, known)
    where
      within : (nat_le from (from + k) && nat_lt (from + k) (from + many)) ≡ true
      within = grind (arith, nat_tests)

  run_count : (n : ℕ) → from + many ≤ n → count_below n (λ u. nat_le from u && nat_lt u (from + many)) ≡ many
  run_count n le = count_below-stops (from + many) n (λ u. nat_le from u && nat_lt u (from + many)) le (λ i past lt. beyond i past) ∙ up many (omega arith)
    where
      beyond : (i : ℕ) → from + many ≤ i → (nat_le from i && nat_lt i (from + many)) ≡ false
      beyond i past = grind (arith, nat_tests)

-- ---- sums of counts

count_more : (test : Block → Bool) (b : Block) (blocks : List Block) → count_by test (b ∷ blocks) ≡ worth (test b) + count_by test blocks
count_more test b blocks = sum_by-cons (λ x. worth (test x)) b blocks

-- the counts of runs add up to their lengths
counts_sum : (n : ℕ) (from : Block → ℕ) (blocks : List Block) → ((b : Block) → In b blocks → from b + b.n ≤ n)
    → sum_below n (λ u. count_by (λ b. nat_le (from b) u && nat_lt u (from b + b.n)) blocks) ≡ sum_by (λ b. b.n) blocks
counts_sum n from [] within = sum_below-zero n (λ u. count_by (λ b. nat_le (from b) u && nat_lt u (from b + b.n)) []) (λ i lt. refl)
counts_sum n from (b ∷ blocks) within =
    let split = sum_below-same n (λ u. count_by (λ x. nat_le (from x) u && nat_lt u (from x + x.n)) (b ∷ blocks))
    (λ u. worth (nat_le (from b) u && nat_lt u (from b + b.n)) + count_by (λ x. nat_le (from x) u && nat_lt u (from x + x.n)) blocks)
    (λ u lt. count_more (λ x. nat_le (from x) u && nat_lt u (from x + x.n)) b blocks) in
    let add = sum_below-add n (λ u. worth (nat_le (from b) u && nat_lt u (from b + b.n))) (λ u. count_by (λ x. nat_le (from x) u && nat_lt u (from x + x.n)) blocks) in
    let first = sum_below-times n (λ u. nat_le (from b) u && nat_lt u (from b + b.n)) 1 in
    let own = run_count (from b) b.n n (within b (inl refl)) in
    let rest = counts_sum n from blocks (λ x i. within x (inr i)) in
    let all = sum_by-cons (λ (x : Block). x.n) b blocks in
    omega (arith, split, add, first, own, rest, all)

-- where counts of at most one add up to as many as there are, each is one
each_one : (n : ℕ) (f : ℕ → ℕ) → ((i : ℕ) → f i ≤ 1) → sum_below n f ≡ n → (i : ℕ) → i < n → f i ≡ 1
each_one zero f most all i lt = absurd (omega (arith, lt))
each_one (suc n) f most all i lt =
    let few = sum_below-small n 1 f most in
    let last = most n in
    let front : sum_below n f ≡ n = omega (arith, all, few, last) in
    ⊎_elim (λ before. each_one n f most front i before) (λ past. let same : n ≡ i = omega (arith, past, lt) in let one : f n
    ≡ 1 = omega (arith, all, few, last) in subst (λ m. f m ≡ 1) same one) (cases_lt i n)

all_ones : (n : ℕ) (f : ℕ → ℕ) → ((i : ℕ) → i < n → f i ≡ 1) → sum_below n f ≡ n
all_ones zero f one = refl
all_ones (suc n) f one = let rest = all_ones n f (λ i lt. one i (omega (arith, lt))) in let last = one n (omega arith) in omega (arith, rest, last)

-- ---- whole paths

module _ (night : Night) (path : List Block) (apart : ShareNothing night path) (whole : next_of (masks_of night path) ≡ None) (same : position_total night ≡ unit_total night)
    (units : (b : Block) → In b path → unit_from night (shape_of b) + b.n ≤ unit_total night) (positions : (b : Block) → In b path
    → position_from night (shape_of b) + b.n ≤ position_total night) where
  each_unit : (u : ℕ) → u < unit_total night → times_unit night path u ≡ 1
  each_unit u lt =
      let passes = none_passes (λ c. not c) (masks_of night path).units u false whole (omega (arith, lt, length_units night path)) in
      let some = taken (times_unit night path) (unit_total night) u false lt (not-false _ passes) in
      let most = apart.units u in
      omega (arith, some, most)

  pub covers_all : Covers night path
  covers_all =
      let ones = all_ones (unit_total night) (times_unit night path) each_unit in
      let by_units = counts_sum (unit_total night) (λ b. unit_from night (shape_of b)) path units in
      let by_positions = counts_sum (position_total night) (λ b. position_from night (shape_of b)) path positions in
      let all : sum_below (position_total night) (times_position night path) ≡ position_total night = omega (arith, ones, by_units, by_positions, same) in
      record { units = each_unit; positions = λ v lt. each_one (position_total night) (times_position night path) apart.positions all v lt }

pub covers_trail : PlaceLaws → (night : Night) (t : Trail) → IsTrailOf night t → next_of t.covered ≡ None → position_total night ≡ unit_total night → Covers night t.blocks
covers_trail laws night t of whole same = covers_all night t.blocks of.apart (ap (λ (m : Masks). next_of m) (sym of.covered) ∙ whole) same
    (λ b i. unit_end laws night b (of_all (IsInRange night) t.blocks b of.each i))
    (λ b i. position_end laws night b (of_all (IsInRange night) t.blocks b of.each i))
