-- A path has a sum with stacks in each case, and a bound; so has a choice.
use Rattle.std.specs.Prelude.{map, slice_index_or, Option, Some, None, ◌-ℤ◌}
use Rattle.std.specs.List.{AllZip, range_with_len}
use Rattle.std.proofs.Common.{ℕ, ◌<◌, ◌≤◌, List, [], ◌∷◌, ◌++◌, length, ℤ, pos, ◌+ℤ◌, refl, sym, subst, arith}
use Rattle.std.proofs.lemmas.List.FromFn.{get_or-map-range_with_len}
use Rattle.shunt_base.specs.declared.duals.Case.{Case}
use Rattle.shunt_instance.specs.defs.Instance.{Night}
use Rattle.shunt_blocks.specs.declared.records.Block.{Block}
use Rattle.shunt_prices.specs.defs.Sums.{sum_z}
use Rattle.shunt_prices.specs.defs.Limits.{case_at}
use Rattle.shunt_prices.specs.defs.Bounds.{case_sum}
use Rattle.shunt_stacks.specs.defs.Stacks.{Stack, stacks, stack_of}
use Rattle.shunt_stacks.specs.defs.Fillings.{gain, IsStackGain}
use Rattle.shunt_stacks.specs.defs.Bounds.{IsStackSum, IsFall, IsChoiceSum, IsStackBound, IsChoiceBound}
use Rattle.shunt_stacks.proofs.Least.{least_there}

-- the values of a function at the numbers of the cases
module _ (P : ℕ → ℤ → Type 0) (n : ℕ) (any : (k : ℕ) → (z : ℤ) × P k z) where
  abbrev pub values : List ℤ
  values = map (λ k. (any k).0) (range_with_len 0 n)

  pub value_at : (k : ℕ) → k < n → P k (slice_index_or values k (pos 0))
  value_at k lt = subst (P k) (sym (get_or-map-range_with_len (λ j. (any j).0) 0 n k k (pos 0) lt (omega arith))) (any k).1

-- every stack has a gain at these blocks
abbrev pub HasGains : Night → List Block → Type 0
HasGains night path = (c : Case) (stack : Stack) → (most : ℤ) × IsStackGain night path c stack most

module _ (night : Night) (path : List Block) (has : HasGains night path) where
  pub gains_there : (c : Case) (ss : List Stack) → (gains : List ℤ) × AllZip (IsStackGain night path c) ss gains
  gains_there c [] = ([], tt)
  gains_there c (s ∷ ss) = let g = has c s in let rest = gains_there c ss in (g.0 ∷ rest.0, (g.1, rest.1))

  pub sum_there : (cases : List Case) (k : ℕ) → (sum : ℤ) × IsStackSum night path cases k sum
  sum_there cases k = let g = gains_there (case_at cases k) (stacks night.station) in
      (case_sum night path cases k -ℤ sum_z (λ z. z) g.0, record { gains = g.0; are = g.1; is = refl })

  pub bound_there : (cases : List Case) → 1 ≤ length cases → (bound : ℤ) × IsStackBound night path cases bound
  bound_there cases some =
      let sums = values (IsStackSum night path cases) (length cases) (sum_there cases) in
      let least = least_there cases path sums some in
      (least.0, record { sums = sums; are = λ k o. value_at (IsStackSum night path cases) (length cases) (sum_there cases) k o.there; least = least.1 })

module _ (night : Night) (path : List Block) (b : Block) (has : HasGains night path) (then : HasGains night (path ++ b ∷ [])) where
  fall_there : (c : Case) (o : Option Stack) → (fall : ℤ) × IsFall night path b c o fall
  fall_there c None = (pos 0, refl)
  fall_there c (Some s) = let g = has c s in let h = then c s in (g.0 -ℤ h.0, (g.0, h.0, g.1, h.1, refl))

  pub choice_sum_there : (cases : List Case) (k : ℕ) → (sum : ℤ) × IsChoiceSum night path b cases k sum
  choice_sum_there cases k =
      let whole = sum_there night path has cases k in
      let fall = fall_there (case_at cases k) (stack_of b.park) in
      (whole.0 +ℤ fall.0 -ℤ gain night (case_at cases k) b, record { whole = whole.0; is_whole = whole.1; fall = fall.0; is_fall = fall.1; is = refl })

  pub choice_there : (cases : List Case) → 1 ≤ length cases → (bound : ℤ) × IsChoiceBound night path b cases bound
  choice_there cases some =
      let sums = values (IsChoiceSum night path b cases) (length cases) (choice_sum_there cases) in
      let least = least_there cases (path ++ b ∷ []) sums some in
      (least.0, record { sums = sums; are = λ k o. value_at (IsChoiceSum night path b cases) (length cases) (choice_sum_there cases) k o.there; least = least.1 })
