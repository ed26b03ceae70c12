-- Sums with stacks and bounds by them are one each.
use Rattle.std.specs.Prelude.{Option, Some, None, slice_index_or, ◌-ℤ◌, ◌≤ℤ◌}
use Rattle.std.proofs.Common.{◌≡◌, ℕ, List, [], ◌∷◌, ◌++◌, ℤ, pos, ◌+ℤ◌, sym, subst, ◌∙◌, arith}
use Rattle.std.proofs.lemmas.Int.{ints}
use Rattle.shunt_base.specs.declared.duals.Case.{Case}
use Rattle.shunt_instance.specs.defs.Instance.{Night}
use Rattle.shunt_blocks.specs.declared.records.Block.{Block}
use Rattle.shunt_prices.specs.defs.Limits.{case_at}
use Rattle.shunt_prices.specs.defs.Bounds.{IsOpenAt, IsBoundOf}
use Rattle.shunt_stacks.specs.defs.Stacks.{Stack, stack_of}
use Rattle.shunt_stacks.specs.defs.Fillings.{gain}
use Rattle.shunt_stacks.specs.defs.Bounds.{IsFall, IsChoiceSum, IsLeastBound, IsStackBound, IsChoiceBound}
use Rattle.shunt_stacks.proofs.Filled.{one_gain}
use Rattle.shunt_stacks.proofs.Rises.{one_sum}

one_fall : (night : Night) (path : List Block) (b : Block) (c : Case) (o : Option Stack) (x y : ℤ) → IsFall night path b c o x → IsFall night path b c o y → x ≡ y
one_fall night path b c None x y f g = f ∙ sym g
one_fall night path b c (Some s) x y f g = omega (arith, ints, f.4, g.4, one_gain night path c s f.0 g.0 f.2 g.2, one_gain night (path ++ b ∷ []) c s f.1 g.1 f.3 g.3)

pub one_choice_sum : (night : Night) (path : List Block) (b : Block) (cases : List Case) (k : ℕ) (x y : ℤ) → IsChoiceSum night path b cases k x
    → IsChoiceSum night path b cases k y → x ≡ y
one_choice_sum night path b cases k x y s t =
    same x y s.whole t.whole s.fall t.fall (gain night (case_at cases k) b) s.is t.is (one_sum night path cases k s.whole t.whole s.is_whole t.is_whole)
    (one_fall night path b (case_at cases k) (stack_of b.park) s.fall t.fall s.is_fall t.is_fall)
  where
    same : (x y a b c d g : ℤ) → x ≡ a +ℤ c -ℤ g → y ≡ b +ℤ d -ℤ g → a ≡ b → c ≡ d → x ≡ y
    same x y a b c d g e f h k = omega (arith, ints, e, f, h, k)

-- the least of one list of sums is at most that of another which agrees where cases are open
below : (cases : List Case) (path : List Block) (sums others : List ℤ) (x y : ℤ) → ((k : ℕ) → IsOpenAt cases path k
    → slice_index_or sums k (pos 0) ≡ slice_index_or others k (pos 0))
    → IsLeastBound cases path sums x → IsLeastBound cases path others y → x ≤ℤ y
below cases path sums others x y same h k = h.least k.number y k.opens (subst (λ (z : ℤ). IsBoundOf z y) (sym (same k.number k.opens)) k.is)

both : (x y : ℤ) → x ≤ℤ y → y ≤ℤ x → x ≡ y
both x y e f = omega (arith, ints, e, f)

pub one_bound : (night : Night) (path : List Block) (cases : List Case) (x y : ℤ) → IsStackBound night path cases x → IsStackBound night path cases y → x ≡ y
one_bound night path cases x y h k = both x y
    (below cases path h.sums k.sums x y (λ j o. one_sum night path cases j _ _ (h.are j o) (k.are j o)) h.least k.least)
    (below cases path k.sums h.sums y x (λ j o. one_sum night path cases j _ _ (k.are j o) (h.are j o)) k.least h.least)

pub one_choice : (night : Night) (path : List Block) (b : Block) (cases : List Case) (x y : ℤ) → IsChoiceBound night path b cases x → IsChoiceBound night path b cases y → x ≡ y
one_choice night path b cases x y h k = both x y
    (below cases (path ++ b ∷ []) h.sums k.sums x y (λ j o. one_choice_sum night path b cases j _ _ (h.are j o) (k.are j o)) h.least k.least)
    (below cases (path ++ b ∷ []) k.sums h.sums y x (λ j o. one_choice_sum night path b cases j _ _ (k.are j o) (h.are j o)) k.least h.least)
