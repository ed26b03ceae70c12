-- Lists of one entry and of two.
use Rattle.std.specs.Prelude.{slice_get, Some}
use Rattle.std.proofs.Common.{◌≡◌, ℕ, ◌≤◌, List, [], ◌∷◌, length, sym, ap, ◌∙◌, arith}
use Rattle.shunt_lists.proofs.Options.{some_same as is_some}

pub one_of : {X : Type 0} (xs : List X) (x : X) → length xs ≡ 1 → slice_get xs 0 ≡ Some x → x ∷ [] ≡ xs
one_of [] x long at = absurd (omega (arith, long))
one_of {X} (y ∷ []) x long at = ap (λ (z : X). z ∷ []) (sym (is_some y x at))
one_of (y ∷ z ∷ xs) x long at = absurd (omega (arith, long))

pub two_of : {X : Type 0} (xs : List X) (x y : X) → length xs ≤ 2 → slice_get xs 0 ≡ Some x → slice_get xs 1 ≡ Some y → x ∷ y ∷ [] ≡ xs
two_of [] x y long at next = cc
two_of (a ∷ []) x y long at next = cc
two_of {X} (a ∷ b ∷ []) x y long at next = ap (λ (z : X). z ∷ y ∷ []) (sym (is_some a x at)) ∙ ap (λ (z : X). a ∷ z ∷ []) (sym (is_some b y next))
two_of (a ∷ b ∷ c ∷ xs) x y long at next = absurd (omega (arith, long))

pub few_of : {X : Type 0} (xs : List X) (count : ℕ) → count ≡ length xs → count ≤ 2 → length xs ≤ 2
few_of xs count is few = omega (arith, is, few)
