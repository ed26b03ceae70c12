-- Which blocks hold what.
use Rattle.std.specs.Prelude.{cond, count_by}
use Rattle.std.proofs.Common.{◌≡◌, ◌⊎◌, ⊎_elim, inl, inr, ℕ, ◌+◌, ◌≤◌, Bool, true, false, List, [], ◌∷◌, ◌++◌, refl, sym, ap, ◌∙◌, arith}
use Rattle.std.proofs.lemmas.List.Sums.{sum_by-cons}
use Rattle.shunt_lists.specs.defs.Members.{In}
use Rattle.shunt_blocks.specs.declared.records.Block.{Block}
use Rattle.shunt_blocks.specs.defs.Pins.{Keeps}

one_first : {X : Type 0} (test : X → Bool) (x : X) (xs : List X) → count_by test (x ∷ xs) ≡ cond (test x) 1 0 + count_by test xs
one_first test x xs = sum_by-cons (λ y. cond (test y) 1 0) x xs

counted_one : (t : Bool) → t ≡ true → 1 ≤ cond t 1 0
counted_one t e = let one : cond t 1 0 ≡ 1 = ap {B = ℕ} (λ s. cond s 1 0) e in omega (arith, one)

pub held : {X : Type 0} (test : X → Bool) (xs : List X) (x : X) → In x xs → test x ≡ true → 1 ≤ count_by test xs
held test [] x there has = absurd there
held test (y ∷ xs) x there has = ⊎_elim
    (λ same. omega (arith, one_first test y xs, counted_one (test y) (ap test (sym same) ∙ has)))
    (λ later. omega (arith, one_first test y xs, held test xs x later has))
    there

pub holder : {X : Type 0} (test : X → Bool) (xs : List X) → 1 ≤ count_by test xs → (x : X) × In x xs × (test x ≡ true)
holder test [] some = absurd (omega (arith, some))
holder {X} test (y ∷ xs) some = at (test y) refl (λ more. holder test xs more)
  where
    at : (t : Bool) → test y ≡ t → (1 ≤ count_by test xs → (x : X) × In x xs × (test x ≡ true)) → (x : X) × In x (y ∷ xs) × (test x ≡ true)
    at true e later = (y, inl refl, e)
    at false e later = let none : cond (test y) 1 0 ≡ 0 = ap {B = ℕ} (λ s. cond s 1 0) e in let more = later (omega (arith, some, one_first test y xs, none)) in
        (more.0, inr more.1, more.2)

pub one_holder : {X : Type 0} (test : X → Bool) (xs : List X) (x y : X) → count_by test xs ≤ 1 → In x xs → In y xs → test x ≡ true → test y ≡ true → x ≡ y
one_holder test [] x y few i j e f = absurd i
one_holder test (z ∷ xs) x y few (inl a) (inl b) e f = a ∙ sym b
one_holder test (z ∷ xs) x y few (inl a) (inr j) e f = absurd (omega (arith, few, one_first test z xs, counted_one (test z) (ap test (sym a) ∙ e), held test xs y j f))
one_holder test (z ∷ xs) x y few (inr i) (inl b) e f = absurd (omega (arith, few, one_first test z xs, counted_one (test z) (ap test (sym b) ∙ f), held test xs x i e))
one_holder test (z ∷ xs) x y few (inr i) (inr j) e f = one_holder test xs x y (omega (arith, few, one_first test z xs)) i j e f

-- a list is empty or ends with an element
pub ends : {X : Type 0} (xs : List X) → (xs ≡ []) ⊎ ((front : List X) × (last : X) × (xs ≡ front ++ last ∷ []))
ends [] = inl refl
ends (x ∷ xs) = ⊎_elim
    (λ none. inr ([], x, ap (λ ys. x ∷ ys) none))
    (λ some. inr (x ∷ some.0, some.1, ap (λ ys. x ∷ ys) some.2))
    (ends xs)

pub keeps_none : (blocks : List Block) → Keeps blocks []
keeps_none blocks = λ k d lt. absurd (omega (arith, lt))
