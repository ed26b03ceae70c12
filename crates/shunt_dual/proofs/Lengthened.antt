-- What cases come to at a path with one block more.
use Rattle.std.specs.Prelude.{Some, slice_get, is_none, cond, nat_le, ◌-ℤ◌, All}
use Rattle.std.proofs.Common.{◌≡◌, ⊎_elim, ℕ, ◌+◌, ◌<◌, ◌≤◌, Bool, true, false, List, [], ◌∷◌, ◌++◌, length, get_or, ℤ, pos, ◌+ℤ◌, sym, ap, subst, ◌∙◌, arith}
use Rattle.std.proofs.lemmas.Bool.{cases_lt}
use Rattle.std.proofs.lemmas.Bool.Decides.{nat_tests}
use Rattle.std.proofs.lemmas.List.{get_or_default}
use Rattle.std.proofs.lemmas.List.Elements.{All-append, All-cons, All-nil}
use Rattle.std.proofs.lemmas.List.Sums.{sum_by-append}
use Rattle.std.proofs.Math.ListN.{get_or-append}
use Rattle.std.proofs.Math.Seq.{get_or-append_seam}
use Rattle.shunt_base.specs.declared.duals.Case.{Case}
use Rattle.shunt_instance.specs.defs.Instance.{Night}
use Rattle.shunt_blocks.specs.declared.records.Block.{Block}
use Rattle.shunt_blocks.specs.defs.Shapes.{shape_of}
use Rattle.shunt_prices.specs.defs.Sums.{IsWithin}
use Rattle.shunt_prices.specs.defs.Limits.{case_at, from_of}
use Rattle.shunt_prices.specs.defs.Cases.{duals_over, weight}
use Rattle.shunt_prices.specs.defs.Bounds.{sum_at, case_sum, unparked_in}
use Rattle.shunt_dual.specs.declared.longer.PathSums.{PathSums}
use Rattle.shunt_dual.specs.defs.Longer.{AreSums, AreSumsAt, one_unparked}
use Rattle.shunt_dual.specs.defs.Weighed.{case_of}
use Rattle.shunt_prices.proofs.Counts.{got}

-- ---- one sum more

pub one_more : (P : ℤ → Type 0) (xs ys : List ℤ) (z : ℤ) → ys ≡ xs ++ z ∷ [] → All P xs → P z → All P ys
one_more P xs ys z e all p = subst (λ (l : List ℤ). All P l) (sym e) (All-append P xs (z ∷ []) all (All-cons P z [] p (All-nil P)))

pub each_more : (f : ℕ → ℤ) (n : ℕ) (xs ys : List ℤ) (z : ℤ) → ys ≡ xs ++ z ∷ [] → length xs ≡ n → z ≡ f n → ((j : ℕ) → j < n → get_or xs j (pos 0) ≡ f j) → (j : ℕ) → j < n + 1
    → get_or ys j (pos 0) ≡ f j
each_more f n xs ys z e long is before j lt =
    ap (λ (l : List ℤ). get_or l j (pos 0)) e
    ∙ ⊎_elim (λ (less : j < n). get_or-append xs (z ∷ []) (pos 0) j (omega (arith, less, long)) ∙ before j less)
    (λ (past : n ≤ j).
    let at : j ≡ n = omega (arith, past, lt) in
    subst (λ (i : ℕ). get_or (xs ++ z ∷ []) i (pos 0) ≡ f i) (sym at) (subst (λ (i : ℕ). get_or (xs ++ z ∷ []) i (pos 0) ≡ f n) long (get_or-append_seam xs z [] (pos 0) ∙ is)))
    (cases_lt j n)

-- ---- a block more

pub grown : (night : Night) (path : List Block) (b : Block) (cases : List Case) (k : ℕ) (case : Case) (m s g z : ℤ) → slice_get cases k ≡ Some case → m ≡ case.multiplier
    → s ≡ case_sum night path cases k
    → g ≡ weight night (case_of m case.duals) b -ℤ duals_over night case.duals (shape_of b)
    → sum_at night (path ++ b ∷ []) (from_of cases k) (case_at cases k) ≡ sum_at night path (from_of cases k) (case_at cases k) +ℤ
    (weight night (case_at cases k) b -ℤ duals_over night (case_at cases k).duals (shape_of b))
    → z ≡ s +ℤ g → z ≡ case_sum night (path ++ b ∷ []) cases k
grown night path b cases k case m s g z at same is gains step e =
    let own : g ≡ weight night case b -ℤ duals_over night case.duals (shape_of b) =
    subst (λ (x : ℤ). g ≡ weight night (record { to = case.to; multiplier = x; duals = case.duals }) b -ℤ duals_over night case.duals (shape_of b)) same gains in
    let gained : g ≡ weight night (case_at cases k) b -ℤ duals_over night (case_at cases k).duals (shape_of b) =
    subst (λ (c : Case). g ≡ weight night c b -ℤ duals_over night c.duals (shape_of b)) (sym (got cases k case at)) own in
    e ∙ ap (λ (x : ℤ). x +ℤ g) is ∙ ap (λ (x : ℤ). case_sum night path cases k +ℤ x) gained ∙ sym step

pub sum_small : (cases : List Case) (s : PathSums) (k : ℕ) (z : ℤ) → AreSums cases s → k < length cases → z ≡ get_or s.sums.items k z → IsWithin 4010000000000000000 z
sum_small cases s k z are lt e = subst (IsWithin 4010000000000000000) (sym e) (are.small k z (let many = are.many in omega (arith, lt, many)))

pub sum_there : (night : Night) (path : List Block) (cases : List Case) (s : PathSums) (k : ℕ) (z : ℤ) → AreSumsAt night path cases s → k < length cases
    → z ≡ get_or s.sums.items k z → z ≡ case_sum night path cases k
sum_there night path cases s k z are lt e = e ∙ get_or_default s.sums.items k z (pos 0) (let many = are.sums.many in omega (arith, lt, many)) ∙ are.each k lt

pub more_unparked : (path : List Block) (b : Block) → unparked_in (path ++ b ∷ []) ≡ unparked_in path + one_unparked b
more_unparked path b = omega (arith, sum_by-append (λ (c : Block). cond (is_none c.park) 1 0) path (b ∷ []))

pub unparked_now : (night : Night) (path : List Block) (cases : List Case) (s : PathSums) (b : Block) → AreSumsAt night path cases s
    → unparked_in (path ++ b ∷ []) ≡ s.unparked + one_unparked b
unparked_now night path cases s b are = more_unparked path b ∙ ap (λ n. n + one_unparked b) (sym are.unparked)

-- ---- tests

pub is_few : (n to : ℕ) (t : Bool) → t ≡ nat_le n to → t ≡ true → n ≤ to
is_few n to t e passes = let both = sym e ∙ passes in grind (arith, nat_tests)

pub is_many : (n to : ℕ) (t : Bool) → t ≡ nat_le n to → t ≡ false → to < n
is_many n to t e fails = let both = sym e ∙ fails in grind (arith, nat_tests)
