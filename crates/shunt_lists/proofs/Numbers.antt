-- The numbers below a bound that pass a test, as a list.
use Rattle.std.proofs.Common.{◌≡◌, ⊎_elim, ℕ, zero, suc, ◌+◌, ◌<◌, ◌≤◌, Bool, true, false, cond, List, [], ◌∷◌, ◌++◌, length, get_or, refl, sym, ap, ◌∙◌, subst, arith, length-append, replicate}
use Rattle.std.specs.List.{range_with_len, filter}
use Rattle.std.proofs.Math.ListN.{get_or-append}
use Rattle.std.proofs.Math.Seq.{get_or-append_seam}
use Rattle.std.proofs.lemmas.List.{get_or_past}
use Rattle.std.proofs.lemmas.List.Elements.{filter-append}
use Rattle.std.proofs.lemmas.Bool.{cases_lt}
use Rattle.shunt_lists.specs.defs.Below.{count_below}
use Rattle.shunt_lists.proofs.CountsBelow.{count_below-rises}

pub range_more : (a n : ℕ) → range_with_len a (suc n) ≡ range_with_len a n ++ (a + n) ∷ []
range_more a zero = ap (λ k. k ∷ []) (omega arith)
range_more a (suc n) = ap (λ ks. a ∷ ks) (range_more (a + 1) n ∙ ap (λ k. range_with_len (a + 1) n ++ k ∷ []) (omega arith))

-- the numbers below n that pass
abbrev pub passing : ℕ → (ℕ → Bool) → List ℕ
passing n p = filter p (range_with_len 0 n)

passing_more : (n : ℕ) (p : ℕ → Bool) → passing (suc n) p ≡ passing n p ++ cond (p n) (n ∷ []) []
passing_more n p = ap (filter p) (range_more 0 n ∙ ap (λ k. range_with_len 0 n ++ k ∷ []) (omega arith)) ∙ filter-append p (range_with_len 0 n) (n ∷ [])

length_one : (b : Bool) (n : ℕ) → length (cond b (n ∷ []) []) ≡ cond b 1 0
length_one true n = refl
length_one false n = refl

pub length-passing : (n : ℕ) (p : ℕ → Bool) → length (passing n p) ≡ count_below n p
length-passing zero p = refl
length-passing (suc n) p = omega (arith, ap length (passing_more n p), length-append (passing n p) (cond (p n) (n ∷ []) []), length-passing n p, length_one (p n) n)

-- a number that passes stands where as many stand before it as pass below it
pub get_or-passing : (n : ℕ) (p : ℕ → Bool) (i d : ℕ) → i < n → p i ≡ true → get_or (passing n p) (count_below i p) d ≡ i
get_or-passing zero p i d lt e = absurd (omega arith)
get_or-passing (suc n) p i d lt e =
    let longer : get_or (passing (suc n) p) (count_below i p) d ≡ get_or (passing n p ++ cond (p n) (n ∷ []) []) (count_below i p) d = ap (λ ns. get_or ns (count_below i p) d)
    (passing_more n p) in
    ⊎_elim
    (λ less.
    longer
    ∙ get_or-append (passing n p) (cond (p n) (n ∷ []) []) d (count_below i p) (omega (arith, length-passing n p, count_below-rises p i n less e))
    ∙ get_or-passing n p i d less e)
    (λ le.
    let same : i ≡ n = omega arith in
    let passes : p n ≡ true = subst (λ (k : ℕ). p k ≡ true) same e in
    longer
    ∙ ap (λ (b : Bool). get_or (passing n p ++ cond b (n ∷ []) []) (count_below i p) d) passes
    ∙ ap (λ k. get_or (passing n p ++ n ∷ []) k d) (ap (λ k. count_below k p) same ∙ sym (length-passing n p))
    ∙ get_or-append_seam (passing n p) n [] d
    ∙ sym same) (cases_lt i n)

-- what a search by rank finds, at the one with k before it and where there is none
pub found_at : (n : ℕ) (p : ℕ → Bool) (i k d : ℕ) → i < n → p i ≡ true → k ≡ count_below i p → i ≡ get_or (passing n p) k d
found_at n p i k d lt e same = sym (ap (λ r. get_or (passing n p) r d) same ∙ get_or-passing n p i d lt e)

pub found_none : (n : ℕ) (p : ℕ → Bool) (k d : ℕ) → count_below n p ≤ k → d ≡ get_or (passing n p) k d
found_none n p k d le = sym (get_or_past (passing n p) k d (omega (arith, length-passing n p)))

-- ---- a list of zeros

abbrev pub none : ℕ
none = 0

pub zero_at : (n i : ℕ) → get_or (replicate n none) i none ≡ none
zero_at zero i = refl
zero_at (suc n) zero = refl
zero_at (suc n) (suc i) = zero_at n i
