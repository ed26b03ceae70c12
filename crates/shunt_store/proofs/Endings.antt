-- How many endings stand behind a name.
use Rattle.std.proofs.Common.{◌≡◌, ◌≢◌, ⊎_elim, ℕ, zero, suc, ◌+◌, ◌-◌, ◌<◌, ◌≤◌, List, ◌++◌, All, length, take, get_or, codes, sym, ap, ◌∙◌, arith, append_assoc}
use Rattle.std.proofs.lemmas.Bool.{cases_lt}
use Rattle.std.proofs.lemmas.List.{append_cancel_right}
use Rattle.std.proofs.lemmas.List.Elements.{All-more, All-weaker}
use Rattle.shunt_store.specs.defs.Parts.{part_endings, EndsWith}

-- the first one apart
first : (n : ℕ) → part_endings (n + 1) ≡ codes ".part" ++ part_endings n
first n = let k : n + 1 ≡ suc n = omega arith in ap part_endings k

-- the last one apart
last : (n : ℕ) → part_endings (n + 1) ≡ part_endings n ++ codes ".part"
last zero = first 0
last (suc n) = first (suc n) ∙ ap (λ x. codes ".part" ++ x) (ap part_endings (is n) ∙ last n) ∙ sym (append_assoc (codes ".part") (part_endings n) (codes ".part"))
  where
    is : (n : ℕ) → suc n ≡ n + 1
    is n = omega arith

-- so many, and so many more
all_of : (m n : ℕ) → part_endings (m + n) ≡ part_endings m ++ part_endings n
all_of zero n = let k : 0 + n ≡ n = omega arith in ap part_endings k
all_of (suc m) n =
    let k : suc m + n ≡ suc (m + n) = omega arith in
    ap part_endings k ∙ ap (λ x. codes ".part" ++ x) (all_of m n) ∙ sym (append_assoc (codes ".part") (part_endings m) (part_endings n))

-- one more before the others
pub one_more : (name rest front : List ℕ) (n : ℕ) → name ≡ rest ++ part_endings n → rest ≡ front ++ codes ".part" → name ≡ front ++ part_endings (n + 1)
one_more name rest front n e f = e ∙ ap (λ x. x ++ part_endings n) f ∙ append_assoc front (codes ".part") (part_endings n) ∙ ap (λ x. front ++ x) (sym (first n))

-- one more behind the others
pub one_behind : (name target : List ℕ) (n : ℕ) → name ≡ target ++ part_endings n → name ++ codes ".part" ≡ target ++ part_endings (n + 1)
one_behind name target n e = ap (λ x. x ++ codes ".part") e ∙ append_assoc target (part_endings n) (codes ".part") ∙ ap (λ x. target ++ x) (sym (last n))

-- what is left of a name with more endings ends so too
left : (name rest front : List ℕ) (many m : ℕ) → name ≡ rest ++ part_endings many → name ≡ front ++ part_endings ((m + 1) + many)
    → rest ≡ (front ++ part_endings m) ++ codes ".part"
left name rest front many m e f =
    append_cancel_right rest (front ++ part_endings (m + 1)) (part_endings many)
    (sym e ∙ f ∙ ap (λ x. front ++ x) (all_of (m + 1) many) ∙ sym (append_assoc front (part_endings (m + 1)) (part_endings many)))
    ∙ ap (λ x. front ++ x) (last m)
    ∙ sym (append_assoc front (part_endings m) (codes ".part"))

-- there are no more than were found
pub no_more : (name rest : List ℕ) (many : ℕ) → name ≡ rest ++ part_endings many → ((front : List ℕ) → rest ≢ front ++ codes ".part") → (n : ℕ) → EndsWith name (part_endings n)
    → n ≤ many
no_more name rest many e never n (front, f) =
    ⊎_elim (λ less.
    let k : n ≡ ((n - many - 1) + 1) + many = omega (arith, less) in
    absurd (never (front ++ part_endings (n - many - 1)) (left name rest front many (n - many - 1) e (f ∙ ap (λ k. front ++ part_endings k) k))))
    (λ le. le)
    (cases_lt many n)

-- a name has fewer endings
abbrev pub HasFewer : ℕ → List ℕ → Type 0
HasFewer m name = (n : ℕ) → EndsWith name (part_endings n) → n < m

-- one name more has fewer than these
pub names_more : {A : Type 0} (bytes : A → List ℕ) (names : List A) (i free now most : ℕ) (d : A) → i < length names → All (λ x. HasFewer free (bytes x)) (take i names)
    → ((n : ℕ) → EndsWith (bytes (get_or names i d)) (part_endings n) → n ≤ most) → free ≤ now → most + 1 ≤ now → All (λ x. HasFewer now (bytes x)) (take (i + 1) names)
names_more bytes names i free now most d lt before here a b =
    let P : ℕ → _ → Type 0 = λ m x. HasFewer m (bytes x) in
    All-more (P now) names i d lt (All-weaker (P free) (P now) (λ x h n e. omega (arith, h n e, a)) (take i names) before) (λ n e. omega (arith, here n e, b))
