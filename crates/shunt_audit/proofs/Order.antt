-- Lists of findings in their order.
use Rattle.std.proofs.Common.{◌≡◌, ◌⊎◌, inl, inr, ⊎_elim, ◌↔◌, ℕ, zero, suc, ◌<◌, ◌≤◌, Bool, true, false, List, [], ◌∷◌, ◌++◌, refl, sym, subst, ap, ◌∙◌, arith}
use Rattle.std.specs.List.{AllByRecursion, flat_map}
use Rattle.std.proofs.lemmas.List.Concat.{flat_map-cons}
use Rattle.std.proofs.lemmas.List.Elements.{All-from_recursion, recursion_from_All}
use Rattle.std.proofs.lemmas.List.Kept.{AllPairs-cons}
use Rattle.shunt_lists.proofs.Members.{all_in, all_from, in_cases, of_flat}
use Rattle.shunt_lists.specs.defs.Members.{In, Ascends}
use Rattle.shunt_audit.specs.declared.types.Finding.{Finding}
use Rattle.shunt_audit.specs.defs.Findings.{kind_of, first_of, second_of, FindingBefore, AreSorted}
use Rattle.shunt_audit.specs.defs.Listed.{noted, noted_below}
use Rattle.shunt_audit.proofs.Lists.{of_noted, of_below_noted}

-- the order by recursion
abbrev pub Rising : List Finding → Type 0
Rising [] = Unit {0}
Rising (f ∷ fs) = AllByRecursion (FindingBefore f) fs × Rising fs

pub in_order : (fs : List Finding) → Rising fs → AreSorted fs
in_order [] a = λ i j d before within. absurd (omega arith)
in_order (f ∷ fs) a = AllPairs-cons FindingBefore f fs (All-from_recursion (FindingBefore f) fs a.0) (in_order fs a.1)

pub of_order : (fs : List Finding) → AreSorted fs → Rising fs
of_order [] h = tt
of_order (f ∷ fs) h = (
  recursion_from_All (FindingBefore f) fs (λ k d lt. h 0 (suc k) d (omega arith) (omega arith)),
  of_order fs (λ i j d before within. h (suc i) (suc j) d (omega arith) (omega arith)),
)

-- ---- one list

abbrev Before : ℕ → ℕ → ℕ → ℕ → ℕ → ℕ → Type 0
Before a b c d e g = (a < b) ⊎ ((a ≡ b) × ((c < d) ⊎ ((c ≡ d) × (e < g))))

not_both : (a b c d e g : ℕ) → Before a b c d e g → Before b a d c g e → ⊥
not_both a b c d e g (inl p) (inl q) = omega arith
not_both a b c d e g (inl p) (inr q) = let x = q.0 in omega arith
not_both a b c d e g (inr p) (inl q) = let x = p.0 in omega arith
not_both a b c d e g (inr (x, inl p)) (inr (y, inl q)) = omega arith
not_both a b c d e g (inr (x, inl p)) (inr (y, inr q)) = let z = q.0 in omega arith
not_both a b c d e g (inr (x, inr p)) (inr (y, inl q)) = let z = p.0 in omega arith
not_both a b c d e g (inr (x, inr p)) (inr (y, inr q)) = let z = p.1 in let w = q.1 in omega arith

never_both : (f g : Finding) → FindingBefore f g → FindingBefore g f → ⊥
never_both f g p q = not_both (kind_of f) (kind_of g) (first_of f) (first_of g) (second_of f) (second_of g) p q

never_itself : (f g : Finding) → f ≡ g → FindingBefore f g → ⊥
never_itself f g e p = let q : FindingBefore f f = subst (FindingBefore f) (sym e) p in never_both f f q q

-- two lists that rise and have the same members are one
pub unique : (fs gs : List Finding) → Rising fs → Rising gs → ((f : Finding) → In f fs ↔ In f gs) → fs ≡ gs
unique [] [] a b same = refl
unique [] (g ∷ gs) a b same = absurd ((same g).1 (inl refl))
unique (f ∷ fs) [] a b same = absurd ((same f).0 (inl refl))
unique (f ∷ fs) (g ∷ gs) a b same =
    ap (λ (m : Finding). m ∷ fs) head ∙ ap (λ (l : List Finding). g ∷ l) (unique fs gs a.1 b.1 (λ m. (λ h. to m h, λ h. from m h)))
  where
    head : f ≡ g
    head = ⊎_elim (λ e. e) (λ i. ⊎_elim (λ e. sym e) (λ j. absurd (never_both f g (all_in (FindingBefore f) fs g a.0 j) (all_in (FindingBefore g) gs f b.0 i)))
        ((same g).1 (inl refl))) ((same f).0 (inl refl))

    to : (m : Finding) → In m fs → In m gs
    to m h = ⊎_elim (λ e. absurd (never_itself f m (head ∙ sym e) (all_in (FindingBefore f) fs m a.0 h))) (λ i. i) ((same m).0 (inr h))

    from : (m : Finding) → In m gs → In m fs
    from m h = ⊎_elim (λ e. absurd (never_itself g m (sym head ∙ sym e) (all_in (FindingBefore g) gs m b.0 h))) (λ i. i) ((same m).1 (inr h))

-- ---- lists that are put together

pub rising_append : (fs gs : List Finding) → Rising fs → Rising gs → ((f g : Finding) → In f fs → In g gs → FindingBefore f g) → Rising (fs ++ gs)
rising_append [] gs a b h = b
rising_append (f ∷ fs) gs a b h = (
  all_from (FindingBefore f) (fs ++ gs) (λ g i. ⊎_elim (λ j. all_in (FindingBefore f) fs g a.0 j) (λ j. h f g (inl refl) j) (in_cases fs gs g i)),
  rising_append fs gs a.1 b (λ e g i j. h e g (inr i) j),
)

-- in order, with kinds from one number to another
pub record IsStretch (low high : ℕ) (fs : List Finding) : Type 0 where
  pub rises : Rising fs
  pub from : (f : Finding) → In f fs → low ≤ kind_of f
  pub to : (f : Finding) → In f fs → kind_of f ≤ high

pub one_kind : (k : ℕ) (fs : List Finding) → Rising fs → ((f : Finding) → In f fs → kind_of f ≡ k) → IsStretch k k fs
one_kind k fs a h = record { rises = a; from = λ f i. omega (arith, h f i); to = λ f i. omega (arith, h f i) }

pub joined : (a b c d : ℕ) (fs gs : List Finding) → a ≤ b → b < c → c ≤ d → IsStretch a b fs → IsStretch c d gs → IsStretch a d (fs ++ gs)
joined a b c d fs gs ab bc cd p q = record {
  rises = rising_append fs gs p.rises q.rises (λ f g i j. inl (omega (arith, p.to f i, q.from g j)));
  from = λ f i. ⊎_elim (λ j. p.from f j) (λ j. omega (arith, q.from f j)) (in_cases fs gs f i);
  to = λ f i. ⊎_elim (λ j. omega (arith, p.to f j)) (λ j. q.to f j) (in_cases fs gs f i);
}

pub noted_rises : (t : Bool) (f : Finding) → Rising (noted t f)
noted_rises true f = (tt, tt)
noted_rises false f = tt

-- what is noted of numbers
pub below_rises : (n : ℕ) (t : ℕ → Bool) (note : ℕ → Finding) → ((j k : ℕ) → j < k → FindingBefore (note j) (note k)) → Rising (noted_below n (λ k. noted (t k) (note k)))
below_rises zero t note h = tt
below_rises (suc n) t note h = rising_append (noted_below n (λ k. noted (t k) (note k))) (noted (t n) (note n)) (below_rises n t note h) (noted_rises (t n) (note n))
    (λ f g i j. let r = of_below_noted n t note f i in let e = (of_noted (t n) (note n) g j).1 in
    subst (λ (m : Finding). FindingBefore m g) (sym r.3) (subst (FindingBefore (note r.0)) (sym e) (h r.0 n r.1)))

-- what is noted of items that ascend
pub flat_rises : {X : Type 0} (at : X → ℕ) (note : X → List Finding) (xs : List X) → Ascends at xs → ((x : X) → Rising (note x))
    → ((x y : X) (f g : Finding) → at x < at y → In f (note x) → In g (note y) → FindingBefore f g) → Rising (flat_map note xs)
flat_rises at note [] a each h = tt
flat_rises at note (x ∷ xs) a each h = subst Rising (sym (flat_map-cons note x xs)) (rising_append (note x) (flat_map note xs) (each x) (flat_rises at note xs a.1 each h)
    (λ f g i j. let r = of_flat note xs g j in h x r.0 f g (all_in (λ y. at x < at y) xs r.0 a.0 r.1) i r.2))

pub flat_noted_rises : {X : Type 0} (at : X → ℕ) (t : X → Bool) (note : X → Finding) (xs : List X) → Ascends at xs → ((x y : X) → at x < at y → FindingBefore (note x) (note y))
    → Rising (flat_map (λ x. noted (t x) (note x)) xs)
flat_noted_rises at t note xs a h = flat_rises at (λ x. noted (t x) (note x)) xs a (λ x. noted_rises (t x) (note x))
    (λ x y f g lt i j. let e = (of_noted (t x) (note x) f i).1 in let d = (of_noted (t y) (note y) g j).1 in
    subst (λ (m : Finding). FindingBefore m g) (sym e) (subst (FindingBefore (note x)) (sym d) (h x y lt)))
