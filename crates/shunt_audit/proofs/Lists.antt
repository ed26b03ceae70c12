-- What is noted, and lists that are made of what each item gives.
use Rattle.std.proofs.Common.{◌≡◌, ◌⊎◌, inl, inr, ⊎_elim, ℕ, zero, suc, ◌<◌, Bool, true, false, List, [], ◌∷◌, refl, sym, subst, arith}
use Rattle.std.specs.List.{flat_map}
use Rattle.std.proofs.lemmas.Bool.{cases_lt}
use Rattle.std.proofs.lemmas.List.Concat.{flat_map-cons}
use Rattle.shunt_lists.proofs.Members.{in_left, in_right, in_cases, of_flat, in_flat}
use Rattle.shunt_lists.specs.defs.Members.{In}
use Rattle.shunt_audit.specs.declared.types.Finding.{Finding}
use Rattle.shunt_audit.specs.defs.Listed.{noted, noted_below}

pub of_noted : (t : Bool) (f g : Finding) → In g (noted t f) → (t ≡ true) × (g ≡ f)
of_noted true f g (inl e) = (refl, e)
of_noted true f g (inr h) = absurd h
of_noted false f g h = absurd h

pub to_noted : (t : Bool) (f : Finding) → t ≡ true → In f (noted t f)
to_noted true f e = inl refl
to_noted false f e = absurd (cc)

pub of_below : (n : ℕ) (note : ℕ → List Finding) (f : Finding) → In f (noted_below n note) → (k : ℕ) × (k < n) × In f (note k)
of_below zero note f h = absurd h
of_below (suc n) note f h = ⊎_elim (λ i. let r = of_below n note f i in (r.0, let lt = r.1 in omega arith, r.2)) (λ i. (n, omega arith, i))
    (in_cases (noted_below n note) (note n) f h)

low_or_last : (k n : ℕ) → k < suc n → (k < n) ⊎ (k ≡ n)
low_or_last k n lt = ⊎_elim (λ low. inl low) (λ ge. inr (omega arith)) (cases_lt k n)

pub to_below : (n : ℕ) (note : ℕ → List Finding) (k : ℕ) (f : Finding) → k < n → In f (note k) → In f (noted_below n note)
to_below zero note k f lt h = absurd (omega arith)
to_below (suc n) note k f lt h = ⊎_elim
    (λ low. in_left (noted_below n note) (note n) f (to_below n note k f low h))
    (λ e. in_right (noted_below n note) (note n) f (subst (λ (j : ℕ). In f (note j)) e h))
    (low_or_last k n lt)

-- the same of what a test notes
pub of_flat_noted : {X : Type 0} (t : X → Bool) (note : X → Finding) (xs : List X) (f : Finding) → In f (flat_map (λ x. noted (t x) (note x)) xs)
    → (x : X) × In x xs × (t x ≡ true) × (f ≡ note x)
of_flat_noted t note xs f h = let r = of_flat (λ x. noted (t x) (note x)) xs f h in let n = of_noted (t r.0) (note r.0) f r.2 in (r.0, r.1, n.0, n.1)

pub to_flat_noted : {X : Type 0} (t : X → Bool) (note : X → Finding) (xs : List X) (x : X) → In x xs → t x ≡ true → In (note x) (flat_map (λ x. noted (t x) (note x)) xs)
to_flat_noted t note xs x h e = in_flat (λ x. noted (t x) (note x)) xs x (note x) h (to_noted (t x) (note x) e)

pub of_below_noted : (n : ℕ) (t : ℕ → Bool) (note : ℕ → Finding) (f : Finding) → In f (noted_below n (λ k. noted (t k) (note k))) → (k : ℕ) × (k < n) × (t k ≡ true) × (f ≡ note k)
of_below_noted n t note f h = let r = of_below n (λ k. noted (t k) (note k)) f h in let m = of_noted (t r.0) (note r.0) f r.2 in (r.0, r.1, m.0, m.1)

pub to_below_noted : (n : ℕ) (t : ℕ → Bool) (note : ℕ → Finding) (k : ℕ) → k < n → t k ≡ true → In (note k) (noted_below n (λ k. noted (t k) (note k)))
to_below_noted n t note k lt e = to_below n (λ k. noted (t k) (note k)) k (note k) lt (to_noted (t k) (note k) e)
