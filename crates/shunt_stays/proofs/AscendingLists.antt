-- Lists that ascend by a number.
use Rattle.std.proofs.Common.{◌≡◌, inl, inr, ⊎_elim, ◌↔◌, ℕ, ◌<◌, Bool, List, [], ◌∷◌, refl, sym, subst, ap, ◌∙◌, arith}
use Rattle.std.specs.List.{AllByRecursion, filter}
use Rattle.std.proofs.lemmas.Bool.{cases_Bool}
use Rattle.shunt_lists.proofs.Members.{all_in, all_from, filter_from, filter_yes, filter_no}
use Rattle.shunt_lists.specs.defs.Members.{In, Ascends}

pub ascends_filter : {X : Type 0} (at : X → ℕ) (p : X → Bool) (xs : List X) → Ascends at xs → Ascends at (filter p xs)
ascends_filter at p [] a = tt
ascends_filter at p (x ∷ xs) a =
    ⊎_elim (λ t. subst (Ascends at) (sym (filter_yes p x xs t)) (
      all_from (λ y. at x < at y) (filter p xs) (λ y i. all_in (λ z. at x < at z) xs y a.0 (filter_from p xs y i).0),
      ascends_filter at p xs a.1,
    ))
    (λ t. subst (Ascends at) (sym (filter_no p x xs t)) (ascends_filter at p xs a.1)) (cases_Bool (p x))

-- two lists that ascend and have the same members are one
pub unique : {X : Type 0} (at : X → ℕ) (xs ys : List X) → Ascends at xs → Ascends at ys → ((x : X) → In x xs ↔ In x ys) → xs ≡ ys
unique at [] [] a b same = refl
unique at [] (y ∷ ys) a b same = absurd ((same y).1 (inl refl))
unique at (x ∷ xs) [] a b same = absurd ((same x).0 (inl refl))
unique {X} at (x ∷ xs) (y ∷ ys) a b same =
    ap (λ (m : X). m ∷ xs) head ∙ ap (λ (l : List X). y ∷ l) (unique at xs ys a.1 b.1 (λ m. (λ h. to m h, λ h. from m h)))
  where
    head : x ≡ y
    head = ⊎_elim (λ e. e) (λ i. ⊎_elim (λ e. sym e) (λ j. absurd (let p : at y < at x = all_in (λ n. at y < at n) ys x b.0 i in let q : at x < at y = all_in
        (λ n. at x < at n) xs y a.0 j in omega arith)) ((same y).1 (inl refl))) ((same x).0 (inl refl))

    to : (m : X) → In m xs → In m ys
    to m h = ⊎_elim (λ e. absurd (let p : at x < at m = all_in (λ n. at x < at n) xs m a.0 h in omega (arith, ap at (e ∙ sym head)))) (λ i. i) ((same m).0 (inr h))

    from : (m : X) → In m ys → In m xs
    from m h = ⊎_elim (λ e. absurd (let p : at y < at m = all_in (λ n. at y < at n) ys m b.0 h in omega (arith, ap at (e ∙ head)))) (λ i. i) ((same m).1 (inr h))
