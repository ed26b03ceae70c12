-- Members of a list to which one is put at a side.
use Rattle.std.proofs.Common.{◌≡◌, ◌⊎◌, inl, inr, ⊎_elim, List, [], ◌∷◌, ◌++◌, refl, sym, subst}
use Rattle.shunt_base.specs.declared.ids.Side.{Side}
use Rattle.shunt_base.specs.declared.ids.Side.TheVariants.{A, B}
use Rattle.shunt_lists.specs.defs.Members.{In}
use Rattle.shunt_lists.proofs.Members.{Distinct, in_left, in_right, in_cases, of_one}
use Rattle.shunt_stays.specs.defs.Run.{put}

pub put_here : {X : Type 0} (side : Side) (x : X) (xs : List X) → In x (put side x xs)
put_here A x xs = inl refl
put_here B x xs = in_right xs (x ∷ []) x (inl refl)

pub put_there : {X : Type 0} (side : Side) (x y : X) (xs : List X) → In y xs → In y (put side x xs)
put_there A x y xs h = inr h
put_there B x y xs h = in_left xs (x ∷ []) y h

pub put_cases : {X : Type 0} (side : Side) (x y : X) (xs : List X) → In y (put side x xs) → (y ≡ x) ⊎ In y xs
put_cases A x y xs h = h
put_cases B x y xs h = ⊎_elim (λ l. inr l) (λ r. inl (of_one x y r)) (in_cases xs (x ∷ []) y h)

pub distinct_put : {X : Type 0} (side : Side) (x : X) (xs : List X) → (In x xs → ⊥) → Distinct xs → Distinct (put side x xs)
distinct_put A x xs new d = (new, d)
distinct_put B x [] new d = (λ h. h, tt)
distinct_put B x (y ∷ xs) new d =
    (λ h. ⊎_elim (λ l. d.0 l) (λ r. new (inl (sym (of_one x y r)))) (in_cases xs (x ∷ []) y h), distinct_put B x xs (λ h. new (inr h)) d.1)

pub distinct_taken : {X : Type 0} (side : Side) (x : X) (xs : List X) → Distinct (put side x xs) → (In x xs → ⊥) × Distinct xs
distinct_taken A x xs d = d
distinct_taken B x [] d = (λ h. h, tt)
distinct_taken {X} B x (y ∷ xs) d =
    let rest = distinct_taken B x xs d.1 in
    (λ h. ⊎_elim (λ e. d.0 (subst (λ (z : X). In z (xs ++ x ∷ [])) e (in_right xs (x ∷ []) x (inl refl)))) (λ r. rest.0 r) h, (λ h. d.0 (in_left xs (x ∷ []) y h), rest.1))
