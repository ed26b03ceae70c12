-- Values that may be there, and answers that may be errors.
use Rattle.std.proofs.Common.{List, length, arith, ◌+◌, ◌≤◌, [], ◌∷◌, ◌≡◌, inl, inr, sym, ap, ◌⊎◌, ⊎_elim, refl, ◌∙◌, ℕ}
use Rattle.std.specs.Prelude.{Option, Some, None, Result, Ok, Err, IfOk, OnOk, IsSome, is_some, cond, IfSome, Bool, true, false}
use Rattle.std.specs.List.{cons_option, filter_map}
use Rattle.shunt_lists.specs.defs.Members.{In}
use Rattle.std.proofs.lemmas.Option.{none-some}
use Rattle.std.proofs.lemmas.Bool.{true≢false}

pub option_few : {Y : Type 0} (o : Option Y) (ys : List Y) → length (cons_option o ys) ≤ length ys + 1
option_few None ys = omega arith
option_few (Some y) ys = omega arith

pub few_some : {X Y : Type 0} (h : X → Option Y) (xs : List X) → length (filter_map h xs) ≤ length xs
few_some h [] = omega arith
few_some h (x ∷ xs) = omega (arith, option_few (h x) (filter_map h xs), few_some h xs)

pub some_same : {X : Type 0} (x y : X) → Some x ≡ Some y → x ≡ y
some_same x y e = cc

pub if_ok : {X E : Type 0} (P Q : X → Type 0) (r : Result X E) → ((x : X) → P x → Q x) → IfOk r P → IfOk r Q
if_ok P Q (Ok x) h p = h x p
if_ok P Q (Err e) h p = tt

pub option_in : {Y : Type 0} (o : Option Y) (ys : List Y) (y : Y) → In y (cons_option o ys) → (o ≡ Some y) ⊎ In y ys
option_in None ys y h = inr h
option_in (Some z) ys y (inl e) = inl (ap Some (sym e))
option_in (Some z) ys y (inr h) = inr h

pub option_first : {Y : Type 0} (o : Option Y) (ys : List Y) (y : Y) → o ≡ Some y → In y (cons_option o ys)
option_first None ys y e = absurd (none-some y e)
option_first (Some z) ys y e = inl (some_same y z (sym e))

pub option_rest : {Y : Type 0} (o : Option Y) (ys : List Y) (y : Y) → In y ys → In y (cons_option o ys)
option_rest None ys y h = h
option_rest (Some z) ys y h = inr h

pub of_some : {X Y : Type 0} (h : X → Option Y) (xs : List X) (y : Y) → In y (filter_map h xs) → (x : X) × In x xs × (h x ≡ Some y)
of_some h [] y i = absurd i
of_some h (x ∷ xs) y i = ⊎_elim (λ e. (x, inl refl, e)) (λ j. let r = of_some h xs y j in (r.0, inr r.1, r.2)) (option_in (h x) (filter_map h xs) y i)

pub on_ok : {T E : Type 0} (r : Result T E) (P Q : Type 0) → OnOk r P → (P → Q) → OnOk r Q
on_ok (Ok x) P Q h f = f h
on_ok (Err e) P Q h f = h

pub to_some : {X Y : Type 0} (h : X → Option Y) (xs : List X) (x : X) (y : Y) → In x xs → h x ≡ Some y → In y (filter_map h xs)
to_some h [] x y i e = absurd i
to_some h (z ∷ xs) x y (inl same) e = option_first (h z) (filter_map h xs) y (ap h (sym same) ∙ e)
to_some h (z ∷ xs) x y (inr i) e = option_rest (h z) (filter_map h xs) y (to_some h xs x y i e)

pub some_way : (w : Option ℕ) → (w ≡ None → ⊥) → IsSome w
some_way None h = absurd (h refl)
some_way (Some n) h = refl

pub no_none : (o : Option ℕ) → IsSome o → o ≡ None → ⊥
no_none o some none = true≢false (sym some ∙ ap is_some none)

pub some_either : {A : Type 0} (P : A → Type 0) (t : Bool) (g : A) (o : Option A) → (t ≡ true → P g) → IfSome o P → IfSome (cond t (Some g) o) P
some_either P true g o sure other = sure refl
some_either P false g o sure other = other
