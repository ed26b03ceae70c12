-- Signed sums over parts of lists, and members.
use Rattle.std.specs.Prelude.{not, filter, ◌≤ℤ◌}
use Rattle.std.proofs.Common.{◌≡◌, ⊎_elim, inl, inr, Bool, List, [], ◌∷◌, ℤ, pos, ◌+ℤ◌, refl, ap, arith, sym, subst}
use Rattle.std.proofs.lemmas.Int.{ints}
use Rattle.std.proofs.lemmas.Bool.{cases_Bool, not_from_true}
use Rattle.shunt_lists.specs.defs.Members.{In}
use Rattle.shunt_lists.proofs.Members.{filter_yes, filter_no}
use Rattle.shunt_prices.specs.defs.Sums.{sum_z}
use Rattle.shunt_stacks.specs.defs.Spans.{Span, AreOwn}

-- what passes a test and what doesn't
pub sum_z-both : {X : Type 0} (f : X → ℤ) (p : X → Bool) (xs : List X) → sum_z f xs ≡ sum_z f (filter p xs) +ℤ sum_z f (filter (λ x. not (p x)) xs)
sum_z-both f p [] = omega (arith, ints)
sum_z-both f p (x ∷ xs) = ⊎_elim
    (λ t. let yes = ap (sum_z f) (filter_yes p x xs t) in let other = ap (sum_z f) (filter_no (λ y. not (p y)) x xs (not_from_true (p x) t)) in omega
    (arith, ints, yes, other, sum_z-both f p xs))
    (λ t. let yes = ap (sum_z f) (filter_no p x xs t) in let other = ap (sum_z f) (filter_yes (λ y. not (p y)) x xs (ap not t)) in omega
    (arith, ints, yes, other, sum_z-both f p xs))
    (cases_Bool (p x))

-- where none is above 0
pub sum_z-low : {X : Type 0} (f : X → ℤ) (xs : List X) → ((x : X) → In x xs → f x ≤ℤ pos 0) → sum_z f xs ≤ℤ pos 0
sum_z-low f [] h = omega (arith, ints)
sum_z-low f (x ∷ xs) h = omega (arith, ints, h x (inl refl), sum_z-low f xs (λ y i. h y (inr i)))

pub own_lists : (fixed free xs ys : List Span) → xs ≡ fixed → ys ≡ free → AreOwn fixed free → AreOwn xs ys
own_lists fixed free xs ys e f own = subst (λ (zs : List Span). AreOwn zs ys) (sym e) (subst (AreOwn fixed) (sym f) own)
