-- Of lengths that fit a track together, the parts of the track that they count fit it too.
use Rattle.std.specs.Prelude.{cond, sum_by}
use Rattle.std.proofs.Common.{◌≡◌, ◌⊎◌, inl, inr, ⊎_elim, ℕ, ◌+◌, ◌-◌, ◌*◌, ◌/◌, ◌<◌, ◌≤◌, Bool, true, false, List, [], ◌∷◌, refl, sym, subst, ap, arith}
use Rattle.std.proofs.Math.Nat.{mul-div-le, mul-le-mul_left, mul-le-mul_right, mul-add, lt_of_mul-lt-mul_left, mul_comm}
use Rattle.std.proofs.lemmas.Bool.{cases_lt}
use Rattle.std.proofs.lemmas.List.Sums.{sum_by-cons}

-- nothing is counted, or its room is below R + 1 times the length
abbrev IsCounted : ℕ → ℕ → ℕ → ℕ → Type 0
IsCounted r room count long = (count ≡ 0) ⊎ (room * count < (r + 1) * long)

one_counted : (r room long : ℕ) → 1 ≤ room → IsCounted r room (((r + 1) * long - 1) / room) long
one_counted r room long some = ⊎_elim
    (λ more. inr (omega (arith, more, mul-div-le ((r + 1) * long - 1) room)))
    (λ none. inl (omega (arith, none, mul-div-le ((r + 1) * long - 1) room, mul-le-mul_right (((r + 1) * long - 1) / room) some)))
    (cases_lt 0 ((r + 1) * long))

none_counted : (r room : ℕ) → IsCounted r room 0 0
none_counted r room = inl refl

-- what is counted of two is counted of both
both_counted : (r room c d k l : ℕ) → IsCounted r room c k → IsCounted r room d l → IsCounted r room (c + d) (k + l)
both_counted r room c d k l (inl none) (inl nothing) = inl (omega (arith, none, nothing))
both_counted r room c d k l (inl none) (inr less) =
    inr (omega (arith, less, mul-add room c d, mul-add (r + 1) k l, ap (λ x. room * x) none))
both_counted r room c d k l (inr less) (inl none) =
    inr (omega (arith, less, mul-add room c d, mul-add (r + 1) k l, ap (λ x. room * x) none))
both_counted r room c d k l (inr first) (inr second) = inr (omega (arith, first, second, mul-add room c d, mul-add (r + 1) k l))

flag_counted : (r room long : ℕ) (b : Bool) → 1 ≤ room → IsCounted r room (cond b (((r + 1) * long - 1) / room) 0) (cond b long 0)
flag_counted r room long true some = one_counted r room long some
flag_counted r room long false some = none_counted r room

module _ {X : Type 0} (r room : ℕ) (some : 1 ≤ room) (test : X → Bool) (long : X → ℕ) where
  abbrev parts : X → ℕ
  parts x = cond (test x) (((r + 1) * long x - 1) / room) 0

  abbrev lengths : X → ℕ
  lengths x = cond (test x) (long x) 0

  all_counted : (xs : List X) → IsCounted r room (sum_by parts xs) (sum_by lengths xs)
  all_counted [] = none_counted r room
  all_counted (x ∷ xs) =
      let rest = both_counted r room (parts x) (sum_by parts xs) (lengths x) (sum_by lengths xs) (flag_counted r room (long x) (test x) some) (all_counted xs) in
      let counts = sum_by-cons parts x xs in
      let totals = sum_by-cons lengths x xs in
      subst (λ (n : ℕ). IsCounted r room n (sum_by lengths (x ∷ xs))) (sym counts) (subst (λ (n : ℕ). IsCounted r room (parts x + sum_by parts xs) n) (sym totals) rest)

  pub parts_fit : (xs : List X) → sum_by lengths xs ≤ room → sum_by parts xs ≤ r
  parts_fit xs fits = within (sum_by parts xs) (sum_by lengths xs) fits (all_counted xs)
    where
      within : (count total : ℕ) → total ≤ room → IsCounted r room count total → count ≤ r
      within count total le (inl none) = omega (arith, none)
      within count total le (inr less) =
          let small : count < r + 1 = lt_of_mul-lt-mul_left room (omega (arith, less, mul-le-mul_left (r + 1) le, mul_comm (r + 1) room)) in
          omega (arith, small)
