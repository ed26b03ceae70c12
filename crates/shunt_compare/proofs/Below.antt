-- What is collected unit by unit.
use Rattle.std.proofs.Common.{◌≡◌, ◌⊎◌, inl, inr, ⊎_elim, ℕ, ◌+◌, ◌<◌, List, [], ◌∷◌, ◌++◌, get_or, sym, subst, arith}
use Rattle.std.proofs.lemmas.Bool.{cases_lt}
use Rattle.std.proofs.lemmas.List.Quantifiers.{all_pairs_push}
use Rattle.shunt_lists.specs.defs.Members.{In}
use Rattle.shunt_lists.proofs.Members.{in_left, in_right, in_cases, in_place}
use Rattle.shunt_compare.specs.defs.Changes.{AreBelow}

below_or_at : (k m : ℕ) → k < m + 1 → (k < m) ⊎ (k ≡ m)
below_or_at k m lt = ⊎_elim (λ before. inl before) (λ le. inr (omega (arith, le, lt))) (cases_lt k m)

module _ {X : Type 0} (number : X → ℕ) (P : X → Type 0) where
  pub none_below : AreBelow number P 0 []
  none_below = record { in_order = λ i j d lt le. absurd (omega (arith, le)); exactly = λ x. (λ there. absurd there, λ of. absurd (omega (arith, of.0))) }

  -- with no such value of the next number
  pub passed_over : (n : ℕ) (xs : List X) → AreBelow number P n xs → ((x : X) → number x ≡ n → P x → ⊥) → AreBelow number P (n + 1) xs
  passed_over n xs h none = record {
    in_order = h.in_order;
    exactly = λ x. (
      λ there. let of = (h.exactly x).0 there in (omega (arith, of.0), of.1),
      λ of. ⊎_elim (λ lt. (h.exactly x).1 (lt, of.1)) (λ e. absurd (none x e of.1)) (below_or_at (number x) n of.0),
    );
  }
    where
      below_or_at : (k m : ℕ) → k < m + 1 → (k < m) ⊎ (k ≡ m)
      below_or_at k m lt = ⊎_elim (λ before. inl before) (λ le. inr (omega (arith, le, lt))) (cases_lt k m)

  -- with the only one
  pub put_behind : (n : ℕ) (xs : List X) (x : X) → AreBelow number P n xs → number x ≡ n → P x → ((y : X) → number y ≡ n → P y → y ≡ x) → AreBelow number P (n + 1) (xs ++ x ∷ [])
  put_behind n xs x h e is only = record {
    in_order = all_pairs_push (λ y z. number y < number z) xs x h.in_order (λ k d lt. let of = (h.exactly (get_or xs k d)).0 (in_place xs k d lt) in omega (arith, of.0, e));
    exactly = λ y. (
      λ there. ⊎_elim (λ before. let of = (h.exactly y).0 before in (omega (arith, of.0), of.1)) (λ last. itself y last) (in_cases xs (x ∷ []) y there),
      λ of. ⊎_elim (λ lt. in_left xs (x ∷ []) y ((h.exactly y).1 (lt, of.1))) (λ at. in_right xs (x ∷ []) y (inl (only y at of.1))) (below_or_at (number y) n of.0),
    );
  }
    where
      below_or_at : (k m : ℕ) → k < m + 1 → (k < m) ⊎ (k ≡ m)
      below_or_at k m lt = ⊎_elim (λ before. inl before) (λ le. inr (omega (arith, le, lt))) (cases_lt k m)

      itself : (y : X) → In y (x ∷ []) → (number y < n + 1) × P y
      itself y (inl same) = subst (λ (z : X). (number z < n + 1) × P z) (sym same) (omega (arith, e), is)
      itself y (inr never) = absurd never
