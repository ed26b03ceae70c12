-- Bad blocks, ids and runs: from some blocks to one more.
use Rattle.std.specs.Prelude.{is_ok, Option, Some, None, Result, Ok, Err}
use Rattle.std.proofs.Common.{◌≡◌, ⊎_elim, inl, ℕ, suc, ◌+◌, ◌<◌, ◌≤◌, List, [], ◌∷◌, ◌++◌, length, get_or, take, refl, sym, ap, subst, ◌∙◌, arith}
use Rattle.std.proofs.lemmas.Bool.{cases_lt}
use Rattle.std.proofs.lemmas.Bool.Decides.{nat_tests}
use Rattle.std.proofs.lemmas.List.{take_more, take_all, length-take-le}
use Rattle.shunt_lists.proofs.Members.{in_left, in_right, in_cases, of_one}
use Rattle.shunt_stays.specs.defs.Run.{Through, Stop}
use Rattle.shunt_stays.specs.defs.Run.Stop.{Blocked, Over}
use Rattle.shunt_instance.specs.defs.Instance.{Night}
use Rattle.shunt_blocks.specs.declared.records.Block.{Block}
use Rattle.shunt_blocks.specs.defs.Blocks.{IsBlock}
use Rattle.shunt_blocks.specs.defs.Lists.{placed, placed_from}
use Rattle.shunt_tracks.specs.defs.Answer.{answer}
use Rattle.shunt_checker.specs.defs.Firsts.{Finds, HoldsNotBelow}
use Rattle.shunt_checker.specs.defs.PlanFaults.{HasBadBlock}
use Rattle.shunt_checker.specs.defs.Stops.{Less, lesser, is_through}

-- ---- bad blocks

module _ (night : Night) (xs : List Block) (x : Block) where
  earlier_bad : (id : ℕ) → HasBadBlock night xs id → HasBadBlock night (xs ++ x ∷ []) id
  earlier_bad id h = record { block = h.block; there = in_left xs (x ∷ []) h.block h.there; named = h.named; bad = h.bad }

  -- a bad block of more is the last one or one before
  split_bad : (P : Type 0) (id : ℕ) → HasBadBlock night (xs ++ x ∷ []) id → (HasBadBlock night xs id → P) → ((IsBlock night x → ⊥) → x.id ≡ id → P) → P
  split_bad P id h before last = ⊎_elim
      (λ i. before (record { block = h.block; there = i; named = h.named; bad = h.bad }))
      (λ i. let e : h.block ≡ x = of_one x h.block i in last (subst (λ (b : Block). IsBlock night b → ⊥) e h.bad) (subst (λ (b : Block). b.id ≡ id) e h.named))
      (in_cases xs (x ∷ []) h.block h.there)

  pub still_none : IsBlock night x → (r : Option ℕ) → Finds (HasBadBlock night xs) Less r → Finds (HasBadBlock night (xs ++ x ∷ [])) Less r
  still_none good None none = λ id h. split_bad ⊥ id h (none id) (λ bad _. bad good)
  still_none good (Some least) f = record {
    is = earlier_bad least f.is;
    first = λ id h less. split_bad ⊥ id h (λ before. f.first id before less) (λ bad _. bad good);
  }

  least_low : (a b : ℕ) → lesser (Some a) b ≤ a
  least_low a b = grind (arith, nat_tests)

  least_last : (a b : ℕ) → lesser (Some a) b ≤ b
  least_last a b = grind (arith, nat_tests)

  least_is : (a b : ℕ) (P : ℕ → Type 0) → P a → P b → P (lesser (Some a) b)
  least_is a b P pa pb = ⊎_elim
      (λ (past : b < a). let e : lesser (Some a) b ≡ b = grind (arith, nat_tests) in subst P (sym e) pb)
      (λ (le : a ≤ b). let e : lesser (Some a) b ≡ a = grind (arith, nat_tests) in subst P (sym e) pa)
      (cases_lt b a)

  pub one_more_bad : (IsBlock night x → ⊥) → (r : Option ℕ) → Finds (HasBadBlock night xs) Less r → Finds (HasBadBlock night (xs ++ x ∷ [])) Less (Some (lesser r x.id))
  one_more_bad bad None none = record {
    is = record { block = x; there = in_right xs (x ∷ []) x (inl refl); named = refl; bad = bad };
    first = λ id h less. split_bad ⊥ id h (none id) (λ _ e. omega (arith, e, less));
  }
  one_more_bad bad (Some least) f = record {
    is = least_is least x.id (HasBadBlock night (xs ++ x ∷ [])) (earlier_bad least f.is) (record { block = x; there = in_right xs (x ∷ []) x (inl refl); named = refl; bad = bad });
    first = λ id h less.
        let low = least_low least x.id in
        let last = least_last least x.id in
        split_bad ⊥ id h (λ before. f.first id before (omega (arith, less, low))) (λ _ e. omega (arith, e, less, last));
  }

module _ (night : Night) (xs : List Block) (i : ℕ) where
  pub good_step : (d : Block) (r least : Option ℕ) → i < length xs → IsBlock night (get_or xs i d) → least ≡ r → Finds (HasBadBlock night (take i xs)) Less r
      → Finds (HasBadBlock night (take (i + 1) xs)) Less least
  good_step d r least lt good e f =
      subst (λ (bs : List Block). Finds (HasBadBlock night bs) Less least) (sym (take_more xs i d lt))
      (still_none night (take i xs) (get_or xs i d) good least (subst (Finds (HasBadBlock night (take i xs)) Less) (sym e) f))

  pub bad_step : (d : Block) (r least : Option ℕ) → i < length xs → (IsBlock night (get_or xs i d) → ⊥) → least ≡ Some (lesser r (get_or xs i d).id)
      → Finds (HasBadBlock night (take i xs)) Less r → Finds (HasBadBlock night (take (i + 1) xs)) Less least
  bad_step d r least lt bad e f =
      subst (λ (bs : List Block). Finds (HasBadBlock night bs) Less least) (sym (take_more xs i d lt))
      (subst (Finds (HasBadBlock night (take i xs ++ get_or xs i d ∷ [])) Less) (sym e) (one_more_bad night (take i xs) (get_or xs i d) bad r f))

  pub all_seen : (r : Option ℕ) → length xs ≤ i → Finds (HasBadBlock night (take i xs)) Less r → Finds (HasBadBlock night xs) Less r
  all_seen r le f = subst (λ (bs : List Block). Finds (HasBadBlock night bs) Less r) (take_all i xs le) f

-- ---- units and positions

module _ (Holds : ℕ → Type 0) (times : ℕ → ℕ) (n : ℕ) (other : (x : ℕ) → Holds x → times x ≡ 1 → ⊥) where
  pub once_more : HoldsNotBelow Holds (λ x. x) n → times n ≡ 1 → HoldsNotBelow Holds (λ x. x) (n + 1)
  once_more below once x h lt = ⊎_elim
      (λ less. below x h less)
      (λ past. let e : x ≡ n = omega (arith, lt, past) in other x h (ap times e ∙ once))
      (cases_lt x n)

-- ---- places as ids

placed_push : (k : ℕ) (xs : List Block) (x : Block) → placed_from k (xs ++ x ∷ []) ≡ placed_from k xs ++ record x { id = k + length xs } ∷ []
placed_push k [] x = let e : k ≡ k + 0 = omega arith in ap (λ (i : ℕ). record x { id = i } ∷ []) e
placed_push k (y ∷ ys) x =
    let e : k + 1 + length ys ≡ k + suc (length ys) = omega arith in
    ap (λ (bs : List Block). record y { id = k } ∷ bs) (placed_push (k + 1) ys x ∙ ap (λ (i : ℕ). placed_from (k + 1) ys ++ record x { id = i } ∷ []) e)

pub placed_more : (xs : List Block) (i : ℕ) (d : Block) (ys : List Block) (n : ℕ) → i < length xs → ys ≡ placed (take i xs) → n ≡ i + 1
    → ys ++ record (get_or xs i d) { id = n } ∷ [] ≡ placed (take (i + 1) xs)
placed_more xs i d ys n lt e en =
    let el = length-take-le i xs (omega (arith, lt)) in
    let more : take (i + 1) xs ≡ take i xs ++ get_or xs i d ∷ [] = take_more xs i d lt in
    let id : n ≡ 1 + length (take i xs) = omega (arith, en, el, lt) in
    ap (λ (bs : List Block). bs ++ record (get_or xs i d) { id = n } ∷ []) e
    ∙ (ap (λ (m : ℕ). placed (take i xs) ++ record (get_or xs i d) { id = m } ∷ []) id
    ∙ (sym (placed_push 1 (take i xs) (get_or xs i d)) ∙ ap placed (sym more)))

-- ---- runs

pub through_is : (r : Result Through Stop) → is_through (answer r) ≡ is_ok r
through_is (Ok t) = refl
through_is (Err (Blocked m)) = refl
through_is (Err (Over m load)) = refl
