-- The places of blocks by ascending id.
use Rattle.std.proofs.Common.{◌≡◌, ◌≢◌, inl, inr, ℕ, zero, suc, ◌<◌, ◌≤◌, ltb, true, false, List, [], ◌∷◌, length, get_or, take, drop, map, refl, sym, subst, ap, ◌∙◌, arith}
use Rattle.std.specs.Prelude.{◌==◌, Some, None}
use Rattle.std.specs.List.{AllByRecursion, insert, remove}
use Rattle.std.specs.List.Sorted.{IsPartitionedBy, IsPartitionPoint}
use Rattle.std.proofs.lemmas.Bool.{ltb-true, ltb-false, lt-ltb, cond-false}
use Rattle.shunt_lists.proofs.Members.{all_in, all_from, in_place, of_map, in_take, in_drop}
use Rattle.shunt_lists.specs.defs.Members.{In, AreDistinct}
use Rattle.shunt_blocks.specs.declared.records.Block.{Block}
use Rattle.shunt_audit.specs.defs.Listed.{insert_by_id}
use Rattle.shunt_moves.specs.defs.States.{Ascend, block_with, without_block}
use Rattle.shunt_moves.proofs.ByIds.{insert_first, insert_later, without_same, without_other, without_new, with_is, with_none, other_id}

ascends_at : (xs : List Block) (i j : ℕ) (d : Block) → Ascend xs → i ≤ j → j < length xs → (get_or xs i d).id ≤ (get_or xs j d).id
ascends_at [] i j d a le lt = absurd (omega arith)
ascends_at (x ∷ xs) zero zero d a le lt = omega arith
ascends_at (x ∷ xs) zero (suc j) d a le lt = let gt : x.id < (get_or xs j d).id = all_in (λ y. x.id < y.id) xs (get_or xs j d) a.0 (in_place xs j d (omega arith)) in omega arith
ascends_at (x ∷ xs) (suc i) zero d a le lt = absurd (omega arith)
ascends_at (x ∷ xs) (suc i) (suc j) d a le lt = ascends_at xs i j d a.1 (omega arith) (omega arith)

module _ (xs : List Block) (id : ℕ) where
  pub parted_ids : Ascend xs → IsPartitionedBy (λ b. ltb b.id id) xs
  parted_ids a i j d le lt t = let later = ltb-true (get_or xs j d).id id t in let up : (get_or xs i d).id ≤ (get_or xs j d).id = ascends_at xs i j d a le lt in lt-ltb
      (get_or xs i d).id id (omega arith)

  module _ (n : ℕ) (point : IsPartitionPoint (λ b. ltb b.id id ≡ true) (λ b. ltb b.id id ≡ false) xs n) where
    pub ids_before : (b : Block) → In b (take n xs) → b.id < id
    ids_before b h = let p = in_take n xs b h in subst (λ (z : Block). z.id < id) p.3 (ltb-true (get_or xs p.0 b).id id (point.0 p.0 b (omega arith) p.1))

    pub ids_after : (b : Block) → In b (drop n xs) → id ≤ b.id
    ids_after b h = let p = in_drop n xs b h in subst (λ (z : Block). id ≤ z.id) p.3 (ltb-false (get_or xs p.0 b).id id (point.1 p.0 b p.1 p.2))

-- the place parts the ids
abbrev pub Before : List Block → ℕ → ℕ → Type 0
Before xs n id = (b : Block) → In b (take n xs) → b.id < id

abbrev pub After : List Block → ℕ → ℕ → Type 0
After xs n id = (b : Block) → In b (drop n xs) → id ≤ b.id

first_above : (c : Block) (xs : List Block) (id : ℕ) → Ascend (c ∷ xs) → id ≤ c.id → AllByRecursion (λ d. id < d.id) xs
first_above c xs id a le = all_from (λ d. id < d.id) xs (λ d i. let lt : c.id < d.id = all_in (λ d. c.id < d.id) xs d a.0 i in omega arith)

-- a block comes at its place
pub insert_at : (b : Block) (xs : List Block) (n : ℕ) → n ≤ length xs → Before xs n b.id → After xs n b.id → insert xs n b ≡ insert_by_id b xs
insert_at b [] zero le before after = refl
insert_at b [] (suc n) le before after = absurd (omega arith)
insert_at b (c ∷ xs) zero le before after = sym (insert_first b c xs (after c (inl refl)))
insert_at b (c ∷ xs) (suc n) le before after = ap (λ (l : List Block). c ∷ l) (insert_at b xs n (omega arith) (λ d i. before d (inr i)) (λ d i. after d i))
    ∙ sym (insert_later b c xs (before c (inl refl)))

-- a block that is there goes from its place
pub place_within : (b : Block) (xs : List Block) (n : ℕ) → n ≤ length xs → Before xs n b.id → In b xs → n < length xs
place_within b [] n le before i = absurd i
place_within b (c ∷ xs) zero le before i = omega arith
place_within b (c ∷ xs) (suc n) le before (inl e) = let lt = before c (inl refl) in absurd (omega (arith, ap (λ (x : Block). x.id) e))
place_within b (c ∷ xs) (suc n) le before (inr i) = let r = place_within b xs n (omega arith) (λ d j. before d (inr j)) i in omega arith

pub remove_at : (b : Block) (xs : List Block) (n : ℕ) → Ascend xs → In b xs → Before xs n b.id → After xs n b.id → remove xs n ≡ without_block b.id xs
remove_at b [] n a i before after = absurd i
remove_at b (c ∷ xs) zero a (inl e) before after =
    sym (without_same b.id c xs (ap (λ (x : Block). x.id) (sym e)) ∙ without_new b.id xs
    (all_from (λ d. d.id ≢ b.id) xs (λ d i f. let lt : c.id < d.id = all_in (λ d. c.id < d.id) xs d a.0 i in omega (arith, ap (λ (x : Block). x.id) e))))
remove_at b (c ∷ xs) zero a (inr i) before after = let lt : c.id < b.id = all_in (λ d. c.id < d.id) xs b a.0 i in let ge = after c (inl refl) in absurd (omega arith)
remove_at b (c ∷ xs) (suc n) a (inl e) before after = let lt = before c (inl refl) in absurd (omega (arith, ap (λ (x : Block). x.id) e))
remove_at b (c ∷ xs) (suc n) a (inr i) before after =
    ap (λ (l : List Block). c ∷ l) (remove_at b xs n a.1 i (λ d j. before d (inr j)) (λ d j. after d j))
    ∙ sym (without_other b.id c xs (λ e. let lt = before c (inl refl) in omega arith))

-- what is found at the place of an id
pub found_at : (xs : List Block) (id n : ℕ) (d : Block) → Ascend xs → n < length xs → (get_or xs n d).id ≡ id → block_with xs id ≡ Some (get_or xs n d)
found_at xs id n d a lt e = ap (block_with xs) (sym e) ∙ with_is xs (get_or xs n d) a (in_place xs n d lt)

pub not_found : (xs : List Block) (id n : ℕ) → Ascend xs → n ≤ length xs → Before xs n id → After xs n id → ((d : Block) → n < length xs → (get_or xs n d).id ≢ id)
    → block_with xs id ≡ None
not_found [] id n a le before after other = refl
not_found (c ∷ xs) id zero a le before after other =
    let ge = after c (inl refl) in let ne = other c (omega arith) in
    with_none (c ∷ xs) id (ne, all_from (λ d. d.id ≢ id) xs (λ d i e. let lt : id < d.id = all_in (λ d. id < d.id) xs d (first_above c xs id a ge) i in omega arith))
not_found (c ∷ xs) id (suc n) a le before after other =
    let lt = before c (inl refl) in
    cond-false (c.id == id) (Some c) (block_with xs id) (other_id c.id id (λ e. absurd (omega arith)))
    ∙ not_found xs id n a.1 (omega arith) (λ d i. before d (inr i)) (λ d i. after d i) (λ d m. other d (omega arith))

-- ascending ids are distinct
pub ids_distinct : (xs : List Block) → Ascend xs → AreDistinct (map (λ b. b.id) xs)
ids_distinct [] a i j d before within = absurd (omega arith)
ids_distinct (x ∷ xs) a zero zero d before within = absurd (omega arith)
ids_distinct (x ∷ xs) a zero (suc j) d before within = λ e.
    let r = of_map (λ (b : Block). b.id) xs (get_or (map (λ (b : Block). b.id) xs) j d) (in_place (map (λ (b : Block). b.id) xs) j d (omega arith)) in
    let lt : x.id < r.0.id = all_in (λ d. x.id < d.id) xs r.0 a.0 r.1 in omega (arith, r.2)
ids_distinct (x ∷ xs) a (suc i) zero d before within = absurd (omega arith)
ids_distinct (x ∷ xs) a (suc i) (suc j) d before within = ids_distinct xs a.1 i j d (omega arith) (omega arith)
