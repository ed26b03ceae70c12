-- The blocks by ascending id.
use Rattle.std.proofs.Common.{◌≡◌, ◌≢◌, inl, inr, ⊎_elim, ◌↔◌, ℕ, suc, ◌<◌, ◌≤◌, List, [], ◌∷◌, length, get_or, map, sym, subst, ap, ◌∙◌, arith, IsPermutation, refl}
use Rattle.std.specs.Prelude.{nat_le, ◌==◌}
use Rattle.std.specs.List.{AllByRecursion}
use Rattle.std.specs.List.Sorted.{IsNonDecreasingBy}
use Rattle.std.proofs.lemmas.Bool.{cases_Bool, cond-true, cond-false, leb-true, leb-false, cases_lt, le-leb}
use Rattle.std.proofs.lemmas.Bool.Decides.{Decides-eqb, nat_tests}
use Rattle.std.proofs.lemmas.List.{get_or-map, length-map}
use Rattle.std.proofs.lemmas.List.Sorted.{All-permutation, IsPermutation-refl, IsPermutation-cons, IsPermutation-sym, IsPermutation-trans, IsPermutation-middle, IsPermutation-map, length_permutation}
use Rattle.std.proofs.lemmas.Map.Keys.{IsDistinct-IsPermutation}
use Rattle.std.proofs.lemmas.Map.Made.{AllPairs-from_IsDistinct, IsDistinct-from_AllPairs}
use Rattle.shunt_lists.proofs.Members.{all_in, all_from, place_of}
use Rattle.shunt_lists.specs.defs.Members.{In, AreDistinct, Ascends}
use Rattle.shunt_stays.proofs.AscendingLists.{unique}
use Rattle.shunt_stays.proofs.SortedEvents.{in_permuted, of_permuted}
use Rattle.shunt_instance.specs.defs.Instance.{Night}
use Rattle.shunt_blocks.specs.declared.records.Block.{Block}
use Rattle.shunt_blocks.specs.defs.Shapes.{IsInRange}
use Rattle.shunt_blocks.specs.defs.Lists.{AreInRange}
use Rattle.shunt_audit.specs.defs.Listed.{insert_by_id, by_id}
use Rattle.shunt_lists.proofs.Tests.{strictly_below as below}

abbrev pub id_of : Block → ℕ
id_of b = b.id

-- ---- the sort moves blocks alone

pub insert_moves : (b : Block) (blocks : List Block) → IsPermutation (b ∷ blocks) (insert_by_id b blocks)
insert_moves b [] = IsPermutation-refl (b ∷ [])
insert_moves b (c ∷ blocks) = elim (cases_Bool (nat_le b.id c.id)) [
  | inl is ↦ subst (IsPermutation (b ∷ c ∷ blocks)) (sym (cond-true (nat_le b.id c.id) (b ∷ c ∷ blocks) (c ∷ insert_by_id b blocks) is)) (IsPermutation-refl (b ∷ c ∷ blocks))
  | inr apart ↦ subst (IsPermutation (b ∷ c ∷ blocks)) (sym (cond-false (nat_le b.id c.id) (b ∷ c ∷ blocks) (c ∷ insert_by_id b blocks) apart))
      (IsPermutation-trans (b ∷ c ∷ blocks) (c ∷ b ∷ blocks) (c ∷ insert_by_id b blocks)
      (IsPermutation-sym (c ∷ b ∷ blocks) (b ∷ c ∷ blocks) (IsPermutation-middle (c ∷ []) b blocks))
      (IsPermutation-cons c (b ∷ blocks) (insert_by_id b blocks) (insert_moves b blocks)))
]

pub moves : (blocks : List Block) → IsPermutation blocks (by_id blocks)
moves [] = IsPermutation-refl []
moves (b ∷ blocks) = IsPermutation-trans (b ∷ blocks) (b ∷ by_id blocks) (insert_by_id b (by_id blocks)) (IsPermutation-cons b blocks (by_id blocks) (moves blocks))
    (insert_moves b (by_id blocks))

pub there : (blocks : List Block) (b : Block) → In b (by_id blocks) ↔ In b blocks
there blocks b = (of_permuted blocks (by_id blocks) b (moves blocks), in_permuted blocks (by_id blocks) b (moves blocks))

-- ---- distinct ids

-- no two of these have one id
abbrev pub Apart : List Block → Type 0
Apart [] = Unit {0}
Apart (b ∷ blocks) = AllByRecursion (λ c. b.id ≢ c.id) blocks × Apart blocks

pub apart : (blocks : List Block) → AreDistinct (map id_of blocks) → Apart blocks
apart [] h = tt
apart (b ∷ blocks) h = (
  all_from (λ c. b.id ≢ c.id) blocks (λ c i. let r = place_of blocks c b i in
      let lt : r.0 < length (map id_of blocks) = omega (arith, r.1, length-map blocks id_of) in
      subst (λ n. b.id ≢ n) (get_or-map id_of blocks r.0 b 0 r.1 ∙ ap id_of r.2) (h 0 (suc r.0) 0 (omega arith) (omega arith))),
  apart blocks (λ i j d before within. h (suc i) (suc j) d (omega arith) (omega arith)),
)

same_flip : (x y : ℕ) → (x == y) ≡ (y == x)
same_flip x y = grind (arith, nat_tests)

pub distinct_permuted : (blocks others : List Block) → IsPermutation blocks others → AreDistinct (map id_of blocks) → AreDistinct (map id_of others)
distinct_permuted blocks others p h = AllPairs-from_IsDistinct Decides-eqb (map id_of others)
    (IsDistinct-IsPermutation (λ a b. a == b) same_flip (map id_of blocks) (map id_of others) (IsPermutation-map id_of blocks others p)
    (IsDistinct-from_AllPairs Decides-eqb (map id_of blocks) h))

pub range_permuted : (night : Night) (blocks others : List Block) → IsPermutation blocks others → AreInRange night blocks → AreInRange night others
range_permuted night blocks others p h = record {
  few = omega (arith, length_permutation blocks others p, h.few);
  each = All-permutation (IsInRange night) blocks others p h.each;
  ids = distinct_permuted blocks others p h.ids;
}

pub sorted_range : (night : Night) (blocks : List Block) → AreInRange night blocks → AreInRange night (by_id blocks)
sorted_range night blocks h = range_permuted night blocks (by_id blocks) (moves blocks) h

-- ---- the sort ascends, and there is one that does

insert_ascends : (b : Block) (blocks : List Block) → AllByRecursion (λ c. b.id ≢ c.id) blocks → Ascends id_of blocks → Ascends id_of (insert_by_id b blocks)
insert_ascends b [] new a = (tt, tt)
insert_ascends b (c ∷ blocks) new a = elim (cases_Bool (nat_le b.id c.id)) [
  | inl is ↦ subst (Ascends id_of) (sym (cond-true (nat_le b.id c.id) (b ∷ c ∷ blocks) (c ∷ insert_by_id b blocks) is)) (front (leb-true b.id c.id is))
  | inr above ↦ subst (Ascends id_of) (sym (cond-false (nat_le b.id c.id) (b ∷ c ∷ blocks) (c ∷ insert_by_id b blocks) above))
      (behind (leb-false b.id c.id above) (insert_ascends b blocks new.1 a.1))
]
  where
    front : b.id ≤ c.id → Ascends id_of (b ∷ c ∷ blocks)
    front le = let ne = new.0 in let lt : b.id < c.id = below b.id c.id le ne in
        ((lt, all_from (λ d. b.id < d.id) blocks (λ d i. let more : c.id < d.id = all_in (λ d. c.id < d.id) blocks d a.0 i in omega arith)), a)

    behind : c.id < b.id → Ascends id_of (insert_by_id b blocks) → Ascends id_of (c ∷ insert_by_id b blocks)
    behind lt rest = (
      all_from (λ d. c.id < d.id) (insert_by_id b blocks) (λ d i. ⊎_elim (λ e. omega (arith, ap id_of e)) (λ j. all_in (λ d. c.id < d.id) blocks d a.0 j)
          (of_permuted (b ∷ blocks) (insert_by_id b blocks) d (insert_moves b blocks) i)),
      rest,
    )

pub ascends : (blocks : List Block) → Apart blocks → Ascends id_of (by_id blocks)
ascends [] h = tt
ascends (b ∷ blocks) h = insert_ascends b (by_id blocks) (all_from (λ c. b.id ≢ c.id) (by_id blocks) (λ c i. all_in (λ c. b.id ≢ c.id) blocks c h.0 ((there blocks c).0 i)))
    (ascends blocks h.1)

-- a list whose ids never fall and are distinct
sorted_ascends : (blocks : List Block) → Apart blocks → IsNonDecreasingBy id_of blocks → Ascends id_of blocks
sorted_ascends [] a s = tt
sorted_ascends (b ∷ blocks) a s = (
  all_from (λ c. b.id < c.id) blocks (λ c i. let r = place_of blocks c b i in
      let le : b.id ≤ (get_or blocks r.0 b).id = s 0 (suc r.0) b (omega arith) (let lt = r.1 in omega arith) in
      let ne = all_in (λ c. b.id ≢ c.id) blocks c a.0 i in
      ⊎_elim (λ lt. lt) (λ ge. absurd (ne (omega (arith, ap id_of r.2)))) (cases_lt b.id c.id)),
  sorted_ascends blocks a.1 (λ i j d before within. s (suc i) (suc j) d (omega arith) (omega arith)),
)

pub sorted_is : (blocks others : List Block) → AreDistinct (map id_of blocks) → IsPermutation blocks others → IsNonDecreasingBy id_of others → others ≡ by_id blocks
sorted_is blocks others h p s =
    unique id_of others (by_id blocks) (sorted_ascends others (apart others (distinct_permuted blocks others p h)) s) (ascends blocks (apart blocks h))
    (λ b. (λ i. (there blocks b).1 (of_permuted blocks others b p i), λ i. in_permuted blocks others b p ((there blocks b).0 i)))

pub put_first : (b : Block) (blocks : List Block) → AllByRecursion (λ c. b.id < c.id) blocks → insert_by_id b blocks ≡ b ∷ blocks
put_first b [] a = refl
put_first b (c ∷ blocks) a = cond-true (nat_le b.id c.id) (b ∷ c ∷ blocks) (c ∷ insert_by_id b blocks) (le-leb b.id c.id (let lt = a.0 in omega arith))
