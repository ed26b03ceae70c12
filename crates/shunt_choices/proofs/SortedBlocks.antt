-- Blocks that are sorted by their trains and places are in the order of their first units.
use Rattle.std.specs.Prelude.{All, cond, IsPermutation}
use Rattle.std.specs.Ordering.{ordering_then, is_lt}
use Rattle.std.specs.Cmp.{nat_cmp_is}
use Rattle.std.specs.List.Sorted.{IsNonDecreasingBy}
use Rattle.std.specs.declared.cmp.Ordering.TheVariants.{Less, Equal}
use Rattle.std.proofs.Common.{nat_cmp, inl, inr, ◌≡◌, ◌⊎◌, ⊎_elim, ℕ, ◌+◌, ◌<◌, ◌≤◌, take, false, List, length, get_or, sym, ap, ◌∙◌, arith}
use Rattle.std.proofs.lemmas.Bool.{cases_lt, true≢false}
use Rattle.std.proofs.lemmas.List.{length-map, get_or-map}
use Rattle.std.proofs.lemmas.List.Sorted.{IsNonDecreasingBy-from_all_adjacent, sum_by-IsPermutation, All-permutation}
use Rattle.shunt_instance.specs.defs.Words.{unit_count}
use Rattle.shunt_instance.specs.defs.Instance.{Night}
use Rattle.shunt_instance.proofs.Numbers.{counts_more}
use Rattle.shunt_blocks.specs.declared.records.Block.{Block}
use Rattle.shunt_blocks.specs.defs.Shapes.{shape_of, IsInRange, begins_at}
use Rattle.shunt_blocks.specs.defs.Lists.{has_unit, has_position, ShareNothing}
use Rattle.shunt_choices.specs.defs.Paths.{AreInOrder}
use Rattle.shunt_choices.proofs.Given.{FirstsLaw}

-- a pair that isn't before another has a greater first number, or the same and no lesser second
not_before : (a b x y : ℕ) → is_lt (ordering_then (nat_cmp a b) (nat_cmp x y)) ≡ false → (b < a) ⊎ ((b ≡ a) × (y ≤ x))
not_before a b x y e = ⊎_elim
    (λ less. absurd (true≢false (ap (λ o. is_lt (ordering_then o (nat_cmp x y))) (nat_cmp_is a b Less less) ∙ e)))
    (λ ge. ⊎_elim
    (λ more. inl more)
    (λ le. let same : a ≡ b = omega (arith, ge, le) in
    inr (
      sym same,
      ⊎_elim
          (λ less. absurd (true≢false (ap is_lt (nat_cmp_is x y Less less) ∙ ap (λ o. is_lt (ordering_then o (nat_cmp x y))) (nat_cmp_is a b Equal same) ∙ e)))
          (λ le. le)
          (cases_lt x y),
    ))
    (cases_lt b a))
    (cases_lt a b)

-- blocks that aren't before another by train and place don't begin before it
begins_later : (night : Night) (b c : Block) → IsInRange night b → IsInRange night c → is_lt (ordering_then (nat_cmp c.arr.0 b.arr.0) (nat_cmp c.p b.p)) ≡ false
    → begins_at night b ≤ begins_at night c
begins_later night b c is it e = ⊎_elim
    (λ less. omega (arith, counts_more night.arrive b.arr.0 c.arr.0 less is.within.runs.arr, is.within.runs.units, is.within.runs.n, is.within.runs.p))
    (λ same. omega (arith, ap (λ a. unit_count (take a night.arrive)) same.0, same.1))
    (not_before c.arr.0 b.arr.0 c.p b.p e)

pub in_order : (firsts : FirstsLaw) (night : Night) (blocks : List Block) → All (IsInRange night) blocks → ShareNothing night blocks
    → ((k : ℕ) (d : Block) → 0 ≤ k → k + 1 < length blocks → is_lt (ordering_then (nat_cmp (get_or blocks (k + 1) d).arr.0 (get_or blocks k d).arr.0)
    (nat_cmp (get_or blocks (k + 1) d).p (get_or blocks k d).p)) ≡ false)
    → AreInOrder night blocks
in_order firsts night blocks all apart sorted i j d before within =
    let rises : IsNonDecreasingBy (begins_at night) blocks = IsNonDecreasingBy-from_all_adjacent (begins_at night) blocks
    (λ k e lt. begins_later night (get_or blocks k e) (get_or blocks (k + 1) e) (all k e (omega (arith, lt))) (all (k + 1) e (omega (arith, lt)))
    (sorted k e (omega arith) (omega (arith, lt)))) in
    let size = length-map blocks (begins_at night) in
    let read = λ (k : ℕ). get_or-map (begins_at night) blocks k d in
    let differ = firsts night blocks (λ k e lt. (all k e lt).within) apart i j (begins_at night d) before (omega (arith, size, within)) in
    let order : begins_at night (get_or blocks i d) ≤ begins_at night (get_or blocks j d) = rises i j d (omega (arith, before)) within in
    ⊎_elim (λ less. less)
    (λ ge. absurd (differ (read i (begins_at night d) (omega (arith, before, within))
    ∙ (let same : begins_at night (get_or blocks i d) ≡ begins_at night (get_or blocks j d) = omega (arith, order, ge) in same) ∙ sym (read j (begins_at night d) within))))
    (cases_lt (begins_at night (get_or blocks i d)) (begins_at night (get_or blocks j d)))

pub share_nothing : (night : Night) (blocks others : List Block) → IsPermutation blocks others → ShareNothing night blocks → ShareNothing night others
share_nothing night blocks others same apart = record {
  units = λ u. omega (arith, sum_by-IsPermutation (λ b. cond (has_unit night (shape_of b) u) 1 0) blocks others same, apart.units u);
  positions = λ v. omega (arith, sum_by-IsPermutation (λ b. cond (has_position night (shape_of b) v) 1 0) blocks others same, apart.positions v);
}

pub in_order_again : (firsts : FirstsLaw) (night : Night) (pins blocks : List Block) → All (IsInRange night) pins → ShareNothing night pins → IsPermutation pins blocks
    → ((k : ℕ) (d : Block) → 0 ≤ k → k + 1 < length blocks → is_lt (ordering_then (nat_cmp (get_or blocks (k + 1) d).arr.0 (get_or blocks k d).arr.0)
    (nat_cmp (get_or blocks (k + 1) d).p (get_or blocks k d).p)) ≡ false)
    → AreInOrder night blocks
in_order_again firsts night pins blocks all apart same sorted = in_order firsts night blocks (All-permutation (IsInRange night) pins blocks same all)
    (share_nothing night pins blocks same apart) sorted
