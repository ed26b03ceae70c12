-- Blocks that share no unit are at most as many as there are units.
use Rattle.std.specs.Prelude.{◌||◌, map, cond, All}
use Rattle.std.specs.List.{IsDistinct, AllByRecursion, list_any}
use Rattle.std.proofs.Common.{◌≡◌, ℕ, ◌+◌, ◌<◌, ◌≤◌, Bool, true, false, List, [], ◌∷◌, length, refl, sym, subst, arith}
use Rattle.std.proofs.lemmas.Bool.{true≢false}
use Rattle.std.proofs.lemmas.Bool.Decides.{nat_tests}
use Rattle.std.proofs.lemmas.List.{length-map}
use Rattle.std.proofs.lemmas.List.Elements.{All-tail}
use Rattle.std.proofs.lemmas.List.Sums.{sum_by-cons}
use Rattle.std.proofs.Math.Dec.{eqb}
use Rattle.std.proofs.lemmas.Map.Steps.{length-le_from_distinct_below}
use Rattle.shunt_instance.specs.defs.Instance.{Night, unit_total}
use Rattle.shunt_blocks.specs.declared.records.Block.{Block}
use Rattle.shunt_blocks.specs.defs.Shapes.{shape_of, begins_at, IsWithinTrains}
use Rattle.shunt_blocks.specs.defs.Lists.{has_unit, times_unit, ShareNothing}
use Rattle.shunt_blocks.proofs.Places.{unit_in}
use Rattle.shunt_blocks.proofs.Shapes.{begins_itself}

pub one_more : (night : Night) (b : Block) (blocks : List Block) (u : ℕ) → times_unit night (b ∷ blocks) u ≡ cond (has_unit night (shape_of b) u) 1 0 + times_unit night blocks u
one_more night b blocks u = sum_by-cons (λ c. cond (has_unit night (shape_of c) u) 1 0) b blocks

-- the blocks after one that has a unit don't have it
not_again : (has : Bool) (times now : ℕ) → now ≡ cond has 1 0 + times → now ≤ 1 → has ≡ true → times ≡ 0
not_again true times now e few is = omega (arith, e, few)
not_again false times now e few is = absurd (true≢false (sym is))

neither : (has : Bool) (times now : ℕ) → now ≡ cond has 1 0 + times → now ≡ 0 → (has ≡ false) × (times ≡ 0)
neither true times now e none = absurd (omega (arith, e, none))
neither false times now e none = (refl, omega (arith, e, none))

some_units : (night : Night) (b : Block) (blocks : List Block) → All (IsWithinTrains night) (b ∷ blocks) → IsWithinTrains night b
some_units night b blocks all = all 0 b (omega arith)

-- a unit that no block has is none of their first units
never_first : (night : Night) (blocks : List Block) (u : ℕ) → All (IsWithinTrains night) blocks → times_unit night blocks u ≡ 0
    → AllByRecursion (λ y. eqb u y ≡ false) (map (begins_at night) blocks)
never_first night [] u all none = tt
never_first night (b ∷ blocks) u all none =
    let parts = neither (has_unit night (shape_of b) u) (times_unit night blocks u) _ (one_more night b blocks u) none in
    (other parts.0, never_first night blocks u (All-tail (IsWithinTrains night) b blocks all) parts.1)
  where
    other : has_unit night (shape_of b) u ≡ false → eqb u (begins_at night b) ≡ false
    other e = let some = (some_units night b blocks all).runs.n in grind (arith, nat_tests, some)

pub firsts_differ : (night : Night) (blocks : List Block) → All (IsWithinTrains night) blocks → ((u : ℕ) → times_unit night blocks u ≤ 1)
    → IsDistinct eqb (map (begins_at night) blocks)
unfolding IsDistinct
firsts_differ night [] all few = tt
firsts_differ night (b ∷ blocks) all few =
    let none = not_again (has_unit night (shape_of b) (begins_at night b)) (times_unit night blocks (begins_at night b)) _ (one_more night b blocks (begins_at night b))
    (few (begins_at night b)) (begins_itself night b (some_units night b blocks all).runs.n) in (
      never_first night blocks (begins_at night b) (All-tail (IsWithinTrains night) b blocks all) none,
      firsts_differ night blocks (All-tail (IsWithinTrains night) b blocks all) (λ u. omega (arith, one_more night b blocks u, few u)),
    )

pub first_in : (night : Night) (b : Block) → IsWithinTrains night b → begins_at night b < unit_total night
first_in night b within = unit_in night (shape_of b) (begins_at night b) within.runs (record { from = omega arith; to = omega (arith, within.runs.n) })

firsts_in : (night : Night) (blocks : List Block) → All (IsWithinTrains night) blocks → (q : ℕ) → list_any (eqb q) (map (begins_at night) blocks) ≡ true → q < unit_total night
firsts_in night [] all q e = absurd (true≢false (sym e))
firsts_in night (b ∷ blocks) all q e = here (eqb q (begins_at night b)) refl e (firsts_in night blocks (All-tail (IsWithinTrains night) b blocks all) q)
  where
    here : (t : Bool) → eqb q (begins_at night b) ≡ t → (t || list_any (eqb q) (map (begins_at night) blocks)) ≡ true
        → (list_any (eqb q) (map (begins_at night) blocks) ≡ true → q < unit_total night) → q < unit_total night
    here true same h more = let lt = first_in night b (some_units night b blocks all) in grind (arith, nat_tests, lt, same)
    here false same h more = more h

-- blocks that share no unit are at most as many as there are units
pub few_blocks : (night : Night) (blocks : List Block) → All (IsWithinTrains night) blocks → ShareNothing night blocks → length blocks ≤ unit_total night
few_blocks night blocks all apart = subst (λ n. n ≤ unit_total night) (length-map blocks (begins_at night))
    (length-le_from_distinct_below (map (begins_at night) blocks) (unit_total night) (firsts_differ night blocks all apart.units) (firsts_in night blocks all))

-- and fewer where a unit is uncovered
pub fewer_blocks : (night : Night) (blocks : List Block) (u : ℕ) → All (IsWithinTrains night) blocks → ShareNothing night blocks → u < unit_total night
    → times_unit night blocks u ≡ 0 → length blocks < unit_total night
unfolding IsDistinct
fewer_blocks night blocks u all apart lt none =
    let most = length-le_from_distinct_below (u ∷ map (begins_at night) blocks) (unit_total night)
    (never_first night blocks u all none, firsts_differ night blocks all apart.units) inside in
    omega (arith, most, length-map blocks (begins_at night))
  where
    inside : (q : ℕ) → list_any (eqb q) (u ∷ map (begins_at night) blocks) ≡ true → q < unit_total night
    inside q e = here (eqb q u) refl e
      where
        here : (t : Bool) → eqb q u ≡ t → (t || list_any (eqb q) (map (begins_at night) blocks)) ≡ true → q < unit_total night
        here true same h = grind (arith, nat_tests, lt, same)
        here false same h = firsts_in night blocks all q h
