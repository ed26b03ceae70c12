-- What paths cover, block by block.
use Rattle.std.specs.Prelude.{not, ◌==◌, ◌&&◌, nat_le, nat_lt, map, replicate, cond}
use Rattle.std.specs.List.{range_with_len}
use Rattle.std.proofs.Common.{◌≡◌, ⊎_elim, ℕ, zero, suc, ◌+◌, ◌<◌, ◌≤◌, Bool, true, false, List, [], ◌∷◌, ◌++◌, length, get_or, set, refl, sym, ap, subst, ◌∙◌, arith}
use Rattle.std.proofs.lemmas.Bool.{cases_lt}
use Rattle.std.proofs.lemmas.Bool.Decides.{nat_tests}
use Rattle.std.proofs.lemmas.List.{length-set, get_or-set_same, get_or-set_other, ext_get_or, length-replicate, get_or-replicate}
use Rattle.std.proofs.lemmas.List.Sums.{sum_by-append}
use Rattle.std.proofs.lemmas.List.FromFn.{get_or-map-range_with_len, length-map-range_with_len}
use Rattle.shunt_instance.specs.defs.Instance.{Night, unit_total, position_total}
use Rattle.shunt_blocks.specs.declared.records.Block.{Block}
use Rattle.shunt_blocks.specs.defs.Shapes.{shape_of, unit_from, position_from}
use Rattle.shunt_blocks.specs.defs.Lists.{has_unit, has_position, times_unit, times_position, ShareNothing}
use Rattle.shunt_choices.specs.defs.EntryRuns.{filled}
use Rattle.shunt_choices.specs.defs.Paths.{masks_of}

-- ---- filled lists

pub length_filled : {X : Type 0} (xs : List X) (from n : ℕ) (v : X) → length (filled xs from n v) ≡ length xs
length_filled xs from zero v = refl
length_filled xs from (suc n) v = length-set (filled xs from n v) (from + n) v ∙ length_filled xs from n v

filled_at : {X : Type 0} (xs : List X) (from n : ℕ) (v d : X) (i : ℕ) → from + n ≤ length xs → from ≤ i → i < from + n → get_or (filled xs from n v) i d ≡ v
filled_at xs from zero v d i le above below = absurd (omega (arith, above, below))
filled_at xs from (suc n) v d i le above below = ⊎_elim
    (λ less. get_or-set_other (filled xs from n v) (from + n) i v d (λ e. absurd (omega (arith, less, e))) ∙ filled_at xs from n v d i (omega (arith, le)) above less)
    (λ ge. let e : from + n ≡ i = omega (arith, ge, below) in
    subst (λ (j : ℕ). get_or (set (filled xs from n v) (from + n) v) j d ≡ v) e (get_or-set_same (filled xs from n v) (from + n) v d
    (omega (arith, le, length_filled xs from n v))))
    (cases_lt i (from + n))

filled_before : {X : Type 0} (xs : List X) (from n : ℕ) (v d : X) (i : ℕ) → i < from → get_or (filled xs from n v) i d ≡ get_or xs i d
filled_before xs from zero v d i lt = refl
filled_before xs from (suc n) v d i lt = get_or-set_other (filled xs from n v) (from + n) i v d (λ e. absurd (omega (arith, lt, e))) ∙ filled_before xs from n v d i lt

filled_after : {X : Type 0} (xs : List X) (from n : ℕ) (v d : X) (i : ℕ) → from + n ≤ i → get_or (filled xs from n v) i d ≡ get_or xs i d
filled_after xs from zero v d i ge = refl
filled_after xs from (suc n) v d i ge = get_or-set_other (filled xs from n v) (from + n) i v d (λ e. absurd (omega (arith, ge, e)))
    ∙ filled_after xs from n v d i (omega (arith, ge))

-- whether i is one of the n numbers from one on
abbrev pub is_within : ℕ → ℕ → ℕ → Bool
is_within from n i = nat_le from i && nat_lt i (from + n)

read_filled : {X : Type 0} (xs : List X) (from n : ℕ) (v d : X) (i : ℕ) → from + n ≤ length xs → get_or (filled xs from n v) i d ≡ cond (is_within from n i) v (get_or xs i d)
read_filled xs from n v d i le = ⊎_elim
    (λ before. filled_before xs from n v d i before ∙ ap (λ t. cond t v (get_or xs i d)) (outside before))
    (λ from_on. ⊎_elim
    (λ inside. filled_at xs from n v d i le from_on inside ∙ ap (λ t. cond t v (get_or xs i d)) (within from_on inside))
    (λ after. filled_after xs from n v d i after ∙ ap (λ t. cond t v (get_or xs i d)) (past after))
    (cases_lt i (from + n)))
    (cases_lt i from)
  where
    outside : i < from → false ≡ is_within from n i
    outside lt = grind (arith, nat_tests)

    within : from ≤ i → i < from + n → true ≡ is_within from n i
    within le lt = grind (arith, nat_tests)

    past : from + n ≤ i → false ≡ is_within from n i
    past le = grind (arith, nat_tests)

-- a list of f's values with a run filled is that of g's values, where g has the value there and is f elsewhere
pub filled_values : (f g : ℕ → Bool) (total from n : ℕ) (v : Bool) → from + n ≤ total → ((i : ℕ) → cond (is_within from n i) v (f i) ≡ g i)
    → filled (map f (range_with_len 0 total)) from n v ≡ map g (range_with_len 0 total)
filled_values f g total from n v le same =
    let size = length-map-range_with_len f 0 total in
    ext_get_or false _ _ (length_filled (map f (range_with_len 0 total)) from n v ∙ size ∙ sym (length-map-range_with_len g 0 total))
    (λ i lt. let lower : i < total = omega (arith, lt, length_filled (map f (range_with_len 0 total)) from n v, size) in
    read_filled (map f (range_with_len 0 total)) from n v false i (omega (arith, le, size))
    ∙ ap (λ t. cond (is_within from n i) v t) (get_or-map-range_with_len f 0 total i i false lower (omega arith))
    ∙ same i
    ∙ sym (get_or-map-range_with_len g 0 total i i false lower (omega arith)))

-- ---- counts of one block more

pub unit_more : (night : Night) (blocks : List Block) (b : Block) (u : ℕ) → times_unit night (blocks ++ b ∷ []) u
    ≡ times_unit night blocks u + cond (has_unit night (shape_of b) u) 1 0
unit_more night blocks b u = omega (arith, sum_by-append (λ c. cond (has_unit night (shape_of c) u) 1 0) blocks (b ∷ []))

pub position_more : (night : Night) (blocks : List Block) (b : Block) (v : ℕ) → times_position night (blocks ++ b ∷ []) v
    ≡ times_position night blocks v + cond (has_position night (shape_of b) v) 1 0
position_more night blocks b v = omega (arith, sum_by-append (λ c. cond (has_position night (shape_of c) v) 1 0) blocks (b ∷ []))

-- ---- masks of one block more, and of one less

taken : (has : Bool) (times now : ℕ) → now ≡ times + cond has 1 0 → cond has true (not (times == 0)) ≡ not (now == 0)
taken true times now e = grind (arith, nat_tests)
taken false times now e = grind (arith, nat_tests)

given_back : (has : Bool) (times now : ℕ) → now ≡ times + cond has 1 0 → now ≤ 1 → cond has false (not (now == 0)) ≡ not (times == 0)
given_back true times now e few = grind (arith, nat_tests)
given_back false times now e few = grind (arith, nat_tests)

pub units_pushed : (night : Night) (blocks : List Block) (b : Block) → unit_from night (shape_of b) + b.n ≤ unit_total night
    → filled (masks_of night blocks).units (unit_from night (shape_of b)) b.n true ≡ (masks_of night (blocks ++ b ∷ [])).units
units_pushed night blocks b le = filled_values (λ u. not (times_unit night blocks u == 0)) (λ u. not (times_unit night (blocks ++ b ∷ []) u == 0)) (unit_total night)
    (unit_from night (shape_of b)) b.n true le
    (λ u. taken (has_unit night (shape_of b) u) (times_unit night blocks u) (times_unit night (blocks ++ b ∷ []) u) (unit_more night blocks b u))

pub positions_pushed : (night : Night) (blocks : List Block) (b : Block) → position_from night (shape_of b) + b.n ≤ position_total night
    → filled (masks_of night blocks).places (position_from night (shape_of b)) b.n true ≡ (masks_of night (blocks ++ b ∷ [])).places
positions_pushed night blocks b le = filled_values (λ v. not (times_position night blocks v == 0)) (λ v. not (times_position night (blocks ++ b ∷ []) v == 0))
    (position_total night) (position_from night (shape_of b)) b.n true le
    (λ v. taken (has_position night (shape_of b) v) (times_position night blocks v) (times_position night (blocks ++ b ∷ []) v) (position_more night blocks b v))

pub units_popped : (night : Night) (blocks : List Block) (b : Block) → ShareNothing night (blocks ++ b ∷ []) → unit_from night (shape_of b) + b.n ≤ unit_total night
    → filled (masks_of night (blocks ++ b ∷ [])).units (unit_from night (shape_of b)) b.n false ≡ (masks_of night blocks).units
units_popped night blocks b apart le = filled_values (λ u. not (times_unit night (blocks ++ b ∷ []) u == 0)) (λ u. not (times_unit night blocks u == 0)) (unit_total night)
    (unit_from night (shape_of b)) b.n false le
    (λ u. given_back (has_unit night (shape_of b) u) (times_unit night blocks u) (times_unit night (blocks ++ b ∷ []) u) (unit_more night blocks b u) (apart.units u))

pub positions_popped : (night : Night) (blocks : List Block) (b : Block) → ShareNothing night (blocks ++ b ∷ []) → position_from night (shape_of b) + b.n ≤ position_total night
    → filled (masks_of night (blocks ++ b ∷ [])).places (position_from night (shape_of b)) b.n false ≡ (masks_of night blocks).places
positions_popped night blocks b apart le = filled_values (λ v. not (times_position night (blocks ++ b ∷ []) v == 0)) (λ v. not (times_position night blocks v == 0))
    (position_total night) (position_from night (shape_of b)) b.n false le
    (λ v. given_back (has_position night (shape_of b) v) (times_position night blocks v) (times_position night (blocks ++ b ∷ []) v) (position_more night blocks b v)
    (apart.positions v))

pub nothing_covered : (night : Night) → masks_of night [] ≡ record { units = replicate (unit_total night) false; places = replicate (position_total night) false }
nothing_covered night = cc (values (unit_total night), values (position_total night))
  where
    values : (n : ℕ) → map (λ u. not (0 == 0)) (range_with_len 0 n) ≡ replicate n false
    values n = ext_get_or false _ _ (length-map-range_with_len (λ u. not (0 == 0)) 0 n ∙ sym (length-replicate n false))
        (λ i lt. let lower : i < n = omega (arith, lt, length-map-range_with_len (λ u. not (0 == 0)) 0 n) in
        get_or-map-range_with_len (λ u. not (0 == 0)) 0 n i i false lower (omega arith) ∙ sym (get_or-replicate n i false false lower))
