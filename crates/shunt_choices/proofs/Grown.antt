-- Lists of blocks that grow by a block of uncovered units and positions.
use Rattle.std.specs.Prelude.{not, ◌==◌, map, slice_index_or, Option, Some, None}
use Rattle.std.specs.List.{range_with_len}
use Rattle.std.proofs.Common.{◌≡◌, ⊎_elim, ℕ, ◌<◌, ◌≤◌, Bool, true, false, List, [], ◌∷◌, ◌++◌, refl, ap, ◌∙◌, arith}
use Rattle.std.proofs.lemmas.Bool.{cases_lt, not-true, not-false}
use Rattle.std.proofs.lemmas.Bool.Decides.{nat_tests}
use Rattle.std.proofs.lemmas.List.Quantifiers.{position-Some}
use Rattle.std.proofs.lemmas.List.FromFn.{get_or-map-range_with_len}
use Rattle.shunt_instance.specs.defs.Instance.{Night, unit_total, position_total}
use Rattle.shunt_blocks.specs.declared.records.Block.{Block}
use Rattle.shunt_blocks.specs.defs.Shapes.{shape_of, begins_at, HasUnit, HasPosition}
use Rattle.shunt_blocks.specs.defs.Blocks.{IsBlockButId}
use Rattle.shunt_blocks.specs.defs.Lists.{has_unit, has_position, times_unit, times_position, ShareNothing}
use Rattle.shunt_choices.proofs.Given.{PlaceLaws}
use Rattle.shunt_choices.specs.defs.Paths.{masks_of, next_of}
use Rattle.shunt_choices.specs.defs.Choices.{Choice, IsChoice, chosen}
use Rattle.shunt_choices.proofs.Masks.{unit_more, position_more}
use Rattle.shunt_choices.proofs.Trails.{length_units, not_taken, few_more}
use Rattle.shunt_lists.proofs.Lists.{none_passes, count_some as taken}
use Rattle.shunt_blocks.proofs.Shapes.{has_from, has_position_from}

-- ---- the least uncovered unit

-- no block has it, and of each unit before it one has it
pub record IsNext (night : Night) (blocks : List Block) (u : ℕ) : Type 0 where
  pub there : u < unit_total night
  pub free : times_unit night blocks u ≡ 0
  pub before : (w : ℕ) → w < u → 1 ≤ times_unit night blocks w

-- and false where it is
pub left_free : (count : ℕ → ℕ) (total i : ℕ) (d : Bool) → i < total → count i ≡ 0 → slice_index_or (map (λ k. not (count k == 0)) (range_with_len 0 total)) i d ≡ false
left_free count total i d lt e =
    get_or-map-range_with_len (λ k. not (count k == 0)) 0 total i i d lt (omega arith) ∙ none (count i) e
  where
    none : (n : ℕ) → n ≡ 0 → not (n == 0) ≡ false
    none n h = grind (arith, nat_tests)

pub next_is : (night : Night) (blocks : List Block) (u : ℕ) → next_of (masks_of night blocks) ≡ Some u → IsNext night blocks u
next_is night blocks u e =
    let found = position-Some (λ c. not c) (masks_of night blocks).units u false e in
    let lt : u < unit_total night = omega (arith, found.0, length_units night blocks) in
    record {
      there = lt;
      free = not_taken (times_unit night blocks) (unit_total night) u false lt (not-true _ found.1);
      before = λ w less. taken (times_unit night blocks) (unit_total night) w false (omega (arith, less, lt)) (not-false _ (found.2 w less));
    }

pub next_at : (night : Night) (blocks : List Block) (u : ℕ) → IsNext night blocks u → next_of (masks_of night blocks) ≡ Some u
next_at night blocks u h = at (next_of (masks_of night blocks)) refl
  where
    at : (o : Option ℕ) → next_of (masks_of night blocks) ≡ o → next_of (masks_of night blocks) ≡ Some u
    at None e =
        let fails = none_passes (λ c. not c) (masks_of night blocks).units u false e (omega (arith, h.there, length_units night blocks)) in
        absurd (omega (arith, taken (times_unit night blocks) (unit_total night) u false h.there (not-false _ fails), h.free))
    at (Some w) e =
        let x = next_is night blocks w e in
        let same : w ≡ u = ⊎_elim
        (λ less. absurd (omega (arith, h.before w less, x.free)))
        (λ ge. ⊎_elim (λ more. absurd (omega (arith, x.before u more, h.free))) (λ le. omega (arith, ge, le)) (cases_lt u w))
        (cases_lt w u) in
        e ∙ ap Some same

-- ---- a block more

-- a block none of whose units and positions these blocks have
pub record IsFreeBlock (night : Night) (blocks : List Block) (b : Block) : Type 0 where
  pub units : (w : ℕ) → HasUnit night (shape_of b) w → times_unit night blocks w ≡ 0
  pub positions : (v : ℕ) → HasPosition night (shape_of b) v → times_position night blocks v ≡ 0

pub grown_apart : (night : Night) (blocks : List Block) (b : Block) → ShareNothing night blocks → IsFreeBlock night blocks b → ShareNothing night (blocks ++ b ∷ [])
grown_apart night blocks b apart free = record {
  units = λ u. few_more (times_unit night blocks u) _ (has_unit night (shape_of b) u) (unit_more night blocks b u) (apart.units u) (λ e. free.units u (has_from night b u e));
  positions = λ v. few_more (times_position night blocks v) _ (has_position night (shape_of b) v) (position_more night blocks b v) (apart.positions v)
      (λ e. free.positions v (has_position_from night b v e));
}

-- the block of a choice is such a block
pub choice_free : (places : PlaceLaws) (night : Night) (blocks : List Block) (u id : ℕ) (c : Choice) → IsChoice night (masks_of night blocks) u c
    → IsFreeBlock night blocks (chosen id c)
choice_free places night blocks u id c h = record {
  units = λ w has. not_taken (times_unit night blocks) (unit_total night) w true (places.unit_in night c.shape w h.shape.shape.within has) (h.shape.units w has);
  positions = λ v has. not_taken (times_position night blocks) (position_total night) v true (places.position_in night c.shape v h.shape.shape.within has)
      (h.shape.positions v has);
}

pub choice_fits : (night : Night) (blocks : List Block) (u id : ℕ) (c : Choice) → IsChoice night (masks_of night blocks) u c → IsBlockButId night (chosen id c)
choice_fits night blocks u id c h = record { shape = h.shape.shape; option = h.option }

-- and such a block gives a choice at its first unit
abbrev pub choice_of : Block → Choice
choice_of b = record { shape = shape_of b; option = b.park }

pub free_choice : (places : PlaceLaws) (night : Night) (blocks : List Block) (b : Block) → IsBlockButId night b → IsFreeBlock night blocks b
    → IsChoice night (masks_of night blocks) (begins_at night b) (choice_of b)
free_choice places night blocks b fits free = record {
  shape = record {
    shape = fits.shape;
    first = refl;
    units = λ w has. left_free (times_unit night blocks) (unit_total night) w true (places.unit_in night (shape_of b) w fits.shape.within has) (free.units w has);
    positions = λ v has. left_free (times_position night blocks) (position_total night) v true (places.position_in night (shape_of b) v fits.shape.within has)
        (free.positions v has);
  };
  option = fits.option;
}
