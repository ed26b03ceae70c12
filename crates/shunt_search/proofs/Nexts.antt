-- The next block at a path.
use Rattle.std.specs.Prelude.{All, Option, Some, None, slice_index_or}
use Rattle.std.specs.Option.{IsSomeAnd}
use Rattle.std.proofs.Common.{◌≡◌, ℕ, ◌≤◌, true, false, List, [], ◌∷◌, ◌++◌, length, refl, sym, subst, ap, ◌∙◌, arith}
use Rattle.shunt_instance.specs.defs.Instance.{Night}
use Rattle.shunt_blocks.specs.declared.records.Block.{Block}
use Rattle.shunt_blocks.specs.defs.Shapes.{shape_of, begins_at, IsInRange, IsWithinTrains, HasUnit, HasPosition}
use Rattle.shunt_blocks.specs.defs.Blocks.{IsBlockButId}
use Rattle.shunt_blocks.specs.defs.Lists.{ShareNothing}
use Rattle.shunt_choices.specs.defs.Paths.{Trail, IsTrailOf, masks_of, next_of}
use Rattle.shunt_choices.specs.defs.Choices.{IsChoice}
use Rattle.shunt_choices.proofs.Given.{PlaceLaws}
use Rattle.shunt_choices.proofs.Trails.{pushed}
use Rattle.shunt_prices.specs.defs.Cases.{IsFreeBlock}
use Rattle.shunt_search.specs.defs.Yards.{choice_of, IsNextBlock}
use Rattle.shunt_blocks.proofs.Shapes.{on_track}

-- what a path asks of a block that it gets, and what it is then
pub record Pushes (night : Night) (t : Trail) (b : Block) : Type 0 where
  pub in_range : IsInRange night b
  pub next : next_of t.covered ≡ Some (begins_at night b)
  pub units : (u : ℕ) → HasUnit night (shape_of b) u → slice_index_or t.covered.units u true ≡ false
  pub positions : (v : ℕ) → HasPosition night (shape_of b) v → slice_index_or t.covered.places v true ≡ false
  pub apart : ShareNothing night (t.blocks ++ b ∷ [])
  pub within : All (IsWithinTrains night) (t.blocks ++ b ∷ [])

pub at_unit : (o : Option ℕ) (P : ℕ → Type 0) → IsSomeAnd o P → (u : ℕ) × (o ≡ Some u) × P u
at_unit None P h = absurd h
at_unit (Some u) P h = (u, refl, h)

pub next_within : (night : Night) (path : List Block) (b : Block) → IsNextBlock night path b → IsWithinTrains night b
next_within night path b next =
    let r = at_unit (next_of (masks_of night path)) (λ u. IsChoice night (masks_of night path) u (choice_of b)) next.choice in
    record { runs = r.2.shape.shape.within; track = on_track night (shape_of b) b.park r.2.option }

pub next_in_range : (night : Night) (path : List Block) (b : Block) → length path ≤ 160 → IsNextBlock night path b → IsInRange night b
next_in_range night path b few next =
    let id = next.id in
    record { from = omega (arith, id); to = omega (arith, id, few); within = next_within night path b next }

pub next_fits : (night : Night) (path : List Block) (b : Block) → IsNextBlock night path b → IsBlockButId night b
next_fits night path b next =
    let r = at_unit (next_of (masks_of night path)) (λ u. IsChoice night (masks_of night path) u (choice_of b)) next.choice in
    record { shape = r.2.shape.shape; option = r.2.option }

pub next_free : (night : Night) (path : List Block) (b : Block) → IsNextBlock night path b → IsFreeBlock night (masks_of night path) (shape_of b) b.park
next_free night path b next =
    let r = at_unit (next_of (masks_of night path)) (λ u. IsChoice night (masks_of night path) u (choice_of b)) next.choice in
    record { shape = record { shape = r.2.shape.shape; first = refl; units = r.2.shape.units; positions = r.2.shape.positions }; option = r.2.option }

pub pushes : (places : PlaceLaws) (night : Night) (t : Trail) (b : Block) → IsTrailOf night t → length t.blocks ≤ 160 → IsNextBlock night t.blocks b → Pushes night t b
pushes places night t b of few next =
    let r = at_unit (next_of (masks_of night t.blocks)) (λ u. IsChoice night (masks_of night t.blocks) u (choice_of b)) next.choice in
    let c = r.2 in
    let id = next.id in
    let in_range : IsInRange night b = record { from = omega (arith, id); to = omega (arith, id, few); within = next_within night t.blocks b next } in
    let units : (u : ℕ) → HasUnit night (shape_of b) u → slice_index_or t.covered.units u true
    ≡ false = (λ u has. subst (λ m. slice_index_or m.units u true ≡ false) (sym of.covered) (c.shape.units u has)) in
    let positions : (v : ℕ) → HasPosition night (shape_of b) v → slice_index_or t.covered.places v true
    ≡ false = (λ v has. subst (λ m. slice_index_or m.places v true ≡ false) (sym of.covered) (c.shape.positions v has)) in
    let trail = pushed places night t b of in_range units positions in
    record {
      in_range = in_range;
      next = ap next_of of.covered ∙ r.1 ∙ ap Some (sym c.shape.first);
      units = units;
      positions = positions;
      apart = trail.apart;
      within = λ k d lt. (trail.each k d lt).within;
    }
