-- The choices at a list of blocks are those for its least uncovered unit.
use Rattle.std.specs.Prelude.{◌↔◌, not}
use Rattle.std.specs.Option.{IsSomeAnd}
use Rattle.std.proofs.Common.{◌≡◌, ℕ, ◌<◌, false, List, Option, Some, None, refl, sym, ap, subst, arith}
use Rattle.std.proofs.lemmas.List.Quantifiers.{position-Some}
use Rattle.shunt_lists.specs.defs.Members.{In}
use Rattle.shunt_instance.specs.defs.Instance.{Night, IsInstance, unit_total}
use Rattle.shunt_blocks.specs.declared.records.Block.{Block}
use Rattle.shunt_blocks.specs.defs.Shapes.{unit_from}
use Rattle.shunt_choices.specs.defs.Paths.{masks_of, next_of}
use Rattle.shunt_choices.specs.defs.Choices.{Choice, IsChoice, IsChoiceAt, choices_where, choices_at}
use Rattle.shunt_choices.proofs.Given.{PlaceLaws}
use Rattle.shunt_choices.proofs.Trails.{length_units}
use Rattle.shunt_choices.proofs.Offered.{choices_are}

pub next_in : (night : Night) (blocks : List Block) (u : ℕ) → next_of (masks_of night blocks) ≡ Some u → u < unit_total night
next_in night blocks u e = omega (arith, (position-Some (λ c. not c) (masks_of night blocks).units u false e).0, length_units night blocks)

pub choices_at_are : (places : PlaceLaws) (night : Night) (blocks : List Block) (c : Choice) → IsInstance night → In c (choices_at night blocks) ↔ IsChoiceAt night blocks c
choices_at_are places night blocks c is = at (next_of (masks_of night blocks)) refl
  where
    at : (o : Option ℕ) → next_of (masks_of night blocks) ≡ o → In c (choices_where night (masks_of night blocks) o) ↔ IsSomeAnd o (λ u. IsChoice night (masks_of night blocks) u c)
    at None e = (λ i. absurd i, λ h. absurd h)
    at (Some u) e = choices_are places night (masks_of night blocks) u c is (next_in night blocks u e)

-- a choice for the next unit is one for the unit at which its shape begins
pub for_next : (night : Night) (path : List Block) (next : Option ℕ) (c : Choice) → IsSomeAnd next (λ u. IsChoice night (masks_of night path) u c)
    → (next ≡ Some (unit_from night c.shape)) × IsChoice night (masks_of night path) (unit_from night c.shape) c
for_next night path None c never = absurd never
for_next night path (Some u) c is = (
  ap (λ (n : ℕ). Some n) (sym is.shape.first),
  subst (λ (w : ℕ). IsChoice night (masks_of night path) w c) (sym is.shape.first) is,
)
