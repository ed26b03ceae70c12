-- The next unit of a path, and the masks of its blocks.
use Rattle.std.specs.Prelude.{not, Some, false}
use Rattle.std.proofs.Common.{◌≡◌, ℕ, ◌<◌, sym, ap, ◌∙◌, arith}
use Rattle.std.proofs.lemmas.List.Quantifiers.{position-Some}
use Rattle.shunt_instance.specs.defs.Instance.{Night, unit_total}
use Rattle.shunt_choices.specs.defs.Paths.{Masks, Trail, IsTrailOf, masks_of, next_of}
use Rattle.shunt_choices.proofs.Trails.{length_units}

pub next_in : (night : Night) (path : Trail) (u : ℕ) → IsTrailOf night path → next_of path.covered ≡ Some u → u < unit_total night
next_in night path u of e =
    let at : next_of (masks_of night path.blocks) ≡ Some u = ap (λ (m : Masks). next_of m) (sym of.covered) ∙ e in
    omega (arith, (position-Some (λ c. not c) (masks_of night path.blocks).units u false at).0, length_units night path.blocks)
