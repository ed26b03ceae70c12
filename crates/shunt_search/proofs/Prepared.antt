-- The pins in order as the path of a root.
use Rattle.std.proofs.Common.{◌≡◌, ℕ, List, sym, subst, ◌∙◌}
use Rattle.shunt_instance.specs.defs.Instance.{Night, IsInstance, unit_total, position_total}
use Rattle.shunt_instance.specs.defs.Matching.{IsMatching, IsMatchingOfRest, unit_entries, position_entries}
use Rattle.shunt_blocks.specs.declared.records.Block.{Block}
use Rattle.shunt_blocks.specs.defs.Lists.{units_taken, positions_taken}
use Rattle.shunt_blocks.specs.defs.Pins.{AreUsable}
use Rattle.shunt_choices.specs.defs.Paths.{Masks, Trail, IsTrailOf, masks_of}
use Rattle.shunt_matching.specs.defs.Nights.{Matches, MatchesRest}
use Rattle.shunt_proof.specs.defs.Trees.{IsStart}
use Rattle.shunt_choices.proofs.Counted.{same_masks}

pub covered_as : (night : Night) (pins : List Block) (t : Trail) → IsTrailOf night t → IsStart night pins t.blocks → t.covered ≡ masks_of night pins
covered_as night pins t of start = of.covered ∙ sym (same_masks night pins t.blocks start.same)

-- what the laws of the crates below say
pub record MatchLaws : Type 0 where
  pub of_rest : (night : Night) (pins : List Block) (place : List ℕ) → IsInstance night → AreUsable night pins
      → IsMatchingOfRest (unit_entries night) (position_entries night) (units_taken night pins) (positions_taken night pins) place
      → (whole : List ℕ) × IsMatching (unit_entries night) (position_entries night) whole
  pub as_many : (night : Night) (place : List ℕ) → Matches night place → position_total night ≡ unit_total night

pub matched_all : MatchLaws → (night : Night) (pins : List Block) (t : Trail) (place : List ℕ) → IsInstance night → AreUsable night pins → IsTrailOf night t
    → IsStart night pins t.blocks
    → MatchesRest night t.covered.units t.covered.places place → ((whole : List ℕ) × Matches night whole) × (position_total night ≡ unit_total night)
matched_all laws night pins t place i usable of start matching =
    let rest = subst (λ (m : Masks). MatchesRest night m.units m.places place) (covered_as night pins t of start) matching in
    let whole = laws.of_rest night pins place i usable rest in
    (whole, laws.as_many night whole.0 whole.1)
