-- The block of one more choice at a path.
use Rattle.std.specs.Prelude.{unwrap_or, slice_index_or, true, false, Option, Some, None}
use Rattle.std.specs.Option.{IsSomeAnd}
use Rattle.std.proofs.Common.{◌≡◌, ℕ, ◌+◌, ◌≤◌, List, [], ◌∷◌, ◌++◌, length, sym, ap, subst, ◌∙◌}
use Rattle.shunt_instance.specs.defs.Instance.{Night, unit_at}
use Rattle.shunt_blocks.specs.declared.records.Block.{Block}
use Rattle.shunt_blocks.specs.defs.Shapes.{IsInRange, shape_of, begins_at, HasUnit, HasPosition}
use Rattle.shunt_choices.specs.defs.Paths.{Masks, Trail, IsTrailOf, masks_of, next_of}
use Rattle.shunt_choices.specs.defs.Choices.{Choice as PathChoice, IsChoice, IsChoiceAt, longer_by, chosen}
use Rattle.shunt_proof.specs.declared.records.Choice.{Choice}
use Rattle.shunt_proof.specs.defs.Trees.{choice_at, choice_from}
use Rattle.shunt_blocks.proofs.Shapes.{on_track as on_option}

module _ (night : Night) (covered : Masks) (u : ℕ) (d : PathChoice) (h : IsChoice night covered u d) (id : ℕ) (b : Block) (is : b ≡ chosen id d) where
  pub in_range_as : 1 ≤ id → id ≤ 1000000 → IsInRange night b
  in_range_as some few = subst (IsInRange night) (sym is) (record {
    from = some;
    to = few;
    within = record
        { runs = h.shape.shape.within; track = on_option night d.shape d.option h.option };
  })

  pub next_as : next_of covered ≡ Some u → next_of covered ≡ Some (begins_at night b)
  next_as e = e ∙ ap (λ (n : ℕ). Some n) (sym (ap (λ (x : Block). begins_at night x) is ∙ h.shape.first))

  pub units_as : (v : ℕ) → HasUnit night (shape_of b) v → slice_index_or covered.units v true ≡ false
  units_as v has = h.shape.units v (subst (λ (x : Block). HasUnit night (shape_of x) v) is has)

  pub positions_as : (v : ℕ) → HasPosition night (shape_of b) v → slice_index_or covered.places v true ≡ false
  positions_as v has = h.shape.positions v (subst (λ (x : Block). HasPosition night (shape_of x) v) is has)

pub grown_by : (old new : List Block) (id : ℕ) (b : Block) (d : PathChoice) → id ≡ length old + 1 → b ≡ chosen id d → new ≡ old ++ b ∷ [] → new ≡ longer_by old d
grown_by old new id b d ei eb en = en ∙ (ap (λ (x : Block). old ++ x ∷ []) eb ∙ ap (λ (n : ℕ). old ++ chosen n d ∷ []) ei)

module _ (night : Night) (t : Trail) (of : IsTrailOf night t) where
  next_masks : (n : Option ℕ) → next_of t.covered ≡ n → next_of (masks_of night t.blocks) ≡ n
  next_masks n e = ap (λ (m : Masks). next_of m) (sym of.covered) ∙ e

  pub some_next : (d : PathChoice) → IsChoiceAt night t.blocks d → next_of t.covered ≡ None → ⊥
  some_next d h e = subst (λ (n : Option ℕ). IsSomeAnd n (λ u. IsChoice night (masks_of night t.blocks) u d)) (next_masks None e) h

  module _ (u : ℕ) (next : next_of t.covered ≡ Some u) (choice : Choice) where
    pub from_is : choice_from night t.blocks choice ≡ choice_at (unit_at night u) choice
    from_is = ap (λ (n : Option ℕ). choice_at (unit_at night (unwrap_or n 0)) choice) (next_masks (Some u) next)

    pub choice_here : IsChoiceAt night t.blocks (choice_from night t.blocks choice) → IsChoice night t.covered u (choice_at (unit_at night u) choice)
    choice_here h =
        let at : IsChoice night (masks_of night t.blocks) u (choice_from night t.blocks choice) = subst
        (λ (n : Option ℕ). IsSomeAnd n (λ w. IsChoice night (masks_of night t.blocks) w (choice_from night t.blocks choice))) (next_masks (Some u) next) h in
        subst (λ (m : Masks). IsChoice night m u (choice_at (unit_at night u) choice)) (sym of.covered) (subst (IsChoice night (masks_of night t.blocks) u) from_is at)

    pub longer_is : (o : PathChoice) (new : List Block) → o ≡ choice_at (unit_at night u) choice → new ≡ longer_by t.blocks o
        → new ≡ longer_by t.blocks (choice_from night t.blocks choice)
    longer_is o new eo en = en ∙ ap (λ (d : PathChoice). longer_by t.blocks d) (eo ∙ sym from_is)
