-- The plan that parks nothing but the pins, unit by unit.
use Rattle.std.specs.Prelude.{not, cond, ◌==◌, slice_index_or}
use Rattle.std.proofs.Common.{◌≡◌, ℕ, suc, ◌+◌, ◌<◌, Bool, true, false, List, [], ◌∷◌, ◌++◌, length, refl, sym, ap, ◌∙◌, arith}
use Rattle.std.proofs.lemmas.List.{append_assoc}
use Rattle.std.proofs.lemmas.List.FromFn.{get_or-map-range_with_len}
use Rattle.shunt_instance.specs.defs.Instance.{Night, unit_total}
use Rattle.shunt_instance.specs.defs.Matching.{place_of}
use Rattle.shunt_blocks.specs.declared.records.Block.{Block}
use Rattle.shunt_blocks.specs.defs.Lists.{times_unit}
use Rattle.shunt_blocks.specs.defs.Pins.{single, singles_below}
use Rattle.shunt_choices.specs.defs.Paths.{Masks, masks_of}
use Rattle.shunt_choices.proofs.Trails.{length_units}

turned : {X : Type 0} (b : Bool) (x y : X) → cond (not b) x y ≡ cond b y x
turned true x y = refl
turned false x y = refl

module _ (night : Night) (pins : List Block) (covered : Masks) (place : List ℕ) (is : covered ≡ masks_of night pins) where
  taken : (u : ℕ) → u < unit_total night → slice_index_or covered.units u false ≡ not (times_unit night pins u == 0)
  taken u lt =
      ap (λ (m : Masks). slice_index_or m.units u false) is
      ∙ get_or-map-range_with_len (λ k. not (times_unit night pins k == 0)) 0 (unit_total night) u u false lt (omega arith)

  next_singles : (u : ℕ) → u < unit_total night → singles_below night pins place (u + 1) ≡ singles_below night pins place u
      ++ cond (slice_index_or covered.units u false) [] (single night u (place_of place u) ∷ [])
  next_singles u lt =
      let e : u + 1 ≡ suc u = omega arith in
      ap (λ (k : ℕ). singles_below night pins place k) e
      ∙ ap (λ (l : List Block). singles_below night pins place u ++ l)
      (sym (turned (times_unit night pins u == 0) [] (single night u (place_of place u) ∷ []))
      ∙ ap (λ (b : Bool). cond b [] (single night u (place_of place u) ∷ [])) (sym (taken u lt)))

  -- the blocks up to a unit become those up to the next one
  pub more_singles : (us : List Bool) → us ≡ covered.units → (u : ℕ) → u < unit_total night → (old new : List Block) → old ≡ pins ++ singles_below night pins place u
      → new ≡ old ++ cond (slice_index_or us u false) [] (single night u (place_of place u) ∷ []) → new ≡ pins ++ singles_below night pins place (u + 1)
  more_singles us same u lt old new before now =
      now
      ∙ ap (λ (l : List Block). l ++ cond (slice_index_or us u false) [] (single night u (place_of place u) ∷ [])) before
      ∙ ap (λ (l : List Bool). (pins ++ singles_below night pins place u) ++ cond (slice_index_or l u false) [] (single night u (place_of place u) ∷ [])) same
      ∙ append_assoc pins (singles_below night pins place u) (cond (slice_index_or covered.units u false) [] (single night u (place_of place u) ∷ []))
      ∙ ap (λ (l : List Block). pins ++ l) (sym (next_singles u lt))

pub covered_long : (night : Night) (pins : List Block) (covered : Masks) → covered ≡ masks_of night pins → length covered.units ≡ unit_total night
covered_long night pins covered is = ap (λ (m : Masks). length m.units) is ∙ length_units night pins
