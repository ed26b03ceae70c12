-- A path with one block more: its blocks, and what is left of a stack's candidates.
use Rattle.std.specs.Prelude.{filter, not, slice_index_or, All}
use Rattle.std.proofs.Common.{◌≡◌, ⊎_elim, Bool, true, false, List, [], ◌∷◌, ◌++◌, refl, sym, subst, ap, ◌∙◌}
use Rattle.std.proofs.lemmas.Bool.{cases_Bool}
use Rattle.std.proofs.lemmas.List.Elements.{All-push}
use Rattle.shunt_lists.proofs.Members.{filter_yes, filter_no, filter_from}
use Rattle.shunt_base.specs.declared.duals.Case.{Case}
use Rattle.shunt_instance.specs.defs.Instance.{Night}
use Rattle.shunt_blocks.specs.declared.records.Block.{Block}
use Rattle.shunt_blocks.specs.defs.Blocks.{IsBlockButId}
use Rattle.shunt_blocks.specs.defs.Lists.{ShareNothing}
use Rattle.shunt_choices.specs.defs.Paths.{Masks, Trail, IsTrailOf}
use Rattle.shunt_choices.proofs.Given.{PlaceLaws}
use Rattle.shunt_choices.proofs.Trails.{pushed}
use Rattle.shunt_stacks.specs.defs.Stacks.{Stack}
use Rattle.shunt_stacks.specs.defs.Numbers.{AreFreeOf, shares, apart_of}
use Rattle.shunt_fillings.specs.declared.candidates.Candidate.{Candidate}
use Rattle.shunt_fillings.specs.defs.Pieces.{blocks_in, AreCandidates}
use Rattle.shunt_fillings.specs.defs.Scenes.{MayCome}

-- ---- candidates

abbrev pub left : Night → Block → List Candidate → List Candidate
left night b ks = filter (λ k. not (shares night b k.block)) ks

module _ (p : Block → Bool) where
  abbrev passed : List Candidate → List Candidate
  passed ks = filter (λ k. p k.block) ks

  one_more_left : (k : Candidate) (ks : List Candidate) → blocks_in (passed ks) ≡ filter p (blocks_in ks) → blocks_in (passed (k ∷ ks)) ≡ filter p (blocks_in (k ∷ ks))
  one_more_left k ks known = ⊎_elim
      (λ (t : p k.block ≡ true). ap blocks_in (filter_yes (λ (j : Candidate). p j.block) k ks t)
      ∙ (ap (λ (l : List Block). k.block ∷ l) known ∙ sym (filter_yes p k.block (blocks_in ks) t)))
      (λ (f : p k.block ≡ false). ap blocks_in (filter_no (λ (j : Candidate). p j.block) k ks f) ∙ (known ∙ sym (filter_no p k.block (blocks_in ks) f)))
      (cases_Bool (p k.block))

  left_blocks : (ks : List Candidate) → blocks_in (passed ks) ≡ filter p (blocks_in ks)
  left_blocks [] = refl
  left_blocks (k ∷ ks) = one_more_left k ks (left_blocks ks)

pub left_are : (night : Night) (path : List Block) (b : Block) (c : Case) (stack : Stack) (ks : List Candidate) → AreCandidates night path c stack ks →
    (AreFreeOf night path c stack (blocks_in ks) → AreFreeOf night (path ++ b ∷ []) c stack (apart_of night b (blocks_in ks)))
    → AreCandidates night (path ++ b ∷ []) c stack (left night b ks)
left_are night path b c stack ks are law = record {
  free = subst (AreFreeOf night (path ++ b ∷ []) c stack) (sym (left_blocks (λ x. not (shares night b x)) ks)) (law are.free);
  gains = λ k i. are.gains k (filter_from (λ (j : Candidate). not (shares night b j.block)) ks k i).0;
  small = λ k i. are.small k (filter_from (λ (j : Candidate). not (shares night b j.block)) ks k i).0;
}

-- ---- blocks

module _ (places : PlaceLaws) (night : Night) (t : Trail) (of : IsTrailOf night t) (b : Block) (may : MayCome night t.blocks b) where
  pub longer_apart : ShareNothing night (t.blocks ++ b ∷ [])
  longer_apart = (pushed places night t b of may.in_range
      (λ u has. subst (λ (m : Masks). slice_index_or m.units u true ≡ false) (sym of.covered) (may.free.shape.units u has))
      (λ v has. subst (λ (m : Masks). slice_index_or m.places v true ≡ false) (sym of.covered) (may.free.shape.positions v has))).apart

pub longer_each : (night : Night) (path : List Block) (b : Block) → All (IsBlockButId night) path → MayCome night path b → All (IsBlockButId night) (path ++ b ∷ [])
longer_each night path b each may = All-push (IsBlockButId night) path b each (record { shape = may.free.shape.shape; option = may.free.option })
