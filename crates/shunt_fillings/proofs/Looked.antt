-- What a scene tells of its path.
use Rattle.std.specs.Prelude.{All}
use Rattle.std.proofs.Common.{◌≡◌, ℕ, ◌<◌, ◌≤◌, List, length, get_or, sym, subst, arith}
use Rattle.shunt_lists.proofs.Members.{in_place, to_all as from_members}
use Rattle.shunt_base.specs.declared.duals.Case.{Case}
use Rattle.shunt_instance.specs.declared.records.Station.{Station}
use Rattle.shunt_instance.specs.defs.Wellformed.{IsStation}
use Rattle.shunt_instance.specs.defs.Instance.{Night}
use Rattle.shunt_blocks.specs.declared.records.Block.{Block}
use Rattle.shunt_blocks.specs.defs.Shapes.{AreRunsWithin}
use Rattle.shunt_choices.specs.defs.Paths.{Masks, masks_of}
use Rattle.shunt_choices.specs.defs.Choices.{AreFreeShapes}
use Rattle.shunt_dual.specs.declared.case_offers.Offer.{Offer}
use Rattle.shunt_dual.specs.defs.Offers.{IsSmallOffer, AreOffers}
use Rattle.shunt_stacks.specs.defs.Stacks.{Stack}
use Rattle.shunt_fillings.specs.declared.candidates.Candidate.{Candidate}
use Rattle.shunt_fillings.specs.declared.scenes.Scene.{Scene}
use Rattle.shunt_fillings.specs.defs.Pieces.{AreTaken, AreCandidates}
use Rattle.shunt_fillings.specs.defs.Scenes.{IsScene}
use Rattle.shunt_fillings.proofs.Offered.{candidates_are}

pub few_tracks : (s t : Station) (k : ℕ) → s ≡ t → IsStation s → k < length t.tracks → k < 60
few_tracks s t k e is lt = let few : length t.tracks ≤ 60 = subst (λ (r : Station). length r.tracks ≤ 60) e is.few_tracks in omega (arith, few, lt)

pub candidates_at : (night : Night) (c : Case) (stack : Stack) (path other : List Block) (ks ls : List Candidate) → other ≡ path → ls ≡ ks → AreCandidates night path c stack ks
    → AreCandidates night other c stack ls
candidates_at night c stack path other ks ls e f are = subst (λ (p : List Block). AreCandidates night p c stack ls) (sym e) (subst (AreCandidates night path c stack) (sym f) are)

module _ (s : Scene) (is : IsScene s) where
  pub shapes_free : AreFreeShapes s.instance.now (masks_of s.instance.now s.path.now.blocks) s.shapes.now
  shapes_free = subst (λ (m : Masks). AreFreeShapes s.instance.now m s.shapes.now) is.path.covered is.shapes

  pub shapes_within : All (AreRunsWithin s.instance.now) s.shapes.now
  shapes_within k d lt = (is.shapes.each (get_or s.shapes.now k d) (in_place s.shapes.now k d lt)).shape.within

  module _ (c : Case) (offers : List Offer) (are : AreOffers s.instance.now c.duals s.shapes.now offers) where
    pub offers_small : All (IsSmallOffer s.instance.now) offers
    offers_small = from_members (IsSmallOffer s.instance.now) offers (λ o i. (are.each o i).2)

    pub looked : (stack : Stack) → stack.track.0 < 60 → (ks : List Candidate) → AreTaken s.instance.now stack offers ks → AreCandidates s.instance.now s.path.now.blocks c stack ks
    looked stack few ks taken = candidates_are s.instance.now c stack few s.path.now.blocks s.shapes.now offers ks shapes_free are taken
