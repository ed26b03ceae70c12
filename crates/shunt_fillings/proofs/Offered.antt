-- What is taken of the offers of all free shapes are the candidates of a stack.
use Rattle.std.specs.Prelude.{◌&&◌, ◌==◌, All, ◌<ℤ◌, ◌-ℤ◌, Option, Some, None}
use Rattle.std.proofs.Common.{◌≡◌, ℕ, ◌<◌, ◌≤◌, true, List, ℤ, pos, refl, sym, subst, ap, ◌∙◌, arith}
use Rattle.std.proofs.lemmas.Int.{ints}
use Rattle.std.proofs.lemmas.Bool.{eqb-true, eq-eqb, and_parts, and_from, false≢true}
use Rattle.shunt_lists.specs.defs.Members.{In}
use Rattle.shunt_lists.proofs.Members.{in_map, of_map, to_all as from_members}
use Rattle.shunt_base.specs.declared.duals.Case.{Case}
use Rattle.shunt_base.specs.defs.Sides.{same_side}
use Rattle.shunt_base.proofs.Sides.{same_side_tells, same_side_is}
use Rattle.shunt_instance.specs.defs.Instance.{Night}
use Rattle.shunt_blocks.specs.declared.records.Shape.{Shape}
use Rattle.shunt_blocks.specs.declared.records.Block.{Block}
use Rattle.shunt_blocks.specs.declared.records.Park.{Park}
use Rattle.shunt_blocks.specs.defs.Shapes.{shape_of}
use Rattle.shunt_blocks.specs.defs.Blocks.{IsOption}
use Rattle.shunt_blocks.specs.defs.Pins.{without_id}
use Rattle.shunt_blocks.proofs.Made.{same_park}
use Rattle.shunt_choices.specs.defs.Paths.{masks_of}
use Rattle.shunt_choices.specs.defs.Choices.{AreFreeShapes}
use Rattle.shunt_prices.specs.defs.Sums.{IsWithin}
use Rattle.shunt_prices.specs.defs.Prices.{track_length}
use Rattle.shunt_prices.specs.defs.Cases.{IsFreeBlock, HasRoom, duals_over, weight_with}
use Rattle.shunt_dual.specs.declared.case_offers.Offer.{Offer}
use Rattle.shunt_dual.specs.defs.Asks.{weight_of}
use Rattle.shunt_dual.specs.defs.Offers.{IsOffer, IsSmallOffer, AreOffers, offered}
use Rattle.shunt_dual.proofs.Offered.{offered_is}
use Rattle.shunt_stacks.specs.defs.Stacks.{Stack, is_of}
use Rattle.shunt_stacks.specs.defs.Fillings.{gain}
use Rattle.shunt_fillings.specs.declared.candidates.Candidate.{Candidate}
use Rattle.shunt_fillings.specs.defs.Pieces.{park_on, block_on, candidate_on, blocks_in, Brings, AreTaken, AreCandidates}

-- ---- an option of a stack is parked there by its side

pub is_parked_on : (stack : Stack) (park : Option Park) → is_of stack park ≡ true → park ≡ Some (park_on stack)
is_parked_on stack None e = absurd (false≢true e)
is_parked_on stack (Some k) e =
    let h = and_parts (k.track.0 == stack.track.0) (same_side k.side_in stack.side && same_side k.side_out stack.side) e in
    let sides = and_parts (same_side k.side_in stack.side) (same_side k.side_out stack.side) h.1 in
    ap (λ (p : Park). Some p)
    (same_park k.track.0 stack.track.0 k.side_in stack.side k.side_out stack.side (eqb-true k.track.0 stack.track.0 h.0) (same_side_tells k.side_in stack.side sides.0)
    (same_side_tells k.side_out stack.side sides.1))

on_stack : (stack : Stack) → is_of stack (Some (park_on stack)) ≡ true
on_stack stack = and_from (stack.track.0 == stack.track.0) (same_side stack.side stack.side && same_side stack.side stack.side) (eq-eqb stack.track.0 stack.track.0 refl)
    (and_from (same_side stack.side stack.side) (same_side stack.side stack.side) (same_side_is stack.side stack.side refl) (same_side_is stack.side stack.side refl))

little : (night : Night) (o : Offer) (k : Park) → IsSmallOffer night o → pos 0 <ℤ offered night o k → IsWithin 1000000000000000 (offered night o k)
little night o k small more = record { low = omega (arith, ints, more); high = omega (arith, ints, small.worth.high) }

module _ (night : Night) (c : Case) (stack : Stack) (few : stack.track.0 < 60) (path : List Block) (shapes : List Shape) (offers : List Offer) (candidates : List Candidate)
    (free : AreFreeShapes night (masks_of night path) shapes) (are : AreOffers night c.duals shapes offers) (taken : AreTaken night stack offers candidates) where
  own_gain : (o : Offer) → IsOffer night c.duals o → offered night o (park_on stack) ≡ gain night c (block_on stack o.shape)
  own_gain o is = offered_is night c o (park_on stack) (block_on stack o.shape) is few refl refl

  -- ---- each of them is free, and gains that

  gains_so : (k : Candidate) → In k candidates → k.gain ≡ gain night c k.block
  gains_so k i = let h = taken.each k i in subst (λ (d : Candidate). d.gain ≡ gain night c d.block) (sym h.2) (own_gain h.0 (are.each h.0 h.1).1)

  small_so : (k : Candidate) → In k candidates → IsWithin 1000000000000000 k.gain
  small_so k i = let h = taken.each k i in subst (λ (d : Candidate). IsWithin 1000000000000000 d.gain) (sym h.2) (little night h.0 (park_on stack) (are.each h.0 h.1).2 h.3.gains)

  own_so : (k : Candidate) → In k candidates → is_of stack k.block.park ≡ true
  own_so k i = let h = taken.each k i in subst (λ (d : Candidate). is_of stack d.block.park ≡ true) (sym h.2) (on_stack stack)

  free_so : (k : Candidate) → In k candidates → IsFreeBlock night (masks_of night path) (shape_of k.block) k.block.park
  free_so k i =
      let h = taken.each k i in
      subst (λ (d : Candidate). IsFreeBlock night (masks_of night path) (shape_of d.block) d.block.park) (sym h.2)
      (record { shape = free.each h.0.shape (are.each h.0 h.1).0; option = h.3.option })

  of_blocks : (P : Block → Type 0) → ((k : Candidate) → In k candidates → P k.block) → All P (blocks_in candidates)
  of_blocks P each = from_members P (blocks_in candidates) (λ b i. let h = of_map (λ (k : Candidate). k.block) candidates b i in subst P (sym h.2) (each h.0 h.1))

  -- ---- each block that gains something is among them

  abbrev with_option : Shape → Option Park → ℤ
  with_option s park = duals_over night c.duals s -ℤ weight_with night c s park

  more_than : (s : Shape) → pos 0 <ℤ with_option s (Some (park_on stack)) → pos (weight_of night c.duals.prices s (Some (park_on stack))) <ℤ duals_over night c.duals s
  more_than s more = omega (arith, ints, more)

  module _ (b : Block) (own : is_of stack b.park ≡ true) (bare : IsFreeBlock night (masks_of night path) (shape_of b) b.park) (more : pos 0 <ℤ gain night c b)
      (room : HasRoom night (shape_of b) b.park) where
    on : b.park ≡ Some (park_on stack)
    on = is_parked_on stack b.park own

    option : IsOption night (shape_of b) (Some (park_on stack))
    option = subst (IsOption night (shape_of b)) on bare.option

    gains : pos 0 <ℤ with_option (shape_of b) (Some (park_on stack))
    gains = subst (λ (park : Option Park). pos 0 <ℤ with_option (shape_of b) park) on more

    offer : (o : Offer) × In o offers × (o.shape ≡ shape_of b)
    offer = are.all (shape_of b) (park_on stack) (free.all (shape_of b) bare.shape) option (more_than (shape_of b) gains)

    brings : Brings night stack offer.0
    brings =
        let o = offer.0 in
        let is = (are.each o offer.1).1 in
        record {
          option = subst (λ (s : Shape). IsOption night s (Some (park_on stack))) (sym offer.2) option;
          room = subst (λ (n : ℕ). n ≤ track_length night stack.track.0) (sym is.long)
              (subst (λ (s : Shape). HasRoom night s (Some (park_on stack))) (sym offer.2) (subst (HasRoom night (shape_of b)) on room));
          gains = subst (λ (z : ℤ). pos 0 <ℤ z) (sym (own_gain o is)) (subst (λ (s : Shape). pos 0 <ℤ with_option s (Some (park_on stack))) (sym offer.2) gains);
        }

    same_block : without_id b ≡ without_id (block_on stack offer.0.shape)
    same_block =
        ap (λ (park : Option Park). record { id = 0; arr = b.arr; p = b.p; n = b.n; dep = b.dep; q = b.q; park = park }) on
        ∙ ap (λ (s : Shape). without_id (block_on stack s)) (sym offer.2)

    among : (other : Block) × In other (blocks_in candidates) × (without_id b ≡ without_id other)
    among = (block_on stack offer.0.shape, in_map (λ (k : Candidate). k.block) candidates (candidate_on night stack offer.0) (taken.all offer.0 offer.1 brings), same_block)

  pub candidates_are : AreCandidates night path c stack candidates
  candidates_are = record {
    free = record {
      own = of_blocks (λ b. is_of stack b.park ≡ true) own_so;
      free = of_blocks (λ b. IsFreeBlock night (masks_of night path) (shape_of b) b.park) free_so;
      every = λ b own bare more room. among b own bare more room;
    };
    gains = gains_so;
    small = small_so;
  }
