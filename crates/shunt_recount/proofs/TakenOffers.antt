-- The offers to a stack are its free blocks at a path, and those that share nothing with one more block are those of the longer path.
use Rattle.std.specs.Prelude.{◌&&◌, ◌==◌, ◌<ℤ◌, ◌-ℤ◌, filter, not, Option, Some, None}
use Rattle.std.proofs.Common.{◌≡◌, Bool, true, false, List, [], ◌∷◌, ℤ, pos, refl, sym, subst, ap, ◌∙◌}
use Rattle.std.proofs.lemmas.Bool.{eqb-true, eq-eqb, and_parts, and_from, false≢true}
use Rattle.shunt_lists.specs.defs.Members.{In}
use Rattle.shunt_lists.proofs.Members.{in_map, of_map, filter_from, filter_yes, filter_no, to_all as from_members}
use Rattle.shunt_base.specs.declared.duals.Case.{Case}
use Rattle.shunt_base.specs.defs.Sides.{same_side}
use Rattle.shunt_base.proofs.Sides.{same_side_tells, same_side_is}
use Rattle.shunt_instance.specs.defs.Instance.{Night}
use Rattle.shunt_blocks.specs.declared.records.Shape.{Shape}
use Rattle.shunt_blocks.specs.declared.records.Block.{Block}
use Rattle.shunt_blocks.specs.declared.records.Park.{Park}
use Rattle.shunt_blocks.specs.defs.Shapes.{shape_of}
use Rattle.shunt_blocks.specs.defs.Blocks.{IsOption}
use Rattle.shunt_blocks.specs.defs.Pins.{without_id}
use Rattle.shunt_blocks.proofs.Made.{same_park}
use Rattle.shunt_choices.specs.defs.Paths.{masks_of}
use Rattle.shunt_choices.specs.defs.Choices.{AreFreeShapes}
use Rattle.shunt_prices.specs.defs.Cases.{IsFreeBlock, HasRoom, duals_over, weight_with}
use Rattle.shunt_stacks.specs.defs.Stacks.{Stack, is_of}
use Rattle.shunt_stacks.specs.defs.Fillings.{gain}
use Rattle.shunt_stacks.specs.defs.Numbers.{AreFreeOf, shares, apart_of}
use Rattle.shunt_recount.specs.declared.candidates.Candidate.{Candidate}
use Rattle.shunt_recount.specs.declared.offers.Offer.{Offer}
use Rattle.shunt_recount.specs.defs.Offers.{AreCandidatesOf, Gains, AreOffersFor, AreOffersOf, block_on, blocks_in}
use Rattle.shunt_recount.proofs.Weighed.{worth_something}

-- ---- an option of a stack is parked there by its side

park_on : (stack : Stack) (s : Shape) (park : Option Park) → is_of stack park ≡ true → park ≡ (block_on stack s).park
park_on stack s None e = absurd (false≢true e)
park_on stack s (Some k) e =
    let h = and_parts (k.track.0 == stack.track.0) (same_side k.side_in stack.side && same_side k.side_out stack.side) e in
    let sides = and_parts (same_side k.side_in stack.side) (same_side k.side_out stack.side) h.1 in
    ap (λ (p : Park). Some p)
    (same_park k.track.0 stack.track.0 k.side_in stack.side k.side_out stack.side (eqb-true k.track.0 stack.track.0 h.0) (same_side_tells k.side_in stack.side sides.0)
    (same_side_tells k.side_out stack.side sides.1))

on_stack : (stack : Stack) (s : Shape) → is_of stack (block_on stack s).park ≡ true
on_stack stack s = and_from (stack.track.0 == stack.track.0) (same_side stack.side stack.side && same_side stack.side stack.side) (eq-eqb stack.track.0 stack.track.0 refl)
    (and_from (same_side stack.side stack.side) (same_side stack.side stack.side) (same_side_is stack.side stack.side refl) (same_side_is stack.side stack.side refl))

module _ (night : Night) (c : Case) (stack : Stack) where
  same_gain : (b : Block) → b.park ≡ (block_on stack (shape_of b)).park → gain night c b ≡ gain night c (block_on stack (shape_of b))
  same_gain b e = ap (λ (park : Option Park). duals_over night c.duals (shape_of b) -ℤ weight_with night c (shape_of b) park) e

  same_block : (b : Block) → b.park ≡ (block_on stack (shape_of b)).park → without_id b ≡ without_id (block_on stack (shape_of b))
  same_block b e = ap (λ (park : Option Park). record { id = 0; arr = b.arr; p = b.p; n = b.n; dep = b.dep; q = b.q; park = park }) e

  module _ (path : List Block) (shapes : List Shape) (ks : List Candidate) (os : List Offer) (free : AreFreeShapes night (masks_of night path) shapes)
      (are : AreCandidatesOf night c shapes ks) (offers : AreOffersFor night c stack ks os) where
    own : (b : Block) → In b (blocks_in os) → is_of stack b.park ≡ true
    own b i =
        let h = of_map (λ (o : Offer). o.block) os b i in
        let of = offers.each h.0 h.1 in
        subst (λ (d : Block). is_of stack d.park ≡ true) (sym (h.2 ∙ of.2.block)) (on_stack stack of.0.shape)

    bare : (b : Block) → In b (blocks_in os) → IsFreeBlock night (masks_of night path) (shape_of b) b.park
    bare b i =
        let h = of_map (λ (o : Offer). o.block) os b i in
        let of = offers.each h.0 h.1 in
        subst (λ (d : Block). IsFreeBlock night (masks_of night path) (shape_of d) d.park) (sym (h.2 ∙ of.2.block))
        (record { shape = free.each of.0.shape (are.each of.0 of.1).1; option = of.2.gains.option })

    every : (b : Block) → is_of stack b.park ≡ true → IsFreeBlock night (masks_of night path) (shape_of b) b.park → pos 0 <ℤ gain night c b → HasRoom night (shape_of b) b.park →
        (other : Block) × In other (blocks_in os) × (without_id b ≡ without_id other)
    every b there is gains room =
        let e = park_on stack (shape_of b) b.park there in
        let more : pos 0 <ℤ gain night c (block_on stack (shape_of b)) = subst (λ (z : ℤ). pos 0 <ℤ z) (same_gain b e) gains in
        let k = are.all (shape_of b) (free.all (shape_of b) is.shape) (worth_something night c stack (shape_of b) more) in
        let brings : Gains night c stack (shape_of b) = record {
          option = subst (IsOption night (shape_of b)) e is.option;
          room = subst
              (HasRoom night (shape_of b)) e room;
          gains = more;
        } in
        let o = offers.all k.0 k.1 (subst (Gains night c stack) (sym k.2) brings) in (
          o.0.block,
          in_map (λ (p : Offer). p.block) os o.0 o.1,
          same_block b e ∙ sym (ap without_id (o.2 ∙ ap (block_on stack) k.2)),
        )

    pub taken : AreOffersOf night path c stack os
    taken = record {
      free = record {
        own = from_members (λ b. is_of stack b.park ≡ true) (blocks_in os) own;
        free = from_members (λ b. IsFreeBlock night (masks_of night path) (shape_of b) b.park) (blocks_in os) bare;
        every = every;
      };
      gains = λ o i. let of = offers.each o i in of.2.gain ∙ ap (gain night c) (sym of.2.block);
      small = λ o i. (offers.each o i).2.small;
    }

-- ---- one more block

module _ (night : Night) (b : Block) where
  one_block : (o : Offer) (os : List Offer) (t : Bool) → not (shares night b o.block) ≡ t
      → blocks_in (filter (λ p. not (shares night b p.block)) os) ≡ apart_of night b (blocks_in os) →
      blocks_in (filter (λ p. not (shares night b p.block)) (o ∷ os)) ≡ apart_of night b (blocks_in (o ∷ os))
  one_block o os true e h = ap blocks_in (filter_yes (λ (p : Offer). not (shares night b p.block)) o os e)
      ∙ (ap (λ (l : List Block). o.block ∷ l) h ∙ sym (filter_yes (λ (d : Block). not (shares night b d)) o.block (blocks_in os) e))
  one_block o os false e h = ap blocks_in (filter_no (λ (p : Offer). not (shares night b p.block)) o os e)
      ∙ (h ∙ sym (filter_no (λ (d : Block). not (shares night b d)) o.block (blocks_in os) e))

  apart_blocks : (os : List Offer) → blocks_in (filter (λ o. not (shares night b o.block)) os) ≡ apart_of night b (blocks_in os)
  apart_blocks [] = refl
  apart_blocks (o ∷ os) = one_block o os (not (shares night b o.block)) refl (apart_blocks os)

  pub left : (path longer : List Block) (c : Case) (stack : Stack) (os : List Offer) → AreOffersOf night path c stack os
      → AreFreeOf night longer c stack (apart_of night b (blocks_in os)) →
      AreOffersOf night longer c stack (filter (λ o. not (shares night b o.block)) os)
  left path longer c stack os of free = record {
    free = subst (AreFreeOf night longer c stack) (sym (apart_blocks os)) free;
    gains = λ o i. of.gains o (filter_from (λ (p : Offer). not (shares night b p.block)) os o i).0;
    small = λ o i. of.small o (filter_from (λ (p : Offer). not (shares night b p.block)) os o i).0;
  }
