-- Free shapes, what they are worth, and what they offer to a stack.
use Rattle.std.specs.Prelude.{◌≡◌, ◌⊎◌, ℕ, ◌≤◌, pos, ◌<ℤ◌, filter, map, List, Option, Some, None}
use Rattle.shunt_lists.specs.defs.Members.{In}
use Rattle.shunt_base.specs.declared.duals.Case.{Case}
use Rattle.shunt_instance.specs.declared.records.Station.{Station}
use Rattle.shunt_instance.specs.declared.records.Unit.{Unit as TrainUnit}
use Rattle.shunt_instance.specs.defs.Words.{is_open_at}
use Rattle.shunt_instance.specs.defs.Instance.{Night}
use Rattle.shunt_blocks.specs.declared.records.Shape.{Shape}
use Rattle.shunt_blocks.specs.declared.records.Block.{Block}
use Rattle.shunt_blocks.specs.defs.Shapes.{AreRunsWithin, unit_from}
use Rattle.shunt_blocks.specs.defs.Stays.{shape_length}
use Rattle.shunt_blocks.specs.defs.Blocks.{IsOption}
use Rattle.shunt_choices.specs.defs.Paths.{Masks}
use Rattle.shunt_choices.specs.defs.Choices.{IsFree}
use Rattle.shunt_prices.specs.defs.Sums.{IsWithin}
use Rattle.shunt_prices.specs.defs.Cases.{HasRoom, duals_over}
use Rattle.shunt_stacks.specs.defs.Stacks.{Stack, both_sides, sides_below}
use Rattle.shunt_stacks.specs.defs.Fillings.{gain}
use Rattle.shunt_stacks.specs.defs.Spans.{Span}
use Rattle.shunt_stacks.specs.defs.Numbers.{AreFreeOf, span_of, entry_number, leave_number}
use Rattle.shunt_recount.specs.declared.ends.TrackEnd.{TrackEnd}
use Rattle.shunt_recount.specs.declared.candidates.Candidate.{Candidate}
use Rattle.shunt_recount.specs.declared.offers.Offer.{Offer}

-- the stack of an end
abbrev pub stack_at : TrackEnd → Stack
stack_at end = record { track = end.track; side = end.side }

abbrev pub stacks_at : List TrackEnd → List Stack
stacks_at ends = map stack_at ends

-- the stacks of the track with a number, and those of the tracks below it
abbrev pub open_ends : Station → ℕ → List Stack
open_ends s t = filter (λ k. is_open_at s k.track k.side) (both_sides t)

abbrev pub open_below : Station → ℕ → List Stack
open_below s t = filter (λ k. is_open_at s k.track k.side) (sides_below t)

-- a shape as a block of a stack
abbrev pub block_on : Stack → Shape → Block
block_on stack s = record { id = 1; arr = s.arr; p = s.p; n = s.n; dep = s.dep; q = s.q; park = Some (record { track = stack.track; side_in = stack.side; side_out = stack.side }) }

-- a shape begins at the unit with a number
abbrev pub BeginsAt : Night → ℕ → Shape → Type 0
BeginsAt night u s = unit_from night s ≡ u

-- a shape begins at a unit
abbrev pub IsOfUnit : TrainUnit → Shape → Type 0
IsOfUnit unit s = (s.arr ≡ unit.train) × (s.p ≡ unit.place)

-- the same of those with that many units
abbrev pub HasUnits : TrainUnit → ℕ → Shape → Type 0
HasUnits unit n s = IsOfUnit unit s × (s.n ≡ n)

-- the same of those that go with a departing train
abbrev pub GoesWith : TrainUnit → ℕ → ℕ → Shape → Type 0
GoesWith unit n dep s = HasUnits unit n s × (s.dep.0 ≡ dep)

-- what came to a list of shapes is free, and each free one of which this holds is there
pub record GoesOn (night : Night) (covered : Masks) (Holds : Shape → Type 0) (old new : List Shape) : Type 0 where
  pub kept : (s : Shape) → In s old → In s new
  pub each : (s : Shape) → In s new → In s old ⊎ IsFree night covered s
  pub all : (s : Shape) → IsFree night covered s → Holds s → In s new

-- a shape with its length and its worth in a case
pub record IsCandidate (night : Night) (c : Case) (k : Candidate) : Type 0 where
  pub within : AreRunsWithin night k.shape
  pub long : k.length ≡ shape_length night k.shape
  pub short : k.length ≤ 40000
  pub worth : k.worth ≡ duals_over night c.duals k.shape
  pub little : IsWithin 15999999999984 k.worth

-- candidates of these shapes, and one for each that is worth something
pub record AreCandidatesOf (night : Night) (c : Case) (shapes : List Shape) (candidates : List Candidate) : Type 0 where
  pub each : (k : Candidate) → In k candidates → IsCandidate night c k × In k.shape shapes
  pub all : (s : Shape) → In s shapes → pos 0 <ℤ duals_over night c.duals s → (k : Candidate) × In k candidates × (k.shape ≡ s)

-- whether a shape has something to gain as a block of a stack: it is an option there with room, and gains something in a case
pub record Gains (night : Night) (c : Case) (stack : Stack) (s : Shape) : Type 0 where
  pub option : IsOption night s (block_on stack s).park
  pub room : HasRoom night s (block_on stack s).park
  pub gains : pos 0 <ℤ gain night c (block_on stack s)

-- a shape as a block of a stack, with what it gains
pub record IsOffer (night : Night) (c : Case) (stack : Stack) (s : Shape) (o : Offer) : Type 0 where
  pub block : o.block ≡ block_on stack s
  pub gain : o.gain ≡ gain night c (block_on stack s)
  pub small : IsWithin 16000000000000 o.gain
  pub gains : Gains night c stack s

-- that, where the shape has something to gain there
abbrev pub IsOfferFor : Night → Case → Stack → Shape → Option Offer → Type 0
IsOfferFor night c stack s None = Gains night c stack s → ⊥
IsOfferFor night c stack s (Some o) = IsOffer night c stack s o

-- the offers of these candidates to a stack
pub record AreOffersFor (night : Night) (c : Case) (stack : Stack) (candidates : List Candidate) (offers : List Offer) : Type 0 where
  pub each : (o : Offer) → In o offers → (k : Candidate) × In k candidates × IsOffer night c stack k.shape o
  pub all : (k : Candidate) → In k candidates → Gains night c stack k.shape → (o : Offer) × In o offers × (o.block ≡ block_on stack k.shape)

-- the blocks of offers
abbrev pub blocks_in : List Offer → List Block
blocks_in offers = map (λ o. o.block) offers

-- the free blocks of a stack at a path that gain something in a case, with what they gain
pub record AreOffersOf (night : Night) (path : List Block) (c : Case) (stack : Stack) (offers : List Offer) : Type 0 where
  pub free : AreFreeOf night path c stack (blocks_in offers)
  pub gains : (o : Offer) → In o offers → o.gain ≡ gain night c o.block
  pub small : (o : Offer) → In o offers → IsWithin 16000000000000 o.gain

-- what an offer takes of the events
abbrev pub offer_span : Night → Offer → Span
offer_span night o = span_of night (entry_number night) (leave_number night) (λ b. o.gain) o.block

abbrev pub offer_spans : Night → List Offer → List Span
offer_spans night offers = map (offer_span night) offers
