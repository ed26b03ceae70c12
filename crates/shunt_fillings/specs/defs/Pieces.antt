-- Stacks as they are seen, their candidates, and what blocks take of the events.
use Rattle.std.specs.Prelude.{◌≡◌, ℕ, ◌≤◌, pos, ◌<ℤ◌, Bool, if◌then◌else◌, map, filter, List, [], ◌∷◌, Some}
use Rattle.shunt_lists.specs.defs.Members.{In}
use Rattle.shunt_base.specs.declared.duals.Case.{Case}
use Rattle.shunt_instance.specs.declared.records.Station.{Station}
use Rattle.shunt_instance.specs.defs.Words.{is_open_at}
use Rattle.shunt_instance.specs.defs.Instance.{Night}
use Rattle.shunt_blocks.specs.declared.records.Shape.{Shape}
use Rattle.shunt_blocks.specs.declared.records.Block.{Block}
use Rattle.shunt_blocks.specs.declared.records.Park.{Park}
use Rattle.shunt_blocks.specs.defs.Blocks.{IsOption}
use Rattle.shunt_prices.specs.defs.Sums.{IsWithin}
use Rattle.shunt_prices.specs.defs.Prices.{track_length}
use Rattle.shunt_prices.specs.defs.Limits.{IsCase}
use Rattle.shunt_dual.specs.declared.case_offers.Offer.{Offer}
use Rattle.shunt_dual.specs.defs.Offers.{offered}
use Rattle.shunt_stacks.specs.defs.Stacks.{Stack as OneStack, both_sides, blocks_of}
use Rattle.shunt_stacks.specs.defs.Fillings.{gain}
use Rattle.shunt_stacks.specs.defs.Spans.{Span}
use Rattle.shunt_stacks.specs.defs.Numbers.{AreFreeOf, span_of, fixed_spans}
use Rattle.shunt_gains.specs.declared.numbers.Events.{Events}
use Rattle.shunt_gains.specs.defs.Events.{entry_of, leave_of}
use Rattle.shunt_fillings.specs.declared.ends.Stack.{Stack}
use Rattle.shunt_fillings.specs.declared.candidates.Candidate.{Candidate}

-- the stack that is meant
abbrev pub seen : Stack → OneStack
seen k = record { track = k.track; side = k.side }

abbrev pub all_seen : List Stack → List OneStack
all_seen stacks = map seen stacks

-- this one where a test passes
abbrev pub one_where : {X : Type 0} → Bool → X → List X
one_where b x = if b then x ∷ [] else []

-- the stacks of the track with a number
abbrev pub ends_of : Station → ℕ → List OneStack
ends_of s t = filter (λ k. is_open_at s k.track k.side) (both_sides t)

-- the way to park on a stack
abbrev pub park_on : OneStack → Park
park_on stack = record { track = stack.track; side_in = stack.side; side_out = stack.side }

-- a shape as a block of a stack
abbrev pub block_on : OneStack → Shape → Block
block_on stack s = record { id = 1; arr = s.arr; p = s.p; n = s.n; dep = s.dep; q = s.q; park = Some (park_on stack) }

-- what is offered of a shape, as a block of a stack with what it gains there
abbrev pub candidate_on : Night → OneStack → Offer → Candidate
candidate_on night stack o = record { block = block_on stack o.shape; gain = offered night o (park_on stack) }

-- whether a stack gains something by a shape: it is an option with room, and what is offered is above 0
pub record Brings (night : Night) (stack : OneStack) (o : Offer) : Type 0 where
  pub option : IsOption night o.shape (block_on stack o.shape).park
  pub room : o.long ≤ track_length night stack.track.0
  pub gains : pos 0 <ℤ offered night o (park_on stack)

-- what these offer as blocks of a stack, but for those that bring nothing
pub record AreTaken (night : Night) (stack : OneStack) (offers : List Offer) (candidates : List Candidate) : Type 0 where
  pub each : (k : Candidate) → In k candidates → (o : Offer) × In o offers × (k ≡ candidate_on night stack o) × Brings night stack o
  pub all : (o : Offer) → In o offers → Brings night stack o → In (candidate_on night stack o) candidates

abbrev pub blocks_in : List Candidate → List Block
blocks_in candidates = map (λ k. k.block) candidates

-- the free blocks of a stack at a path that bring something in a case, each with what it gains
pub record AreCandidates (night : Night) (path : List Block) (c : Case) (stack : OneStack) (candidates : List Candidate) : Type 0 where
  pub free : AreFreeOf night path c stack (blocks_in candidates)
  pub gains : (k : Candidate) → In k candidates → k.gain ≡ gain night c k.block
  pub small : (k : Candidate) → In k candidates → IsWithin 1000000000000000 k.gain

-- they are so in some case
abbrev pub AreOfSomeCase : Night → List Block → OneStack → List Candidate → Type 0
AreOfSomeCase night path stack candidates = (c : Case) × IsCase night c × AreCandidates night path c stack candidates

-- the spans of a path's blocks of a stack
abbrev pub fixed_of_stack : Night → Events → List Block → OneStack → List Span
fixed_of_stack night e path stack = fixed_spans night (entry_of e) (leave_of e) (blocks_of stack path)

-- the span of a candidate, with what it gains
abbrev pub span_with : Night → Events → Candidate → Span
span_with night e k = span_of night (entry_of e) (leave_of e) (λ b. k.gain) k.block

abbrev pub spans_with : Night → Events → List Candidate → List Span
spans_with night e candidates = map (span_with night e) candidates
