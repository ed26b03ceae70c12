-- Stacks: one end of a track, and the blocks that come and go by it.
use Rattle.std.specs.Prelude.{ℕ, zero, suc, ◌==◌, Bool, false, ◌&&◌, if◌then◌else◌, filter, length, List, [], ◌∷◌, ◌++◌, Option, Some, None}
use Rattle.shunt_base.specs.declared.ids.TrackId.{TrackId}
use Rattle.shunt_base.specs.declared.ids.Side.{Side}
use Rattle.shunt_base.specs.declared.ids.Side.TheVariants.{A, B}
use Rattle.shunt_base.specs.defs.Sides.{same_side}
use Rattle.shunt_instance.specs.declared.records.Station.{Station}
use Rattle.shunt_instance.specs.defs.Words.{is_open_at}
use Rattle.shunt_blocks.specs.declared.records.Block.{Block}
use Rattle.shunt_blocks.specs.declared.records.Park.{Park}

-- a track with one of its sides
pub record Stack : Type 0 where
  pub track : TrackId
  pub side : Side

-- both sides of the track with a number
abbrev pub both_sides : ℕ → List Stack
both_sides t = record { track = record { 0 = t }; side = A } ∷ record { track = record { 0 = t }; side = B } ∷ []

-- both sides of each track below n
abbrev pub sides_below : ℕ → List Stack
sides_below zero = []
sides_below (suc n) = sides_below n ++ both_sides n

-- the stacks of a station: each of its tracks with each side at which it is open
abbrev pub stacks : Station → List Stack
stacks s = filter (λ k. is_open_at s k.track k.side) (sides_below (length s.tracks))

-- whether an option is parked on a stack's track, and comes and goes by its side
abbrev pub is_of : Stack → Option Park → Bool
is_of stack None = false
is_of stack (Some k) = k.track.0 == stack.track.0 && (same_side k.side_in stack.side && same_side k.side_out stack.side)

-- those of these blocks that are of a stack
abbrev pub blocks_of : Stack → List Block → List Block
blocks_of stack blocks = filter (λ b. is_of stack b.park) blocks

-- the stack of what is parked here: none where it goes through from one side to the other
abbrev pub stack_of_park : Park → Option Stack
stack_of_park k = if same_side k.side_in k.side_out then Some (record { track = k.track; side = k.side_in }) else None

-- the stack of an option: none where it is unparked or goes through
abbrev pub stack_of : Option Park → Option Stack
stack_of None = None
stack_of (Some k) = stack_of_park k
