-- What a stack gains with each of the choices at a unit.
use Rattle.std.specs.Prelude.{◌≡◌, ℕ, ℤ, pos, true, List, [], ◌∷◌, ◌++◌, Option}
use Rattle.shunt_base.specs.declared.duals.Case.{Case}
use Rattle.shunt_instance.specs.defs.Instance.{Night}
use Rattle.shunt_blocks.specs.declared.records.Block.{Block}
use Rattle.shunt_blocks.specs.defs.Shapes.{shape_of, begins_at}
use Rattle.shunt_choices.specs.defs.Paths.{masks_of}
use Rattle.shunt_prices.specs.defs.Prices.{track_length}
use Rattle.shunt_prices.specs.defs.Cases.{IsFreeBlock}
use Rattle.shunt_stacks.specs.defs.Stacks.{Stack, is_of, blocks_of}
use Rattle.shunt_stacks.specs.defs.Spans.{plus, best, best_with}
use Rattle.shunt_stacks.specs.defs.Numbers.{span_of, fixed_spans, free_spans, apart_of}

-- a free block of a stack that begins at a unit
pub record BeginsAt (night : Night) (path : List Block) (stack : Stack) (u : ℕ) (b : Block) : Type 0 where
  pub free : IsFreeBlock night (masks_of night path) (shape_of b) b.park
  pub own : is_of stack b.park ≡ true
  pub first : begins_at night b ≡ u

-- the greatest gain of a stack's spans, with those of the path's blocks fixed and those of these blocks free: from an event on and before
-- another, with this room
abbrev pub best_of : Night → ℕ → (ℕ → ℕ) → (ℕ → ℕ) → Case → Stack → List Block → List Block → ℕ → ℕ → ℕ → Option ℤ
best_of night events entry leave c stack path blocks = best events (fixed_spans night entry leave (blocks_of stack path)) (free_spans night entry leave c blocks)

-- what a stack gains around the entry of a unit, by the path's own values: up to which event and with which room the blocks stand that
-- come there, and what is gained beside these. With one of the stack's free blocks that begin at the unit, the stack gains that and what
-- the block leaves room for
pub record IsAround (night : Night) (events : ℕ) (entry leave : ℕ → ℕ) (c : Case) (stack : Stack) (path blocks : List Block) (u : ℕ) : Type 0 where
  pub to : ℕ
  pub left : ℕ
  pub around : Option ℤ
  pub path_gain : best_of night events entry leave c stack path blocks 0 events (track_length night stack.track.0)
      ≡ plus around (best_of night events entry leave c stack path blocks (entry u) to left)
  pub choice_gain : (b : Block) → BeginsAt night path stack u b → best_of night events entry leave c stack (path ++ b ∷ []) (apart_of night b blocks) 0 events
      (track_length night stack.track.0)
      ≡ plus around (best_with (best_of night events entry leave c stack path blocks) to left (span_of night entry leave (λ z. pos 0) b))
