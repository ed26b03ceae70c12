-- Numberings of a night's events, and what blocks of a stack take of them.
use Rattle.std.specs.Prelude.{◌≡◌, ◌⊎◌, ℕ, ◌+◌, ◌-◌, ◌*◌, ◌<◌, ◌≤◌, nat_lt, Bool, not, ◌&&◌, ◌||◌, ℤ, pos, ◌<ℤ◌, true, filter, map, All, List}
use Rattle.shunt_lists.specs.defs.Members.{In}
use Rattle.shunt_base.specs.declared.duals.Case.{Case}
use Rattle.shunt_instance.specs.defs.Words.{train_at}
use Rattle.shunt_instance.specs.defs.Instance.{Night, unit_at, position_at, unit_total, position_total}
use Rattle.shunt_blocks.specs.declared.records.Block.{Block}
use Rattle.shunt_blocks.specs.defs.Shapes.{shape_of, unit_from, position_from}
use Rattle.shunt_blocks.specs.defs.Stays.{block_length}
use Rattle.shunt_blocks.specs.defs.Pins.{without_id}
use Rattle.shunt_choices.specs.defs.Paths.{masks_of}
use Rattle.shunt_prices.specs.defs.Cases.{IsFreeBlock, HasRoom}
use Rattle.shunt_stacks.specs.defs.Stacks.{Stack, is_of}
use Rattle.shunt_stacks.specs.defs.Fillings.{gain}
use Rattle.shunt_stacks.specs.defs.Spans.{Span}

-- the minute at which the train of a unit arrives, and the one at which that of a position departs
abbrev pub arrives : Night → ℕ → ℕ
arrives night u = (train_at night.arrive (unit_at night u).train.0).minute

abbrev pub departs : Night → ℕ → ℕ
departs night v = (train_at night.depart (position_at night v).train.0).minute

-- the one position leaves before the other: its train comes first, or it has a later place in the same train
abbrev pub LeavesBefore : Night → ℕ → ℕ → Type 0
LeavesBefore night v w = ((position_at night v).train.0 < (position_at night w).train.0)
    ⊎ (((position_at night v).train.0 ≡ (position_at night w).train.0) × ((position_at night w).place < (position_at night v).place))

-- numbers of the units' entries and of the positions' leaves, which rise in the order of events: units enter in the order of their own
-- numbers, and of one minute leaves come before entries
pub record IsNumbering (night : Night) (events : ℕ) (entry leave : ℕ → ℕ) : Type 0 where
  pub entries : (u w : ℕ) → u < w → w < unit_total night → entry u < entry w
  pub leaves : (v w : ℕ) → v < position_total night → w < position_total night → LeavesBefore night v w → leave v < leave w
  pub leave_first : (u v : ℕ) → u < unit_total night → v < position_total night → departs night v ≤ arrives night u → leave v < entry u
  pub entry_first : (u v : ℕ) → u < unit_total night → v < position_total night → arrives night u < departs night v → entry u < leave v
  pub entries_in : (u : ℕ) → u < unit_total night → entry u < events
  pub leaves_in : (v : ℕ) → v < position_total night → leave v < events

-- such numbers: by minute, leaves before entries, entries by unit, and leaves by train and then by place, the later ones first
abbrev pub entry_number : Night → ℕ → ℕ
entry_number night u = (2 * arrives night u + 1) * 1000 + u

abbrev pub leave_number : Night → ℕ → ℕ
leave_number night v = 2 * departs night v * 1000 + (8 * (position_at night v).train.0 + (8 - (position_at night v).place))

-- what a block takes of the events, with a gain
abbrev pub span_of : Night → (ℕ → ℕ) → (ℕ → ℕ) → (Block → ℤ) → Block → Span
span_of night entry leave value b = record {
  from = entry (unit_from night (shape_of b));
  inside = entry (unit_from night (shape_of b) + (b.n - 1)) + 1;
  until = leave (position_from night (shape_of b) + (b.n - 1));
  past = leave (position_from night (shape_of b)) + 1;
  length = block_length night b;
  gain = value b;
}

-- the spans of the path's blocks of a stack, which gain nothing more
abbrev pub fixed_spans : Night → (ℕ → ℕ) → (ℕ → ℕ) → List Block → List Span
fixed_spans night entry leave blocks = map (span_of night entry leave (λ b. pos 0)) blocks

-- the spans of blocks with their gains in a case
abbrev pub free_spans : Night → (ℕ → ℕ) → (ℕ → ℕ) → Case → List Block → List Span
free_spans night entry leave c blocks = map (span_of night entry leave (gain night c)) blocks

-- blocks of a stack that are free at a path, and but for its id each such block that gains something in a case and is no longer than
-- the track
pub record AreFreeOf (night : Night) (path : List Block) (c : Case) (stack : Stack) (blocks : List Block) : Type 0 where
  pub own : All (λ b. is_of stack b.park ≡ true) blocks
  pub free : All (λ b. IsFreeBlock night (masks_of night path) (shape_of b) b.park) blocks
  pub every : (b : Block) → is_of stack b.park ≡ true → IsFreeBlock night (masks_of night path) (shape_of b) b.park → pos 0 <ℤ gain night c b → HasRoom night (shape_of b) b.park
      → (other : Block) × In other blocks × (without_id b ≡ without_id other)

-- whether two runs of numbers have one in common
abbrev pub meet : ℕ → ℕ → ℕ → ℕ → Bool
meet a n b m = nat_lt a (b + m) && nat_lt b (a + n)

-- whether two blocks share a unit or a position
abbrev pub shares : Night → Block → Block → Bool
shares night x y = meet (unit_from night (shape_of x)) x.n (unit_from night (shape_of y)) y.n || meet (position_from night (shape_of x)) x.n (position_from night (shape_of y)) y.n

-- those of these blocks that share nothing with a block
abbrev pub apart_of : Night → Block → List Block → List Block
apart_of night b blocks = filter (λ x. not (shares night b x)) blocks
