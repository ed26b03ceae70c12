-- What holds while the options of blocks are changed one by one.
use Rattle.std.specs.Prelude.{◌≡◌, ◌↔◌, ℕ, suc, ◌<◌, ◌≤◌, List, ◌++◌, take, drop, length, Option, None, slice_index_or}
use Rattle.std.specs.List.{cons_option}
use Rattle.shunt_lists.specs.defs.Members.{In}
use Rattle.shunt_base.specs.declared.keys.Stay.{Stay}
use Rattle.shunt_stays.specs.defs.Run.{GoesThrough}
use Rattle.shunt_instance.specs.defs.Instance.{Night}
use Rattle.shunt_blocks.specs.declared.records.Block.{Block}
use Rattle.shunt_blocks.specs.declared.records.Park.{Park}
use Rattle.shunt_blocks.specs.defs.Shapes.{shape_of}
use Rattle.shunt_blocks.specs.defs.Blocks.{IsOption}
use Rattle.shunt_blocks.specs.defs.Costs.{cost_with}
use Rattle.shunt_blocks.specs.defs.Stays.{stay_with}
use Rattle.shunt_blocks.specs.defs.Lists.{IsFeasible, track_lengths, stays_of, total_cost}
use Rattle.shunt_blocks.specs.defs.Pins.{IsKept}
use Rattle.shunt_blocks.specs.defs.Polished.{with_option}
use Rattle.shunt_timeline.specs.defs.Holdings.{Holding}

-- a block without its option
abbrev pub unparked : Block → Block
unparked b = record b { park = None }

-- the blocks but the one at a place
abbrev pub others_of : List Block → ℕ → List Block
others_of blocks k = take k blocks ++ drop (suc k) blocks

-- timelines have the stays of these blocks, each once, on the night's tracks
pub record Stand (night : Night) (blocks : List Block) (held : Holding) : Type 0 where
  pub lengths : held.lengths ≡ track_lengths night.station
  pub stays : (s : Stay) → In s (stays_of night blocks) ↔ In s held.stays
  pub count : length held.stays ≡ length (stays_of night blocks)

-- the run of these stays goes through with that of a block parked so
abbrev pub RunsWith : Night → Block → Option Park → Holding → Type 0
RunsWith night b option held = GoesThrough held.lengths (cons_option (stay_with night b option) held.stays)

-- with this option the block costs at least so much, or its run doesn't go through
abbrev pub NoLess : Night → Block → Holding → ℕ → Option Park → Type 0
NoLess night b held cost option = RunsWith night b option held → cost ≤ cost_with night (shape_of b) option

-- no other option of this block gives a feasible plan of lower cost
abbrev pub IsLeast : Night → List Block → Block → Type 0
IsLeast night blocks b = (option : Option Park) → IsOption night (shape_of b) option → IsFeasible night (with_option b option blocks)
    → total_cost night blocks ≤ total_cost night (with_option b option blocks)

-- the same of a block that is no pin
abbrev pub IsLeastBut : Night → List Block → List Block → Block → Type 0
IsLeastBut night pins blocks b = (IsKept pins b → ⊥) → IsLeast night blocks b

-- the same of each block before a place
abbrev pub AreLeast : Night → List Block → ℕ → List Block → Type 0
AreLeast night pins to blocks = (k : ℕ) (d : Block) → k < to → k < length blocks → IsLeastBut night pins blocks (slice_index_or blocks k d)
