-- Words of the proofs: the same without a late night.
use Rattle.std.specs.Prelude.{◌≡◌, ◌≢◌, ◌↔◌, ℕ, ◌+◌, ◌≤◌, ◌<◌, ◌==◌, nat_le, Bool, false, not, Option, None, Some, List, length, map, filter, slice_index, if◌then◌else◌}
use Rattle.std.specs.List.{flat_map}
use Rattle.shunt_lists.specs.defs.Below.{all_below}
use Rattle.shunt_lists.specs.defs.Members.{In}
use Rattle.shunt_base.specs.declared.keys.Stay.{Stay}
use Rattle.shunt_base.specs.defs.Keys.{AreStays}
use Rattle.shunt_stays.specs.defs.Crossings.{crosses, load_after}
use Rattle.shunt_instance.specs.defs.Instance.{Night, ready}
use Rattle.shunt_blocks.specs.declared.records.Shape.{Shape}
use Rattle.shunt_blocks.specs.declared.records.Block.{Block}
use Rattle.shunt_blocks.specs.defs.Shapes.{shape_of, unit_from}
use Rattle.shunt_blocks.specs.defs.Stays.{leave_minute, is_too_soon}
use Rattle.shunt_blocks.specs.defs.Lists.{AreInRange, track_lengths, stays_of}
use Rattle.shunt_timeline.specs.defs.Holdings.{Holding}
use Rattle.shunt_audit.specs.declared.types.Finding.{Finding}
use Rattle.shunt_audit.specs.defs.Listed.{by_id, too_long_at}
use Rattle.shunt_delay.specs.declared.records.Stop.{Stop}
use Rattle.shunt_delay.specs.defs.Delays.{told, first, delay_findings, StaysFeasible}

-- by how many minutes a block is late, where train i is
abbrev pub late_by : ℕ → ℕ → Block → ℕ
late_by i d b = if b.arr.0 == i then d else 0

-- whether the departing train leaves before one of the units is ready, that many minutes late
abbrev pub is_too_soon_by : Night → ℕ → Shape → Bool
is_too_soon_by night d s = not (all_below s.n (λ k. nat_le (ready night (unit_from night s + k) + d) (leave_minute night s)))

-- no block is too soon
abbrev pub AreInTime : Night → List Block → Type 0
AreInTime night blocks = (b : Block) → In b blocks → is_too_soon night (shape_of b) ≡ false

-- a stay that begins that many minutes later
abbrev pub later : ℕ → Stay → Stay
later d s = record s { enter = record s.enter { minute = s.enter.minute + d } }

-- what stops these blocks from staying feasible, or nothing does and they do
abbrev pub Stops : Night → List Block → Option Stop → Type 0
Stops night blocks None = StaysFeasible night blocks
Stops night blocks (Some stop) = (told stop ≡ first (delay_findings night blocks)) × (StaysFeasible night blocks → ⊥)

-- a stay has none of the ids of these
abbrev pub IsApart : List Stay → Stay → Type 0
IsApart own s = (t : Stay) → In t own → s.id ≢ t.id

-- these stays can come, that many minutes later
pub record CanCome (own : List Stay) (minutes : ℕ) (held : Holding) : Type 0 where
  pub few : minutes ≤ 120
  pub begin : (s : Stay) → In s own → s.enter.minute < 2880
  pub formed : AreStays (map (later minutes) own)
  pub tracks : (s : Stay) → In s own → s.track.0 < length held.lengths
  pub new : (s : Stay) → In s held.stays → IsApart own s
  pub most : length held.stays + length own ≤ 400
  pub room : length own ≤ held.spare

-- the same stays on the same tracks, with as much room
pub record Hold (before after : Holding) : Type 0 where
  pub members : (s : Stay) → In s after.stays ↔ In s before.stays
  pub lengths : after.lengths ≡ before.lengths
  pub room : after.spare + length after.stays ≡ before.spare + length before.stays

-- a feasible plan's blocks, by ascending id
pub record AreReadyBlocks (night : Night) (blocks : List Block) : Type 0 where
  pub in_range : AreInRange night blocks
  pub sorted : by_id blocks ≡ blocks
  pub feasible : StaysFeasible night blocks

-- whether a stay is of train i
abbrev pub of_train : ℕ → Stay → Bool
of_train i s = s.enter.train == i

-- the stays of the blocks are there, and room for 400
pub record AreAll (night : Night) (blocks : List Block) (held : Holding) : Type 0 where
  pub members : (s : Stay) → In s held.stays ↔ In s (stays_of night blocks)
  pub lengths : held.lengths ≡ track_lengths night.station
  pub room : 400 ≤ held.spare + length held.stays

-- the same without those of train i, which are apart
pub record AreOthers (night : Night) (blocks : List Block) (i : ℕ) (own : List Stay) (held : Holding) : Type 0 where
  pub own_are : own ≡ filter (of_train i) (stays_of night blocks)
  pub members : (s : Stay) → In s held.stays ↔ In s (stays_of night blocks) × (of_train i s ≡ false)
  pub lengths : held.lengths ≡ track_lengths night.station
  pub room : 400 ≤ held.spare + length held.stays

-- no two stays of other trains than i cross
abbrev pub AreOthersApart : ℕ → List Stay → Type 0
AreOthersApart i stays = (b c : Stay) → In b stays → In c stays → of_train i b ≡ false → of_train i c ≡ false → crosses b c ≡ false

-- no entry of a stay of another train than i leaves more than its track's length
abbrev pub AreOthersWithin : ℕ → List ℕ → List Stay → Type 0
AreOthersWithin i lengths stays = (b : Stay) → In b stays → of_train i b ≡ false → load_after stays b ≤ slice_index lengths b.track.0

-- those of these entries that leave more than their track's length
abbrev pub too_longs_of : List ℕ → List Stay → List Stay → List Finding
too_longs_of lengths stays own = flat_map (λ s. too_long_at lengths s (load_after stays s)) own
