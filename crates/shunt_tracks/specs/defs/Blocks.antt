-- The blocks of a track, and what a move does there.
use Rattle.std.specs.Prelude.{◌≡◌, ◌≤◌, ℕ, List, map, Ok, Err, slice_index, slice_index_or, length, ◌<◌}
use Rattle.shunt_stays.specs.defs.Events.{Move}
use Rattle.shunt_stays.specs.defs.Run.{Standing, moved, load}
use Rattle.shunt_stays.specs.defs.Run.Stop.{Blocked, Over}
use Rattle.shunt_tracks.specs.declared.blocks.ListedBlock.{ListedBlock}
use Rattle.shunt_tracks.specs.declared.blocks.Did.{Did}
use Rattle.shunt_tracks.specs.declared.blocks.Did.TheVariants as did

-- a block of the code, as one that stands on a track
abbrev pub standing : ListedBlock → Standing
standing b = record { id = b.id; length = b.length }

-- the blocks of a track from A to B
abbrev pub blocks_of : List ListedBlock → List Standing
blocks_of blocks = map standing blocks

-- what came of a move
abbrev pub Does : Did → Move → ℕ → List Standing → List Standing → Type 0
Does (did.Moved n) m room old new = (moved room m old ≡ Ok new) × (load new ≡ n)
Does did.Blocked m room old new = moved room m old ≡ Err (Blocked m)
Does (did.Over n) m room old new = moved room m old ≡ Err (Over m n)

-- what stands on each track fits it
abbrev pub Fit : {X : Type 0} → (X → List Standing) → List ℕ → List X → Type 0
Fit {X} view lengths tracks = (k : ℕ) (d : X) → k < length tracks → load (view (slice_index_or tracks k d)) ≤ slice_index lengths k
