-- The blocks that stand on a track, and what an order does there.
use Rattle.std.specs.Prelude.{◌≡◌, ℕ, List, map, Ok, Err}
use Rattle.shunt_stays.specs.defs.Events.{Move}
use Rattle.shunt_stays.specs.defs.Run.{Standing, moved}
use Rattle.shunt_stays.specs.defs.Run.Stop.{Blocked, Over}
use Rattle.shunt_sheet.specs.declared.tracks.Parked.{Parked}
use Rattle.shunt_sheet.specs.declared.tracks.Did.{Did}
use Rattle.shunt_sheet.specs.declared.tracks.Did.TheVariants as did

-- a block of the code, as one that stands on a track
abbrev pub standing : Parked → Standing
standing b = record { id = b.id; length = b.length }

-- the blocks of a track from A to B
abbrev pub blocks_of : List Parked → List Standing
blocks_of blocks = map standing blocks

-- what came of an order
abbrev pub Does : Did → Move → ℕ → List Standing → List Standing → Type 0
Does did.Moved m room old new = moved room m old ≡ Ok new
Does did.Blocked m room old new = moved room m old ≡ Err (Blocked m)
Does (did.Over n) m room old new = moved room m old ≡ Err (Over m n)
