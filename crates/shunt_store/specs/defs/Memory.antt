-- What a store in memory holds.
use Rattle.std.specs.Prelude.{ℕ, ◌≤◌, List, length}
use Rattle.shunt_store.specs.declared.memory.MemoryState.{MemoryState}
use Rattle.shunt_store.specs.declared.memory.MemoryState.TheVariants as doing
use Rattle.shunt_store.specs.declared.memory.MemStore.TheInside.{Inside}
use Rattle.shunt_store.specs.declared.table.File.{File}
use Rattle.shunt_store.specs.defs.Files.{Stage, Closed, Reading, Writing, content}
use Rattle.shunt_store.specs.defs.Pieces.{LetsThrough}
use Rattle.shunt_store.specs.defs.Table.{files_of, name_at, IsFirst}
use Rattle.shunt_store.specs.defs.Held.{Held}

-- what it is doing, by the name of the file at the place, or the name and the bytes that are written
abbrev pub stage_of : List File → MemoryState → Stage
stage_of files doing.Closed = Closed
stage_of files (doing.Reading place) = Reading (name_at files place)
stage_of files (doing.Writing name text) = Writing name.items text.items

-- its fields as what they stand for
abbrev pub held : Inside → Held
held s = record {
  files = files_of s.files.items;
  heard = s.heard.entries;
  stored = s.stored.entries;
  failing = s.failing.items;
  calls = s.calls;
  faults = s.faults;
  stage = stage_of s.files.items s.doing;
  taken = s.taken;
  handed = s.handed;
  piece = s.piece;
}

-- the file that is read is the first of its name, and no more was taken of it than it has
abbrev pub StandsWell : List File → MemoryState → ℕ → Type 0
StandsWell files doing.Closed taken = Unit {0}
StandsWell files (doing.Reading place) taken = IsFirst files place × (taken ≤ length (content (files_of files) (name_at files place)))
StandsWell files (doing.Writing name text) taken = Unit {0}

-- what is true of its fields at any time
pub record IsSoundMemory (s : Inside) : Type 0 where
  pub place : StandsWell s.files.items s.doing s.taken
  pub piece : LetsThrough s.piece
