-- What a store that never faults holds.
use Rattle.std.specs.Prelude.{ℕ, ◌≤◌, List, length}
use Rattle.shunt_store.specs.declared.sure.SureState.{SureState}
use Rattle.shunt_store.specs.declared.sure.SureState.TheVariants as doing
use Rattle.shunt_store.specs.declared.sure.SureStore.TheInside.{Inside}
use Rattle.shunt_store.specs.declared.table.File.{File}
use Rattle.shunt_store.specs.defs.Files.{Stage, Closed, Reading, Writing, content}
use Rattle.shunt_store.specs.defs.Table.{files_of}
use Rattle.shunt_store.specs.defs.Sure.{Sure}

-- what it is doing
abbrev pub stage_of : SureState → Stage
stage_of doing.Closed = Closed
stage_of (doing.Reading name) = Reading name.items
stage_of (doing.Writing name text) = Writing name.items text.items

-- its fields as what they stand for
abbrev pub kept : Inside → Sure
kept s = record { files = files_of s.files.items; heard = s.heard.entries; stored = s.stored.entries; stage = stage_of s.doing; taken = s.taken; handed = s.handed }

-- no more was taken than what is read has
abbrev pub StandsWell : List File → SureState → ℕ → Type 0
StandsWell files doing.Closed taken = Unit {0}
StandsWell files (doing.Reading name) taken = taken ≤ length (content (files_of files) name.items)
StandsWell files (doing.Writing name text) taken = Unit {0}

-- what is true of its fields at any time
abbrev pub IsSoundSure : Inside → Type 0
IsSoundSure s = StandsWell s.files.items s.doing s.taken
