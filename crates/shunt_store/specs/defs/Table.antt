-- The finite map that a list of files is.
use Rattle.std.specs.Prelude.{◌≡◌, ◌≢◌, ℕ, ◌<◌, List, [], map, length, take, slice_index_or, All}
use Rattle.std.specs.FinMap.{from_entries}
use Rattle.shunt_store.specs.declared.table.File.{File}
use Rattle.shunt_store.specs.defs.Files.{Files}

-- a file's name and its bytes
abbrev pub entry : File → List ℕ × List ℕ
entry f = (f.name.items, f.bytes.items)

-- the first file of a name counts
abbrev pub files_of : List File → Files
files_of files = from_entries (map entry files)

-- what the files are called, in the order of the list
abbrev pub names_of : List File → List (List ℕ)
names_of files = map (λ f. f.name.items) files

-- what the file at a place is called
abbrev pub name_at : List File → ℕ → List ℕ
name_at files place = slice_index_or (names_of files) place []

-- the first file of the name stands at the place
pub record IsPlaceOf (files : List File) (name : List ℕ) (place : ℕ) : Type 0 where
  pub within : place < length files
  pub here : name_at files place ≡ name
  pub before : All (λ f. f.name.items ≢ name) (take place files)

-- the file at the place is the first of its name
abbrev pub IsFirst : List File → ℕ → Type 0
IsFirst files place = IsPlaceOf files (name_at files place) place
