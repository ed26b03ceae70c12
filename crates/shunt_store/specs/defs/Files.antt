-- Files by their names, and what a store is doing.
use Rattle.std.specs.Prelude.{◌≡◌, ℕ, ◌+◌, ◌<◌, ◌≤◌, List, [], ◌++◌, length, take, drop, Option, Some, None, unwrap_or, IfSome, refl}
use Rattle.std.specs.Coded.{Coded, code_by, coded×, coded_ℕ, coded_list, coded_option}
use Rattle.std.specs.Ordering.{nat_cmp}
use Rattle.std.specs.Cmp.Lexicographic.{slice_cmp}
use Rattle.std.specs.FinMap as map

-- a finite map from names to bytes
abbrev pub Files : Type 0
Files = map.FinMap (slice_cmp nat_cmp) (List ℕ)

-- what is read at a name: no bytes where it is absent
abbrev pub content : Files → List ℕ → List ℕ
content files name = unwrap_or (map.get files name) []

-- what a store is doing: nothing, reading a name, or writing a name, of which some bytes were written so far
pub data Stage : Type 0 where
  Closed : Stage
  Reading : List ℕ → Stage
  Writing : List ℕ → List ℕ → Stage

-- some name is read
abbrev pub IsReading : Stage → Type 0
IsReading Closed = ⊥
IsReading (Reading name) = Unit {0}
IsReading (Writing name text) = ⊥

-- some name is written
abbrev pub IsWriting : Stage → Type 0
IsWriting Closed = ⊥
IsWriting (Reading name) = ⊥
IsWriting (Writing name text) = Unit {0}

-- the name that is read or written
abbrev pub name_of : Stage → List ℕ
name_of Closed = []
name_of (Reading name) = name
name_of (Writing name text) = name

-- what was written so far
abbrev pub text_of : Stage → List ℕ
text_of Closed = []
text_of (Reading name) = []
text_of (Writing name text) = text

-- what the files are after a closing
abbrev pub files_after : Stage → Files → Files
files_after Closed files = files
files_after (Reading name) files = files
files_after (Writing name text) files = map.insert files name text

-- the buffer begins with the n bytes of the file after those that were taken, and n is 0 only at the end
pub record HandsOut (file : List ℕ) (taken n : ℕ) (buffer : List ℕ) : Type 0 where
  pub within : taken + n ≤ length file
  pub bytes : take n buffer ≡ take n (drop taken file)
  pub ended : n ≡ 0 → 0 < length buffer → taken ≡ length file

-- that many bytes, which are the first of what the name holds, where that is told
abbrev pub AreFirst : Option Files → List ℕ → ℕ → List ℕ → Type 0
AreFirst told name n bytes = (length bytes ≡ n) × IfSome told (λ files. bytes ≡ take n (content files name))

-- both are told, and the fact holds of them, or neither is
abbrev pub BothTold : {A : Type 0} → Option A → Option A → (A → A → Type 0) → Type 0
BothTold None None R = Unit {0}
BothTold None (Some new) R = ⊥
BothTold (Some old) None R = ⊥
BothTold (Some old) (Some new) R = R old new

-- a front of the text was added
abbrev pub AddsFront : List ℕ → List ℕ → List ℕ → Type 0
AddsFront text old new = (n : ℕ) × (n ≤ length text) × (new ≡ old ++ take n text)

-- a front of the text was appended to what is written
abbrev pub AppendsFront : List ℕ → Stage → Stage → Type 0
AppendsFront text old new = (n : ℕ) × (n ≤ length text) × (new ≡ Writing (name_of old) (text_of old ++ take n text))

-- how files are kept in a model
abbrev pub coded_files : Coded Files
coded_files = map.code (coded_list coded_ℕ) (coded_list coded_ℕ)

-- a stage as a name and what was written of it
abbrev pub tag_of : Stage → Option (List ℕ × Option (List ℕ))
tag_of Closed = None
tag_of (Reading name) = Some (name, None)
tag_of (Writing name text) = Some (name, Some text)

-- and back
abbrev pub of_tag : Option (List ℕ × Option (List ℕ)) → Stage
of_tag None = Closed
of_tag (Some (name, None)) = Reading name
of_tag (Some (name, Some text)) = Writing name text

-- the stage that was meant comes back
pub tagged : (s : Stage) → of_tag (tag_of s) ≡ s
tagged Closed = refl
tagged (Reading name) = refl
tagged (Writing name text) = refl

-- how a stage is kept in a model
abbrev pub coded_stage : Coded Stage
coded_stage = code_by (Option (List ℕ × Option (List ℕ))) (coded_option (coded× (coded_list coded_ℕ) (coded_option (coded_list coded_ℕ)))) tag_of of_tag tagged
