-- What is told of blocks.
use Rattle.std.specs.Prelude.{ℕ, ◌-◌, ◌==◌, Bool, false, is_some, ◌&&◌, ◌||◌, List, [], ◌∷◌, ◌++◌, filter, take, drop, slice_index_or, codes, Option, Some, None, option_map, if◌then◌else◌}
use Rattle.std.specs.List.{list_any, range_with_len, flat_map}
use Rattle.shunt_base.specs.declared.ids.TypeId.{TypeId}
use Rattle.shunt_instance.specs.defs.Words.{train_at, track_names}
use Rattle.shunt_instance.specs.defs.Instance.{Night}
use Rattle.shunt_blocks.specs.declared.records.Block.{Block}
use Rattle.shunt_blocks.specs.declared.records.Park.{Park}
use Rattle.shunt_blocks.specs.defs.Stays.{stay_of, block_length}
use Rattle.shunt_blocks.specs.defs.Costs.{block_cost}
use Rattle.shunt_audit.specs.declared.types.Finding.{Finding}
use Rattle.shunt_audit.specs.declared.types.Finding.TheVariants.{UnitBare, UnitTwice, PlaceBare, PlaceTwice, WrongType, TooSoon, NoRouteIn, NoRouteOut, Crossing, TooLong, StatedCost}
use Rattle.shunt_picture.specs.declared.records.Told.{Told}
use Rattle.shunt_picture.specs.declared.records.Loose.{Loose}
use Rattle.shunt_picture.specs.defs.Words.{time_text, label_of, faults_words}

-- the types of the units
abbrev pub kinds_of : Night → Block → List TypeId
kinds_of night b = take b.n (drop (b.p - 1) (train_at night.arrive b.arr.0).units)

-- whether a finding is of a kind and names a block
abbrev pub names : ℕ → ℕ → Finding → Bool
names kind id (UnitBare u) = false
names kind id (UnitTwice u) = false
names kind id (PlaceBare v) = false
names kind id (PlaceTwice v) = false
names kind id (WrongType i) = (kind == 5) && (i == id)
names kind id (TooSoon i) = (kind == 6) && (i == id)
names kind id (NoRouteIn i) = (kind == 7) && (i == id)
names kind id (NoRouteOut i) = (kind == 8) && (i == id)
names kind id (Crossing i j) = (kind == 9) && ((i == id) || (j == id))
names kind id (TooLong i load) = (kind == 10) && (i == id)
names kind id (StatedCost stated real) = false

-- whether one of these findings is of a kind and names a block
abbrev pub is_marked : List Finding → ℕ → ℕ → Bool
is_marked findings id kind = list_any (names kind id) findings

-- the numbers from 5 to 10 of the findings that name a block
abbrev pub faults_of : List Finding → ℕ → List ℕ
faults_of findings id = filter (is_marked findings id) (range_with_len 5 6)

-- a block's id, its trains with its first places there, its types, its length, its cost and its findings
abbrev pub told_of : Night → List Finding → Block → Told
told_of night findings b = record {
  id = b.id;
  arr = (train_at night.arrive b.arr.0).name;
  p = b.p;
  dep = (train_at night.depart b.dep.0).name;
  q = b.q;
  kinds = kinds_of night b;
  length = block_length night b;
  cost = block_cost night b;
  faults = faults_of findings b.id;
}

-- the name of the track on which a block is parked
abbrev pub track_name : Night → Option Park → Option (List ℕ)
track_name night park = option_map (λ k. slice_index_or (track_names night.station) k.track.0 []) park

-- where a loose block is parked
abbrev pub track_words : Option (List ℕ) → List ℕ
track_words None = []
track_words (Some name) = codes " on " ++ name

-- a loose block: its label, and the minutes of its trains
unfoldable pub loose_words : Told → ℕ → ℕ → Option (List ℕ) → List ℕ
loose_words t enter leave track = label_of t ++ codes " " ++ time_text enter ++ codes " " ++ time_text leave ++ track_words track

-- a block that has no stay, with the minutes of its trains and where it is parked
abbrev pub loose_with : Told → ℕ → ℕ → Option (List ℕ) → Loose
loose_with t enter leave track = record { told = t; enter = enter; leave = leave; track = track; words = loose_words t enter leave track; marks = faults_words t.faults }

abbrev pub loose_of : Night → List Finding → Block → Loose
loose_of night findings b = loose_with (told_of night findings b) (train_at night.arrive b.arr.0).minute (train_at night.depart b.dep.0).minute (track_name night b.park)

-- a block, where it has none
abbrev pub loose_at : Night → List Finding → Block → List Loose
loose_at night findings b = if is_some (stay_of night b) then [] else loose_of night findings b ∷ []

-- the blocks that have none
abbrev pub looses_of : Night → List Finding → List Block → List Loose
looses_of night findings blocks = flat_map (loose_at night findings) blocks
