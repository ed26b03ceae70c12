-- The trains above the lanes.
use Rattle.std.specs.Prelude.{ℕ, ◌+◌, ◌==◌, Bool, false, ◌&&◌, List, [], ◌++◌, filter, length, slice_index_or, codes, decimal}
use Rattle.std.specs.List.{list_any, range_with_len, flat_map}
use Rattle.shunt_base.specs.declared.ids.TypeId.{TypeId}
use Rattle.shunt_instance.specs.declared.records.Station.{Station}
use Rattle.shunt_instance.specs.declared.records.Origin.{Origin}
use Rattle.shunt_instance.specs.declared.records.Origin.TheVariants as origin
use Rattle.shunt_instance.specs.declared.records.Train.{Train}
use Rattle.shunt_instance.specs.defs.Words.{train_at, track_names, is_standing}
use Rattle.shunt_instance.specs.defs.Instance.{Night, first_unit, first_position}
use Rattle.shunt_audit.specs.declared.types.Finding.{Finding}
use Rattle.shunt_audit.specs.declared.types.Finding.TheVariants.{UnitBare, UnitTwice, PlaceBare, PlaceTwice, WrongType, TooSoon, NoRouteIn, NoRouteOut, Crossing, TooLong, StatedCost}
use Rattle.shunt_picture.specs.declared.records.TrainMark.{TrainMark}
use Rattle.shunt_picture.specs.defs.Words.{kind_letters}

-- whether a finding is of a kind, of 1 to 4, and of the unit or position before the one with a number
abbrev pub tells : ℕ → ℕ → Finding → Bool
tells kind number (UnitBare u) = (kind == 1) && (u + 1 == number)
tells kind number (UnitTwice u) = (kind == 2) && (u + 1 == number)
tells kind number (PlaceBare v) = (kind == 3) && (v + 1 == number)
tells kind number (PlaceTwice v) = (kind == 4) && (v + 1 == number)
tells kind number (WrongType i) = false
tells kind number (TooSoon i) = false
tells kind number (NoRouteIn i) = false
tells kind number (NoRouteOut i) = false
tells kind number (Crossing i j) = false
tells kind number (TooLong i load) = false
tells kind number (StatedCost stated real) = false

abbrev pub is_told : List Finding → ℕ → ℕ → Bool
is_told findings kind number = list_any (tells kind number) findings

-- the places of a train with that many units, whose first one has a number, that findings of a kind are of
abbrev pub places_of : List Finding → ℕ → ℕ → ℕ → List ℕ
places_of findings kind first count = filter (λ place. is_told findings kind (first + place)) (range_with_len 1 count)

-- the name of a platform or a track
abbrev pub origin_name : Station → Origin → List ℕ
origin_name s (origin.Platform p) = slice_index_or s.platforms p.0 []
origin_name s (origin.Track t) = slice_index_or (track_names s) t.0 []

-- a train's name, where it comes from or goes to, and its types
unfoldable pub train_words : List ℕ → List ℕ → List TypeId → List ℕ
train_words name place kinds = name ++ codes " " ++ place ++ codes " " ++ kind_letters kinds

-- places of units or positions, each with the number of its finding
unfoldable pub place_text : ℕ → ℕ → List ℕ
place_text kind place = codes " " ++ decimal kind ++ codes ":" ++ decimal place

abbrev pub places_text : ℕ → List ℕ → List ℕ
places_text kind places = flat_map (place_text kind) places

-- the places of what of a train is bare or twice
unfoldable pub fault_places : ℕ → List ℕ → List ℕ → List ℕ
fault_places kind bare twice = places_text kind bare ++ places_text (kind + 1) twice

-- a train, with the places that findings of a kind and of the next one tell of
abbrev pub mark_of : Train → List ℕ → ℕ → List ℕ → List ℕ → TrainMark
mark_of t place kind bare twice = record {
  name = t.name;
  place = place;
  stands = is_standing t;
  minute = t.minute;
  kinds = t.units;
  bare = bare;
  twice = twice;
  words = train_words
      t.name place t.units;
  marks = fault_places kind bare twice;
}

-- the same of a train whose first unit or position has a number
abbrev pub train_mark : Station → List Finding → Train → ℕ → ℕ → TrainMark
train_mark s findings t kind first = mark_of t (origin_name s t.origin) kind (places_of findings kind first (length t.units)) (places_of findings (kind + 1) first (length t.units))

-- the arriving train with a number: its units may be bare, or in two blocks
abbrev pub arrive_mark : Night → List Finding → ℕ → TrainMark
arrive_mark night findings k = train_mark night.station findings (train_at night.arrive k) 1 (first_unit night k)

-- the departing train with a number: so may its positions
abbrev pub depart_mark : Night → List Finding → ℕ → TrainMark
depart_mark night findings k = train_mark night.station findings (train_at night.depart k) 3 (first_position night k)
