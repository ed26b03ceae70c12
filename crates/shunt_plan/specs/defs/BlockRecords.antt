-- What the record of a block says in a night.
use Rattle.std.specs.Prelude.{ℕ, ◌+◌, ◌-◌, ◌==◌, not, ◌||◌, nat_lt, Bool, List, [], ◌∷◌, ◌++◌, length, Option, Some, None, if◌then◌else◌, codes}
use Rattle.std.specs.Str.{bytes_eq}
use Rattle.std.specs.List.{list_any}
use Rattle.shunt_base.specs.declared.ids.ArrId.{ArrId}
use Rattle.shunt_base.specs.declared.ids.DepId.{DepId}
use Rattle.shunt_base.specs.declared.ids.TrackId.{TrackId}
use Rattle.shunt_base.specs.defs.Spelling.{decimal_of}
use Rattle.shunt_rows.specs.declared.fault.RowKind.TheVariants as kinds
use Rattle.shunt_rows.specs.defs.Records.{at}
use Rattle.shunt_rows.specs.defs.Checks.{Judged, must, says, found, ◌>>=◌}
use Rattle.shunt_rows.specs.defs.Fields.{is_word, is_within, fields_in, number_in, side_in}
use Rattle.shunt_instance.specs.declared.records.Station.{Station}
use Rattle.shunt_instance.specs.defs.Words.{train_at, track_of_name}
use Rattle.shunt_instance.specs.defs.Instance.{Night, arr_of_name, dep_of_name}
use Rattle.shunt_blocks.specs.declared.records.Park.{Park}
use Rattle.shunt_blocks.specs.declared.records.Block.{Block}

-- `WORD,VERSION` with VERSION 1, and nothing stated yet
abbrev pub first_in : {S : Type 0} → List ℕ → S → List (List ℕ) → Judged S
first_in word s row = do
  _ ← must (is_word row word) 1 kinds.Kind
  _ ← fields_in row 2 2
  _ ← number_in row 2 1 1
  says s

-- how many units an arriving train has, and how many a departing one
unfoldable pub arr_units : Night → ArrId → ℕ
arr_units night a = length (train_at night.arrive a.0).units

unfoldable pub dep_units : Night → DepId → ℕ
dep_units night d = length (train_at night.depart d.0).units

-- the field is an arriving train, a departing train, a track
abbrev pub arr_in : Night → List (List ℕ) → ℕ → Judged ArrId
arr_in night row k = found (record { 0 = 0 }) (arr_of_name night (at row k)) k kinds.Unknown

abbrev pub dep_in : Night → List (List ℕ) → ℕ → Judged DepId
dep_in night row k = found (record { 0 = 0 }) (dep_of_name night (at row k)) k kinds.Unknown

abbrev pub track_in : Station → List (List ℕ) → ℕ → Judged TrackId
track_in s row k = found (record { 0 = 0 }) (track_of_name s (at row k)) k kinds.Unknown

-- `unparked` at this field
unfoldable pub unparked_in : List (List ℕ) → ℕ → Judged (Option Park)
unparked_in row k = do
  _ ← must (bytes_eq (at row k) (codes "unparked")) k kinds.Kind
  says None

-- `park,TRACK,IN,OUT` from this field on
unfoldable pub parked_in : Station → List (List ℕ) → ℕ → Judged (Option Park)
parked_in s row k = do
  _ ← must (bytes_eq (at row k) (codes "park")) k kinds.Kind
  track ← track_in s row (k + 1)
  entry ← side_in row (k + 2)
  leave ← side_in row (k + 3)
  says (Some record { track = track; side_in = entry; side_out = leave })

-- an option from this field on: `unparked` where it is the record's last field
unfoldable pub option_in : Station → List (List ℕ) → ℕ → Judged (Option Park)
option_in s row k = if length row == k then unparked_in row k else parked_in s row k

-- whether one of these blocks has this id
unfoldable pub has_id : List Block → ℕ → Bool
has_id blocks id = list_any (λ b. b.id == id) blocks

-- the field is an id from 1 to 1,000,000, which none of these blocks has
abbrev pub id_in : List Block → List (List ℕ) → ℕ → Judged ℕ
id_in blocks row k = do
  id ← found 0 (decimal_of (at row k)) k kinds.Number
  _ ← must (not (has_id blocks id)) k kinds.Repeat
  _ ← must (is_within 1 1000000 id) k kinds.Limit
  says id

-- `block,ID,ARR,P,N,DEP,Q` in 8 or 11 fields behind these blocks, with its option yet to come; the 401st is Limit
unfoldable pub runs_of : Night → List Block → List (List ℕ) → Judged Block
runs_of night blocks row = do
  _ ← must (length row == 8 || length row == 11) 1 kinds.Fields
  _ ← must (nat_lt (length blocks) 400) 1 kinds.Limit
  id ← id_in blocks row 2
  arr ← arr_in night row 3
  p ← number_in row 4 1 (arr_units night arr)
  count ← number_in row 5 1 (arr_units night arr + 1 - p)
  dep ← dep_in night row 6
  q ← number_in row 7 1 (dep_units night dep + 1 - count)
  says record { id = id; arr = arr; p = p; n = count; dep = dep; q = q; park = None }

-- `block,ID,ARR,P,N,DEP,Q,unparked` or `block,ID,ARR,P,N,DEP,Q,park,TRACK,IN,OUT` behind these blocks
unfoldable pub block_of : Night → List Block → List (List ℕ) → Judged Block
block_of night blocks row = do
  block ← runs_of night blocks row
  park ← option_in night.station row 8
  says record block { park = park }

-- these blocks and the one of a record
unfoldable pub blocks_of : Night → List Block → List (List ℕ) → Judged (List Block)
blocks_of night blocks row = do
  block ← block_of night blocks row
  says (blocks ++ block ∷ [])
