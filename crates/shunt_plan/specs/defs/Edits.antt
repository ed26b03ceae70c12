-- The format of edits in a night.
use Rattle.std.specs.Prelude.{ℕ, ◌<◌, ◌≤◌, ◌==◌, ◌||◌, nat_lt, true, false, List, [], ◌∷◌, ◌++◌, length, All, if◌then◌else◌, codes}
use Rattle.shunt_rows.specs.declared.fault.RowKind.TheVariants as kinds
use Rattle.shunt_rows.specs.defs.Checks.{Judged, must, says, ◌>>=◌}
use Rattle.shunt_rows.specs.defs.Fields.{is_word, no_word, fields_in, number_in, side_in}
use Rattle.shunt_rows.specs.defs.Formats.{Format}
use Rattle.shunt_instance.specs.defs.Instance.{Night}
use Rattle.shunt_blocks.specs.declared.records.Shape.{Shape}
use Rattle.shunt_blocks.specs.defs.Shapes.{IsOnTrack}
use Rattle.shunt_plan.specs.declared.edits.Edit.{Edit}
use Rattle.shunt_plan.specs.declared.edits.Edit.TheVariants as edits
use Rattle.shunt_plan.specs.declared.edits.Turn.{Turn}
use Rattle.shunt_plan.specs.declared.edits.Turn.TheVariants as turns
use Rattle.shunt_plan.specs.defs.BlockRecords.{first_in, arr_in, dep_in, track_in, option_in}

-- an id from 1 to 1,000,000
abbrev pub IsId : ℕ → Type 0
IsId id = (1 ≤ id) × (id ≤ 1000000)

-- the trains are the night's, and the numbers are at most 8
pub record AreRunsStated (night : Night) (s : Shape) : Type 0 where
  pub arr : s.arr.0 < length night.arrive
  pub p : s.p ≤ 8
  pub n : s.n ≤ 8
  pub dep : s.dep.0 < length night.depart
  pub q : s.q ≤ 8

-- an edit that a file can state in this night
abbrev pub IsEdit : Night → Edit → Type 0
IsEdit night (edits.Add arr p n dep q park) = AreRunsStated night (record { arr = arr; p = p; n = n; dep = dep; q = q }) × IsOnTrack night.station park
IsEdit night (edits.Drop id) = IsId id
IsEdit night (edits.Park id park) = IsId id × (park.track.0 < length night.station.tracks)
IsEdit night (edits.Unpark id) = IsId id
IsEdit night (edits.Cut id k) = IsId id × (k ≤ 8)
IsEdit night (edits.Join first second) = IsId first × IsId second

-- a turn that a file can state in this night
abbrev pub IsTurn : Night → Turn → Type 0
IsTurn night (turns.Edit e) = IsEdit night e
IsTurn night turns.Undo = Unit {0}
IsTurn night turns.Redo = Unit {0}

-- turns that a file can state in this night: at most 10,000
pub record AreTurns (night : Night) (all : List Turn) : Type 0 where
  pub few : length all ≤ 10000
  pub each : All (IsTurn night) all

-- there is room for one more turn behind that many; the 10,001st is Limit
abbrev pub room_in : ℕ → Judged (Unit {0})
room_in before = must (nat_lt before 10000) 1 kinds.Limit

-- the field is the id of a block, which may be there or not
abbrev pub block_id_in : List (List ℕ) → ℕ → Judged ℕ
block_id_in row k = number_in row k 1 1000000

-- the field is a place in a train or a number of units
abbrev pub count_in : List (List ℕ) → ℕ → Judged ℕ
count_in row k = number_in row k 0 8

-- `add,ARR,P,N,DEP,Q` in 7 or 10 fields, with its option yet to come
unfoldable pub runs_in : Night → ℕ → List (List ℕ) → Judged Shape
runs_in night before row = do
  _ ← must (length row == 7 || length row == 10) 1 kinds.Fields
  _ ← room_in before
  arr ← arr_in night row 2
  p ← count_in row 3
  count ← count_in row 4
  dep ← dep_in night row 5
  q ← count_in row 6
  says record { arr = arr; p = p; n = count; dep = dep; q = q }

-- `add,ARR,P,N,DEP,Q,unparked` or `add,ARR,P,N,DEP,Q,park,TRACK,IN,OUT`
unfoldable pub add_of : Night → ℕ → List (List ℕ) → Judged Turn
add_of night before row = do
  s ← runs_in night before row
  park ← option_in night.station row 7
  says (turns.Edit (edits.Add s.arr s.p s.n s.dep s.q park))

-- `drop,ID`
unfoldable pub drop_of : ℕ → List (List ℕ) → Judged Turn
drop_of before row = do
  _ ← fields_in row 2 2
  _ ← room_in before
  id ← block_id_in row 2
  says (turns.Edit (edits.Drop id))

-- `park,ID,TRACK,IN,OUT`
unfoldable pub park_of : Night → ℕ → List (List ℕ) → Judged Turn
park_of night before row = do
  _ ← fields_in row 5 5
  _ ← room_in before
  id ← block_id_in row 2
  track ← track_in night.station row 3
  entry ← side_in row 4
  leave ← side_in row 5
  says (turns.Edit (edits.Park id (record { track = track; side_in = entry; side_out = leave })))

-- `unpark,ID`
unfoldable pub unpark_of : ℕ → List (List ℕ) → Judged Turn
unpark_of before row = do
  _ ← fields_in row 2 2
  _ ← room_in before
  id ← block_id_in row 2
  says (turns.Edit (edits.Unpark id))

-- `cut,ID,K`
unfoldable pub cut_of : ℕ → List (List ℕ) → Judged Turn
cut_of before row = do
  _ ← fields_in row 3 3
  _ ← room_in before
  id ← block_id_in row 2
  k ← count_in row 3
  says (turns.Edit (edits.Cut id k))

-- `join,ID,ID`
unfoldable pub join_of : ℕ → List (List ℕ) → Judged Turn
join_of before row = do
  _ ← fields_in row 3 3
  _ ← room_in before
  first ← block_id_in row 2
  second ← block_id_in row 3
  says (turns.Edit (edits.Join first second))

-- `undo` and `redo`
unfoldable pub undo_of : ℕ → List (List ℕ) → Judged Turn
undo_of before row = do
  _ ← fields_in row 1 1
  _ ← room_in before
  says turns.Undo

unfoldable pub redo_of : ℕ → List (List ℕ) → Judged Turn
redo_of before row = do
  _ ← fields_in row 1 1
  _ ← room_in before
  says turns.Redo

-- the turn of a record behind that many turns, by its word
unfoldable pub turn_of : Night → ℕ → List (List ℕ) → Judged Turn
turn_of night before row =
    if is_word row (codes "add") then add_of night before row
    else if is_word row (codes "drop") then drop_of before row
    else if is_word row (codes "park") then park_of night before row
    else if is_word row (codes "unpark") then unpark_of before row
    else if is_word row (codes "cut") then cut_of before row
    else if is_word row (codes "join") then join_of before row
    else if is_word row (codes "undo") then undo_of before row
    else if is_word row (codes "redo") then redo_of before row
    else no_word turns.Undo

-- `edits,1`
unfoldable pub edits_first : List (List ℕ) → Judged (List Turn)
edits_first row = first_in (codes "edits") [] row

-- a later record: one more turn
unfoldable pub edits_later : Night → List Turn → List (List ℕ) → Judged (List Turn)
edits_later night before row = do
  t ← turn_of night (length before) row
  says (before ++ t ∷ [])

-- the edits file: no record is the last one, and none is missing behind the first
abbrev pub edits_format : Night → Format (List Turn) (List Turn)
edits_format night = record { first = edits_first; later = edits_later night; has_ended = λ before. false; is_whole = λ before. true; value = λ before. before }
