-- The format of a sheet over a station.
use Rattle.std.specs.Prelude.{◌≡◌, ◌≢◌, ℕ, ◌-◌, ◌<◌, ◌≤◌, ◌==◌, Bool, true, false, not, ◌&&◌, ◌||◌, nat_lt, nat_le, List, [], ◌∷◌, ◌++◌, length, map, slice_index, Option, Some, None, is_some, if◌then◌else◌, codes}
use Rattle.std.specs.List.{list_any}
use Rattle.shunt_lists.specs.defs.Members.{In}
use Rattle.shunt_base.specs.defs.Spelling.{decimal_of}
use Rattle.shunt_rows.specs.declared.fault.RowKind.TheVariants as kinds
use Rattle.shunt_rows.specs.defs.Records.{at}
use Rattle.shunt_rows.specs.defs.Checks.{Judged, must, says, found, ◌>>=◌}
use Rattle.shunt_rows.specs.defs.Fields.{is_word, is_within, no_word, fields_in, number_in, minute_in, named_in, side_in, enters_of}
use Rattle.shunt_rows.specs.defs.Formats.{Format}
use Rattle.shunt_instance.specs.declared.records.Station.{Station}
use Rattle.shunt_plan.specs.defs.BlockRecords.{first_in}
use Rattle.shunt_sheet.specs.declared.records.Order.{Order}
use Rattle.shunt_sheet.specs.declared.reader.Entered.{Entered}
use Rattle.shunt_sheet.specs.declared.reader.StatedMove.{StatedMove}
use Rattle.shunt_sheet.specs.declared.reader.StatedPlace.{StatedPlace}

-- whether an order is the entry, or the leave, of the block with an id
abbrev pub is_of : Bool → ℕ → Order → Bool
is_of enters id o = (if o.enters then enters else not enters) && o.id == id

-- whether one of these orders is
unfoldable pub stands : List Order → Bool → ℕ → Bool
stands orders enters id = list_any (is_of enters id) orders

-- the length and the track that an entry states
abbrev pub entered_by : Order → Entered
entered_by o = record { length = o.length; track = o.track }

-- those of the entry of the block with an id, where one of these orders is it
abbrev pub entry_in : ℕ → List Order → Option Entered
entry_in id [] = None
entry_in id (o ∷ orders) = if is_of true id o then Some (entered_by o) else entry_in id orders

-- whether an entry was found that passes a test
abbrev pub keeps : (Entered → Bool) → Option Entered → Bool
keeps test None = false
keeps test (Some e) = test e

-- whether the block of a leave entered by one of these orders
unfoldable pub has_entered : List Order → Bool → ℕ → Bool
has_entered orders enters id = enters || is_some (entry_in id orders)

-- whether this is the length of a leave's entry
unfoldable pub keeps_length : List Order → StatedMove → ℕ → Bool
keeps_length orders m long = m.enters || keeps (λ e. e.length == long) (entry_in m.id orders)

-- whether this is the track of a leave's entry
unfoldable pub keeps_track : List Order → StatedMove → ℕ → Bool
keeps_track orders m track = m.enters || keeps (λ e. e.track.0 == track) (entry_in m.id orders)

-- the minute of the last of these orders, or 0
unfoldable pub last_minute : List Order → ℕ
last_minute orders = slice_index (map (λ o. o.minute) orders) (length orders - 1)

-- `MINUTE` at field 2, behind these orders; the 801st order is Limit at field 1
unfoldable pub start_in : List Order → List (List ℕ) → Judged ℕ
start_in orders row = do
  _ ← fields_in row 7 7
  _ ← must (nat_lt (length orders) 800) 1 kinds.Limit
  minute ← minute_in row 2
  _ ← must (nat_le (last_minute orders) minute) 2 kinds.Limit
  says minute

-- `MOVE,ID` at fields 3 and 4, behind these orders: each block enters at most once, and leaves at most once after it
unfoldable pub move_in : List Order → List (List ℕ) → Judged StatedMove
move_in orders row = do
  enters ← found true (enters_of (at row 3)) 3 kinds.Kind
  id ← found 0 (decimal_of (at row 4)) 4 kinds.Number
  _ ← must (has_entered orders enters id) 4 kinds.Unknown
  _ ← must (not (stands orders enters id)) 4 kinds.Repeat
  _ ← must (is_within 1 1000000 id) 4 kinds.Limit
  says record { enters = enters; id = id }

-- `LENGTH,TRACK,SIDE` from field 5 on: in a leave the length and the track are those of its entry
unfoldable pub place_in : Station → List Order → StatedMove → List (List ℕ) → Judged StatedPlace
place_in s orders m row = do
  long ← number_in row 5 1 40000
  _ ← must (keeps_length orders m long) 5 kinds.Limit
  track ← named_in (λ t. t.name) s.tracks row 6
  _ ← must (keeps_track orders m track) 6 kinds.Unknown
  side ← side_in row 7
  says record { length = long; track = record { 0 = track }; side = side }

abbrev pub order_by : ℕ → StatedMove → StatedPlace → Order
order_by minute m p = record { minute = minute; enters = m.enters; id = m.id; length = p.length; track = p.track; side = p.side }

-- `order,MINUTE,MOVE,ID,LENGTH,TRACK,SIDE` behind these orders
unfoldable pub order_in : Station → List Order → List (List ℕ) → Judged Order
order_in s orders row = do
  minute ← start_in orders row
  m ← move_in orders row
  p ← place_in s orders m row
  says (order_by minute m p)

-- `sheet,1`
unfoldable pub sheet_first : List (List ℕ) → Judged (List Order)
sheet_first row = first_in (codes "sheet") [] row

-- these orders and the one of a record
unfoldable pub more_of : Station → List Order → List (List ℕ) → Judged (List Order)
more_of s orders row = do
  o ← order_in s orders row
  says (orders ++ o ∷ [])

-- a later record: one more order
unfoldable pub sheet_later : Station → List Order → List (List ℕ) → Judged (List Order)
sheet_later s orders row = if is_word row (codes "order") then more_of s orders row else no_word orders

-- the sheet file: no record is the last one, and none is missing behind the first
abbrev pub sheet_format : Station → Format (List Order) (List Order)
sheet_format s = record { first = sheet_first; later = sheet_later s; has_ended = λ orders. false; is_whole = λ orders. true; value = λ orders. orders }

-- an order that a file can state behind these: its numbers are in their ranges, no other order of its block and word stands before
-- it, and a leave has its length and track from its entry, which stands before it
pub record MayFollow (s : Station) (before : List Order) (o : Order) : Type 0 where
  pub minute : o.minute < 2880
  pub later : last_minute before ≤ o.minute
  pub first_id : 1 ≤ o.id
  pub last_id : o.id ≤ 1000000
  pub some : 1 ≤ o.length
  pub long : o.length ≤ 40000
  pub track : o.track.0 < length s.tracks
  pub once : (p : Order) → In p before → p.enters ≡ o.enters → p.id ≢ o.id
  pub entered : o.enters ≡ false → entry_in o.id before ≡ Some (entered_by o)

-- orders that a file can state over a station
pub record AreOrders (s : Station) (orders : List Order) : Type 0 where
  pub few : length orders ≤ 800
  pub each : (before : List Order) (o : Order) (after : List Order) → orders ≡ before ++ o ∷ after → MayFollow s before o
