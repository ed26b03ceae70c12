-- The format of a roster over a plan's moves.
use Rattle.std.specs.Prelude.{ℕ, ◌<◌, ◌≤◌, ◌^◌, ◌==◌, Bool, true, false, not, ◌&&◌, All, nat_lt, List, [], ◌∷◌, ◌++◌, length, map, find, Option, if◌then◌else◌, codes}
use Rattle.std.specs.List.{list_any}
use Rattle.shunt_lists.specs.defs.Members.{In, AreDistinct}
use Rattle.shunt_base.specs.declared.ids.Side.TheVariants.{A}
use Rattle.shunt_base.specs.defs.Spelling.{decimal_of}
use Rattle.shunt_rows.specs.declared.fault.RowKind.TheVariants as kinds
use Rattle.shunt_rows.specs.defs.Records.{at}
use Rattle.shunt_rows.specs.defs.Checks.{Judged, must, says, found, ◌>>=◌}
use Rattle.shunt_rows.specs.defs.Fields.{is_word, no_word, fields_in, number_in, enters_of}
use Rattle.shunt_rows.specs.defs.Formats.{Format}
use Rattle.shunt_plan.specs.defs.BlockRecords.{first_in}
use Rattle.shunt_tracks.specs.declared.run.Event.{Event}
use Rattle.shunt_drivers.specs.declared.records.Duty.{Duty}

-- a move by its word and its id: whether it enters, and its block
abbrev pub MoveName : Type 0
MoveName = Bool × ℕ

-- the name of a move
abbrev pub name_of : Event → MoveName
name_of e = (e.key.enters, e.key.id)

-- the name of the move that a duty is of
abbrev pub named_by : Duty → MoveName
named_by d = (d.enters, d.id)

-- whether two names are one
abbrev pub is_one : MoveName → MoveName → Bool
is_one a b = (if a.0 then b.0 else not b.0) && a.1 == b.1

-- the move with a name
abbrev pub move_named : MoveName → List Event → Option Event
move_named name moves = find (λ e. is_one (name_of e) name) moves

-- whether one of these is the duty of the move with a name
abbrev pub has_duty : MoveName → List Duty → Bool
has_duty name duties = list_any (λ d. is_one (named_by d) name) duties

-- fills a place where there is no move
abbrev pub no_move : Event
no_move = record { key = record { minute = 0; enters = true; train = 0; place = 0; id = 0 }; track = record { 0 = 0 }; side = A }

-- DRIVER of `duty,DRIVER,MOVE,ID` behind these duties; the 801st is Limit
unfoldable pub driver_in : List Duty → List (List ℕ) → Judged ℕ
driver_in duties row = do
  _ ← fields_in row 4 4
  _ ← must (nat_lt (length duties) 800) 1 kinds.Limit
  number_in row 2 1 800

-- `MOVE,ID` at fields 3 and 4: one of these moves, of which there is no duty yet
unfoldable pub move_in : List Event → List Duty → List (List ℕ) → Judged Event
move_in moves duties row = do
  enters ← found true (enters_of (at row 3)) 3 kinds.Kind
  id ← found 0 (decimal_of (at row 4)) 4 kinds.Number
  e ← found no_move (move_named (enters, id) moves) 4 kinds.Unknown
  _ ← must (not (has_duty (name_of e) duties)) 4 kinds.Repeat
  says e

-- the duty of a move with the driver of a number
abbrev pub duty_by : ℕ → Event → Duty
duty_by driver e = record { driver = driver; enters = e.key.enters; id = e.key.id }

-- `duty,DRIVER,MOVE,ID` behind these duties
unfoldable pub duty_of : List Event → List Duty → List (List ℕ) → Judged Duty
duty_of moves duties row = do
  driver ← driver_in duties row
  e ← move_in moves duties row
  says (duty_by driver e)

-- `roster,1`
unfoldable pub roster_first : List (List ℕ) → Judged (List Duty)
roster_first row = first_in (codes "roster") [] row

-- these duties and the one of a record
unfoldable pub duties_of : List Event → List Duty → List (List ℕ) → Judged (List Duty)
duties_of moves duties row = do
  d ← duty_of moves duties row
  says (duties ++ d ∷ [])

-- a later record: one more duty
unfoldable pub roster_later : List Event → List Duty → List (List ℕ) → Judged (List Duty)
roster_later moves duties row = if is_word row (codes "duty") then duties_of moves duties row else no_word duties

-- the roster file: no record is the last one, and none is missing behind the first
abbrev pub roster_format : List Event → Format (List Duty) (List Duty)
roster_format moves = record { first = roster_first; later = roster_later moves; has_ended = λ duties. false; is_whole = λ duties. true; value = λ duties. duties }

-- each is the duty of one of these moves, and no two are of one
pub record AreDuties (moves : List Event) (duties : List Duty) : Type 0 where
  pub each : All (λ d. In (named_by d) (map name_of moves)) duties
  pub once : AreDistinct (map named_by duties)

-- its driver and its id can be spelled
pub record IsSpelled (d : Duty) : Type 0 where
  pub first : 1 ≤ d.driver
  pub last : d.driver ≤ 800
  pub id : d.id < 10 ^ 18

-- duties that a file can state over these moves
pub record IsRoster (moves : List Event) (duties : List Duty) : Type 0 where
  pub few : length duties ≤ 800
  pub spelled : All IsSpelled duties
  pub of_moves : AreDuties moves duties
