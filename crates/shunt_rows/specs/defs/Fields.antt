-- What a field may be.
use Rattle.std.specs.Prelude.{ℕ, Bool, true, false, ◌&&◌, nat_le, List, [], ◌∷◌, length, Option, Some, None, position, if◌then◌else◌, codes}
use Rattle.std.specs.Str.{bytes_eq}
use Rattle.shunt_base.specs.declared.ids.Side.{Side}
use Rattle.shunt_base.specs.declared.ids.Side.TheVariants as sides
use Rattle.shunt_base.specs.defs.Spelling.{decimal_of, minute_of}
use Rattle.shunt_rows.specs.declared.fault.RowKind.TheVariants as kinds
use Rattle.shunt_rows.specs.defs.Records.{at}
use Rattle.shunt_rows.specs.defs.Checks.{Judged, must, says, found, ◌>>=◌}

-- whether this is the word of a record
abbrev pub is_word : List (List ℕ) → List ℕ → Bool
is_word row word = bytes_eq (at row 1) word

-- a record whose word is none that may stand there
abbrev pub no_word : {S : Type 0} → S → Judged S
no_word s = record { checks = record { field = 1; kind = kinds.Kind; holds = false } ∷ []; value = s }

-- whether a number lies from the one to the other
unfoldable pub is_within : ℕ → ℕ → ℕ → Bool
is_within least most x = nat_le least x && nat_le x most

-- the record has from that many to that many fields
abbrev pub fields_in : List (List ℕ) → ℕ → ℕ → Judged (Unit {0})
fields_in row least most = must (is_within least most (length row)) 1 kinds.Fields

-- the field is a number, from the one to the other
abbrev pub number_in : List (List ℕ) → ℕ → ℕ → ℕ → Judged ℕ
number_in row k least most = do
  x ← found 0 (decimal_of (at row k)) k kinds.Number
  _ ← must (is_within least most x) k kinds.Limit
  says x

-- the field is a minute
abbrev pub minute_in : List (List ℕ) → ℕ → Judged ℕ
minute_in row k = found 0 (minute_of (at row k)) k kinds.Time

-- the side that a text names
unfoldable pub side_of : List ℕ → Option Side
side_of bytes = if bytes_eq bytes (codes "A") then Some sides.A else if bytes_eq bytes (codes "B") then Some sides.B else None

-- whether a word says that something enters
unfoldable pub enters_of : List ℕ → Option Bool
enters_of bytes = if bytes_eq bytes (codes "enter") then Some true else if bytes_eq bytes (codes "leave") then Some false else None

-- the field is a side
abbrev pub side_in : List (List ℕ) → ℕ → Judged Side
side_in row k = found sides.A (side_of (at row k)) k kinds.Kind

-- the field names one of these things, and says the place of the first of them, from 0
abbrev pub named_in : {X : Type 0} → (X → List ℕ) → List X → List (List ℕ) → ℕ → Judged ℕ
named_in name things row k = found 0 (position (λ x. bytes_eq (name x) (at row k)) things) k kinds.Unknown

-- the field is one of these names, and says its place among them, from 0
abbrev pub known_in : List (List ℕ) → ℕ → List (List ℕ) → Judged ℕ
known_in row k names = named_in (λ n. n) names row k
