-- Tables of a stack's gains: their spans, and what they know.
use Rattle.std.specs.Prelude.{◌≡◌, ◌⊎◌, ℕ, ◌+◌, ◌-◌, ◌<◌, ◌≤◌, ℤ, map, List, [], length, slice_index_or, Vec, Option, None, IfSome}
use Rattle.std.specs.declared.cmp.Ordering.{Ordering}
use Rattle.std.specs.Ordering.{ordering_then, nat_cmp}
use Rattle.std.specs.BTreeMap.{BTreeMap, get}
use Rattle.shunt_lists.specs.defs.Members.{In}
use Rattle.shunt_prices.specs.defs.Sums.{IsWithin}
use Rattle.shunt_stacks.specs.defs.Spans.{Span, AreOwn, coming_at, best}
use Rattle.shunt_gains.specs.declared.pieces.Piece.{Piece}
use Rattle.shunt_gains.specs.declared.pieces.Pieces.{Pieces}
use Rattle.shunt_gains.specs.declared.rows.RowKey.{RowKey}
use Rattle.shunt_gains.specs.declared.table.Table.{Table}

-- what a piece takes of the events, with its length and its gain
abbrev pub span_of : Piece → Span
span_of p = record { from = p.from; inside = p.inside; until = p.until; past = p.past; length = p.length; gain = p.gain }

abbrev pub spans_of : List Piece → List Span
spans_of pieces = map span_of pieces

-- the spans of the list with a number
abbrev pub spans_at : {A : Type 0} → List (Vec Piece A) → ℕ → List Span
spans_at lists x = slice_index_or (map (λ v. spans_of v.items) lists) x []

-- the lists have these spans by the event at which they come, for the first so many events
pub record AreByEvent {A : Type 0} (spans : List Span) (events : ℕ) (lists : List (Vec Piece A)) : Type 0 where
  pub count : length lists ≡ events
  pub each : (x : ℕ) → x < events → spans_at lists x ≡ coming_at x spans

-- fixed and free pieces as spans, and the number of events by which they are listed
abbrev pub fixed_in : Pieces → List Span
fixed_in p = spans_of p.fixed.items

abbrev pub free_in : Pieces → List Span
free_in p = spans_of p.free.items

abbrev pub events_in : Pieces → ℕ
events_in p = length p.fixed_at.items

-- none of these spans gains or loses more than this
abbrev pub AreSmall : List Span → List Span → Type 0
AreSmall fixed free = (s : Span) → In s fixed ⊎ In s free → IsWithin 1000000000000000 s.gain

-- the pieces' events are their own, their gains are small, and the lists have them by event
pub record ArePieces (p : Pieces) : Type 0 where
  pub own : AreOwn (fixed_in p) (free_in p)
  pub small : AreSmall (fixed_in p) (free_in p)
  pub few : events_in p ≤ 4000
  pub fixed_at : AreByEvent (fixed_in p) (events_in p) p.fixed_at.items
  pub free_at : AreByEvent (free_in p) (events_in p) p.free_at.items

-- the greatest gain over the events from x on and before y with this room, by any number of events that is enough
abbrev pub IsGain : List Span → List Span → ℕ → ℕ → ℕ → Option ℤ → Type 0
IsGain fixed free x y room g = (n : ℕ) → y ≤ x + n → g ≡ best n fixed free x y room

-- the order of the keys of rows: by end, then by room
abbrev pub row_cmp : RowKey → RowKey → Ordering
row_cmp k l = ordering_then (nat_cmp k.end l.end) (nat_cmp k.room l.room)

-- each of these is the greatest gain before an event y with this room: from y itself on, from the event before it on, and so on
abbrev pub AreGainsBefore : List Span → List Span → ℕ → ℕ → List (Option ℤ) → Type 0
AreGainsBefore fixed free y room gains = (back : ℕ) → back < length gains → back ≤ y → IsGain fixed free (y - back) y room (slice_index_or gains back None)

-- all of these, from y itself down to the first event
pub record IsRow (fixed free : List Span) (y room : ℕ) (gains : List (Option ℤ)) : Type 0 where
  pub long : length gains ≡ y + 1
  pub each : AreGainsBefore fixed free y room gains

-- each row that is known is that of its end and its room
abbrev pub AreRows : {A : Type 0} → List Span → List Span → BTreeMap RowKey (Vec (Option ℤ) A) → Type 0
AreRows fixed free rows = (k : RowKey) → IfSome (get row_cmp rows k) (λ v. IsRow fixed free k.end k.room v.items)

-- the table's spans, and the number of its events
abbrev pub fixed_of : Table → List Span
fixed_of t = fixed_in t.pieces

abbrev pub free_of : Table → List Span
free_of t = free_in t.pieces

abbrev pub events_of : Table → ℕ
events_of t = events_in t.pieces

-- a table whose pieces are listed and whose rows are right
pub record IsTable (t : Table) : Type 0 where
  pub pieces : ArePieces t.pieces
  pub rows : AreRows (fixed_of t) (free_of t) t.rows

-- a table of these spans and so many events
pub record IsTableOf (fixed free : List Span) (events : ℕ) (t : Table) : Type 0 where
  pub table : IsTable t
  pub fixed_same : fixed_of t ≡ fixed
  pub free_same : free_of t ≡ free
  pub events_same : events_of t ≡ events
