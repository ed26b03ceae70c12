-- Listed events, what comes at each of them, and what is known of gains from each of them on.
use Rattle.std.specs.Prelude.{◌≡◌, ◌⊎◌, ℕ, ◌+◌, ◌<◌, ◌≤◌, ℤ, true, false, map, length, slice_index_or, List, Option, None}
use Rattle.shunt_lists.specs.defs.Members.{In}
use Rattle.shunt_stacks.specs.defs.Spans.{Span, coming_at}
use Rattle.shunt_recount.specs.declared.moments.Stop.{Stop}
use Rattle.shunt_recount.specs.declared.moments.Moment.{Moment}
use Rattle.shunt_recount.specs.declared.moments.Moments.{Moments}
use Rattle.shunt_recount.specs.declared.known.PartEnd.{PartEnd}
use Rattle.shunt_recount.specs.declared.known.Known.{Known}
use Rattle.shunt_recount.specs.declared.known.Row.{Row}
use Rattle.shunt_recount.specs.defs.Visits.{span_of, fixed_in, free_in, AreVisits, IsBest}

-- the event with a number among those that are listed
abbrev pub event_at : List ℕ → ℕ → ℕ
event_at events k = slice_index_or events k 0

-- so many of these events are before one: they are the first ones
pub record IsRank (events : List ℕ) (x j : ℕ) : Type 0 where
  pub within : j ≤ length events
  pub before : (k : ℕ) → k < j → event_at events k < x
  pub behind : (k : ℕ) → j ≤ k → k < length events → x ≤ event_at events k

-- events that rise, before an end; where one of these spans comes before the end is one of them
pub record AreEvents (fixed free : List Span) (end : ℕ) (events : List ℕ) : Type 0 where
  pub rise : (j k : ℕ) → j < k → k < length events → event_at events j < event_at events k
  pub within : (k : ℕ) → k < length events → event_at events k < end
  pub all : (s : Span) → In s fixed ⊎ In s free → s.from < end → (k : ℕ) × (k < length events) × (event_at events k ≡ s.from)

-- what the visits of stops take of the events
abbrev pub stop_spans : List Stop → List Span
stop_spans stops = map (λ s. span_of s.visit) stops

-- a visit with how many of the events are before its own ones
pub record IsStop (events : List ℕ) (s : Stop) : Type 0 where
  pub inside : IsRank events s.visit.inside s.inside
  pub until : IsRank events s.visit.until s.until
  pub gone : IsRank events s.visit.gone s.gone

-- what comes at an event: what is fixed, and where nothing is, what is free
pub record IsMoment (fixed free : List Span) (events : List ℕ) (x : ℕ) (m : Moment) : Type 0 where
  pub stops : (s : Stop) → In s m.stops.items → IsStop events s
  pub fixed_come : m.is_fixed ≡ true → (0 < length (coming_at x fixed)) × (stop_spans m.stops.items ≡ coming_at x fixed)
  pub free_come : m.is_fixed ≡ false → (length (coming_at x fixed) ≡ 0) × (stop_spans m.stops.items ≡ coming_at x free)

-- the spans of the visits, and the events at which they come
abbrev pub fixed_of : Moments → List Span
fixed_of m = fixed_in m.visits

abbrev pub free_of : Moments → List Span
free_of m = free_in m.visits

abbrev pub events_of : Moments → List ℕ
events_of m = m.events.items

-- visits with the events before an end at which they come, and what comes at each of these
pub record AreMoments (m : Moments) : Type 0 where
  pub visits : AreVisits m.visits
  pub events : AreEvents (fixed_of m) (free_of m) m.end (events_of m)
  pub small : m.end < 4000000000
  pub count : length m.list.items ≡ length (events_of m)
  pub each : (k : ℕ) (d : Moment) → k < length m.list.items → IsMoment (fixed_of m) (free_of m) (events_of m) (event_at (events_of m) k) (slice_index_or m.list.items k d)

-- a visit that comes at the event with a number
pub record IsStopAt (m : Moments) (k : ℕ) (s : Stop) : Type 0 where
  pub ours : In (span_of s.visit) (fixed_of m) ⊎ In (span_of s.visit) (free_of m)
  pub comes : s.visit.comes ≡ event_at (events_of m) k
  pub ranks : IsStop (events_of m) s

-- the greatest gain from where so many events have passed on and before an end with a room
abbrev pub IsValue : Moments → ℕ → ℕ → ℕ → Option ℤ → Type 0
IsValue m j end room g = (x : ℕ) → IsRank (events_of m) x j → x ≤ end → IsBest (fixed_of m) (free_of m) x end room g

-- each of these is the greatest gain before an end with a room: from the end itself on, from the last event before it on, and so on
abbrev pub AreGains : Moments → ℕ → ℕ → List (Option ℤ) → Type 0
AreGains m end room gains = (top j back : ℕ) → IsRank (events_of m) end top → back + j ≡ top → back < length gains → IsValue m j end room (slice_index_or gains back None)

-- each row that is known is that of its end and its room
abbrev pub AreRows : Moments → List Row → Type 0
AreRows m rows = (r : Row) → In r rows → AreGains m r.end r.room r.gains.items

abbrev pub AreKnown : Moments → Known → Type 0
AreKnown m known = AreRows m known.rows.items

-- the row with a number is that of a part's end
pub record IsRowAt (known : Known) (key : PartEnd) (k : ℕ) : Type 0 where
  pub there : k < length known.rows.items
  pub end : (d : Row) → (slice_index_or known.rows.items k d).end ≡ key.end
  pub room : (d : Row) → (slice_index_or known.rows.items k d).room ≡ key.room
