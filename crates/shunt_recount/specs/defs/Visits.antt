-- Visits as spans, and their greatest gains.
use Rattle.std.specs.Prelude.{◌≡◌, ◌⊎◌, ℕ, ◌+◌, ◌<◌, ◌≤◌, ℤ, map, List, Option}
use Rattle.std.specs.List.Sorted.{IsNonDecreasingBy}
use Rattle.shunt_lists.specs.defs.Members.{In}
use Rattle.shunt_prices.specs.defs.Sums.{IsWithin}
use Rattle.shunt_stacks.specs.defs.Spans.{Span, AreOwn, best}
use Rattle.shunt_recount.specs.declared.visits.Visit.{Visit}
use Rattle.shunt_recount.specs.declared.visits.Visits.{Visits}

-- the event at which a visit comes
abbrev pub comes_at : Visit → ℕ
comes_at v = v.comes

-- what a visit takes of the events, with its length and its gain
abbrev pub span_of : Visit → Span
span_of v = record { from = v.comes; inside = v.inside; until = v.until; past = v.gone; length = v.length; gain = v.gain }

abbrev pub spans_of : List Visit → List Span
spans_of visits = map span_of visits

abbrev pub fixed_in : Visits → List Span
fixed_in v = spans_of v.fixed.items

abbrev pub free_in : Visits → List Span
free_in v = spans_of v.free.items

-- none of these spans gains or loses much, and there is a count of the events at which they come, at most 160
pub record AreSmall (fixed free : List Span) : Type 0 where
  pub gains : (s : Span) → In s fixed ⊎ In s free → IsWithin 16000000000000 s.gain
  pub count : ℕ → ℕ
  pub rises : (x y : ℕ) → x ≤ y → count x ≤ count y
  pub counts : (s : Span) → In s fixed ⊎ In s free → count s.from < count s.inside
  pub few : (x : ℕ) → count x ≤ 160

-- visits in the order in which they come, whose events are their own and whose gains are small
pub record AreVisits (v : Visits) : Type 0 where
  pub own : AreOwn (fixed_in v) (free_in v)
  pub small : AreSmall (fixed_in v) (free_in v)
  pub fixed_rise : IsNonDecreasingBy comes_at v.fixed.items
  pub free_rise : IsNonDecreasingBy comes_at v.free.items

-- the greatest gain over the events from x on and before y with this room, by any number of events that is enough
abbrev pub IsBest : List Span → List Span → ℕ → ℕ → ℕ → Option ℤ → Type 0
IsBest fixed free x y room g = (n : ℕ) → y ≤ x + n → g ≡ best n fixed free x y room
