-- What gains tell of one fixed span more.
use Rattle.std.specs.Prelude.{◌≡◌, ◌⊎◌, ℕ, ◌-◌, ◌<◌, ◌≤◌, ◌↔◌, ℤ, pos, List, Option, Some}
use Rattle.shunt_lists.specs.defs.Members.{In}
use Rattle.shunt_stacks.specs.defs.Spans.{Span, AreOwn, AgreeWithin, IsOutside, plus, best}
use Rattle.shunt_recount.specs.declared.moments.Stop.{Stop}
use Rattle.shunt_recount.specs.declared.moments.Moments.{Moments}
use Rattle.shunt_recount.specs.declared.tables.Table.{Table}
use Rattle.shunt_recount.specs.declared.places.Place.{Place}
use Rattle.shunt_recount.specs.defs.Moments.{IsRank, fixed_of, free_of, events_of, AreMoments, AreKnown}

-- a table of visits that take so much of the events before an end
pub record IsTableOf (fixed free : List Span) (end : ℕ) (t : Table) : Type 0 where
  pub moments : AreMoments t.moments
  pub known : AreKnown t.moments t.known
  pub fixed_same : (s : Span) → In s (fixed_of t.moments) ↔ In s fixed
  pub free_same : (s : Span) → In s (free_of t.moments) ↔ In s free
  pub end_same : t.moments.end ≡ end

-- lists with one fixed span more, and no free span that wasn't there; they agree where no event is that span's
pub record IsBeside (fixed free others more : List Span) (own : Span) : Type 0 where
  pub kept : (s : Span) → In s fixed → In s others
  pub only : (s : Span) → In s others → In s fixed ⊎ (s ≡ own)
  pub own_there : In own others
  pub free_are : (s : Span) → In s more → In s free
  pub own_events : AreOwn others more
  pub agree : (x y : ℕ) → IsOutside x y own → AgreeWithin fixed free others more x y

-- a place from no later than an event on, with an end behind it
pub record IsPlaceAt (m : Moments) (at : ℕ) (p : Place) : Type 0 where
  pub starts : p.x ≤ at
  pub ends : at < p.key.end
  pub within : p.key.end ≤ m.end
  pub passed : IsRank (events_of m) p.x p.passed
  pub top : IsRank (events_of m) p.key.end p.key.top

-- what is gained over all events is one and the same gain and what is gained at a place; so it is with one span more that has left before
-- the place's end
pub record Surrounds (fixed free others more : List Span) (own : Span) (events room x end left : ℕ) : Type 0 where
  pub around : Option ℤ
  pub without : best events fixed free 0 events room ≡ plus around (best events fixed free x end left)
  pub with_it : own.past ≤ end → best events others more 0 events room ≡ plus around (best events others more x end left)

-- the same of any span more that comes at an event
abbrev pub Surround : Moments → ℕ → ℕ → Place → Type 0
Surround m room at p = (others more : List Span) (own : Span) → IsBeside (fixed_of m) (free_of m) others more own → own.from ≡ at
    → Surrounds (fixed_of m) (free_of m) others more own m.end room p.x p.key.end p.key.room

-- a place behind a visit at the start of another, or inside it, and from no later than an event on
pub record IsPast (at : ℕ) (p : Place) (s : Stop) (q : Place) : Type 0 where
  pub gone : s.visit.gone ≤ p.key.end
  pub long : s.visit.length ≤ p.key.room
  pub either : ((s.visit.gone ≤ at) × (q ≡ record { x = s.visit.gone; passed = s.gone; key = p.key }))
      ⊎ ((s.visit.inside ≤ at) × (at < s.visit.until)
      × (q ≡ record { x = s.visit.inside; passed = s.inside; key = record { end = s.visit.until; top = s.until; room = p.key.room - s.visit.length } }))

-- with a span more is gained what is gained around its place, inside it and behind it
abbrev pub IsInPlace : Option ℤ → Option ℤ → Option ℤ → Option ℤ → ℤ → Type 0
IsInPlace whole without inside behind z = (around : Option ℤ) → whole ≡ plus around without → plus around (plus (Some (pos 0)) (plus inside behind)) ≡ Some z
