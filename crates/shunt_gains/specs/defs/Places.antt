-- What gains tell of one fixed span more.
use Rattle.std.specs.Prelude.{◌≡◌, ◌⊎◌, ℕ, ◌-◌, ◌<◌, ◌≤◌, ℤ, pos, List, [], ◌∷◌, ◌++◌, Option, Some}
use Rattle.shunt_lists.specs.defs.Members.{In}
use Rattle.shunt_stacks.specs.defs.Spans.{Span, AreOwn, AgreeWithin, IsOutside, plus, best}
use Rattle.shunt_gains.specs.declared.places.Place.{Place}

-- lists with one fixed span more, and no free span that wasn't there; they agree where no event is that span's
pub record IsBeside (fixed free others more : List Span) (own : Span) : Type 0 where
  pub fixed_are : others ≡ fixed ++ own ∷ []
  pub free_are : (s : Span) → In s more → In s free
  pub own_events : AreOwn others more
  pub agree : (x y : ℕ) → IsOutside x y own → AgreeWithin fixed free others more x y

-- a place from no later than an event on, with an end behind it
pub record IsPlaceAt (events at : ℕ) (p : Place) : Type 0 where
  pub starts : p.x ≤ at
  pub ends : at < p.end
  pub within : p.end ≤ events

-- what is gained over all events is one and the same gain and what is gained at a place; so it is with one span more that has left before
-- the place's end
pub record Surrounds (fixed free others more : List Span) (own : Span) (events room : ℕ) (p : Place) : Type 0 where
  pub around : Option ℤ
  pub without : best events fixed free 0 events room ≡ plus around (best events fixed free p.x p.end p.room)
  pub with_it : own.past ≤ p.end → best events others more 0 events room ≡ plus around (best events others more p.x p.end p.room)

-- the same of any span more that comes at an event
abbrev pub Surround : List Span → List Span → ℕ → ℕ → ℕ → Place → Type 0
Surround fixed free events room at p = (others more : List Span) (own : Span) → IsBeside fixed free others more own → own.from ≡ at
    → Surrounds fixed free others more own events room p

-- a place behind a span at the start of another, or inside it, and from no later than an event on
pub record IsPast (at : ℕ) (p : Place) (s : Span) (q : Place) : Type 0 where
  pub gone : s.past ≤ p.end
  pub long : s.length ≤ p.room
  pub either : ((s.past ≤ at) × (q ≡ record { x = s.past; end = p.end; room = p.room }))
      ⊎ ((s.inside ≤ at) × (at < s.until) × (q ≡ record { x = s.inside; end = s.until; room = p.room - s.length }))

-- with a span more is gained what is gained around its place, inside it and behind it
abbrev pub IsInPlace : Option ℤ → Option ℤ → Option ℤ → Option ℤ → ℤ → Type 0
IsInPlace whole without inside behind z = (around : Option ℤ) → whole ≡ plus around without → plus around (plus (Some (pos 0)) (plus inside behind)) ≡ Some z
