-- Spans: what blocks of a stack take of its events, and the greatest gain of spans that are nested or apart.
use Rattle.std.specs.Prelude.{◌≡◌, ◌⊎◌, ◌↔◌, ℕ, zero, suc, ◌+◌, ◌-◌, ◌<◌, ◌≤◌, ◌==◌, nat_le, nat_lt, Bool, ◌&&◌, if◌then◌else◌, ℤ, pos, ◌+ℤ◌, filter, map, sum_by, List, [], ◌∷◌, Option, Some, None}
use Rattle.std.specs.List.{AllByRecursion}
use Rattle.std.specs.Int.{int_max}
use Rattle.shunt_lists.specs.defs.Members.{In}
use Rattle.shunt_base.specs.declared.ids.Side.{Side}
use Rattle.shunt_base.specs.declared.keys.Stay.{Stay}
use Rattle.shunt_prices.specs.defs.Sums.{sum_z}

-- it comes and goes by a side
pub record IsBy (side : Side) (s : Stay) : Type 0 where
  pub comes : s.side_in ≡ side
  pub goes : s.side_out ≡ side

-- what a block takes of the events in their order: its entries are those from `from` on and before `inside`, its leaves those from
-- `until` on and before `past`; how long it is, and what it gains
pub record Span : Type 0 where
  pub from : ℕ
  pub inside : ℕ
  pub until : ℕ
  pub past : ℕ
  pub length : ℕ
  pub gain : ℤ

-- it enters and then leaves
pub record IsSpan (s : Span) : Type 0 where
  pub enters : s.from < s.inside
  pub stays : s.inside ≤ s.until
  pub leaves : s.until < s.past

-- the one has left when the other comes
abbrev pub IsEarlierSpan : Span → Span → Type 0
IsEarlierSpan s t = s.past ≤ t.from

-- the one comes and goes while the other stands
abbrev pub IsInside : Span → Span → Type 0
IsInside s t = (t.inside ≤ s.from) × (s.past ≤ t.until)

-- they are nested or apart
abbrev pub AreNested : Span → Span → Type 0
AreNested s t = (IsEarlierSpan s t ⊎ IsEarlierSpan t s) ⊎ (IsInside s t ⊎ IsInside t s)

-- each two of these are
abbrev pub AreAllNested : List Span → Type 0
AreAllNested [] = Unit {0}
AreAllNested (s ∷ spans) = AllByRecursion (AreNested s) spans × AreAllNested spans

-- whether the one stands when the other comes, or is it
abbrev pub is_standing : Span → Span → Bool
is_standing s t = nat_le s.from t.from && nat_lt t.from s.past

-- the lengths of those that stand when one comes, its own too
abbrev pub load_with : List Span → Span → ℕ
load_with spans t = sum_by (λ s. if is_standing s t then s.length else 0) spans

-- what these gain
abbrev pub gain_of_spans : List Span → ℤ
gain_of_spans spans = sum_z (λ s. s.gain) spans

-- spans among the events from x on and before y, fixed ones or free ones, with each fixed one that comes there; they are nested or
-- apart, and those that stand together fit the room
pub record IsNest (fixed free : List Span) (x y room : ℕ) (spans : List Span) : Type 0 where
  pub of : (s : Span) → In s spans → In s fixed ⊎ In s free
  pub has : (s : Span) → In s fixed → x ≤ s.from → s.from < y → In s spans
  pub between : (s : Span) → In s spans → (x ≤ s.from) × (s.past ≤ y)
  pub nested : AreAllNested spans
  pub fits : (s : Span) → In s spans → load_with spans s ≤ room

-- the greater of two gains, where there are such
abbrev pub greater : Option ℤ → Option ℤ → Option ℤ
greater None other = other
greater (Some x) None = Some x
greater (Some x) (Some y) = Some (int_max x y)

-- two gains together, where there are both
abbrev pub plus : Option ℤ → Option ℤ → Option ℤ
plus None other = None
plus (Some x) None = None
plus (Some x) (Some y) = Some (x +ℤ y)

-- the greatest of these that there are
abbrev pub greatest_of : List (Option ℤ) → Option ℤ
greatest_of [] = None
greatest_of (o ∷ os) = greater o (greatest_of os)

-- those of these spans that come at an event
abbrev pub coming_at : ℕ → List Span → List Span
coming_at x spans = filter (λ s. s.from == x) spans

-- the gain of a span with the greatest inside it and behind it
abbrev pub sum_with : (ℕ → ℕ → ℕ → Option ℤ) → ℕ → ℕ → Span → Option ℤ
sum_with rest y room s = plus (Some s.gain) (plus (rest s.inside s.until (room - s.length)) (rest s.past y room))

-- the same, where it is gone before y and is no longer than the room
abbrev pub best_with : (ℕ → ℕ → ℕ → Option ℤ) → ℕ → ℕ → Span → Option ℤ
best_with rest y room s = if nat_le s.past y && nat_le s.length room then sum_with rest y room s else None

-- the greatest gain at an event: with the fixed span that comes there, and where none does, with a free one or with none
abbrev pub best_at : List Span → List Span → Option ℤ → (Span → Option ℤ) → Option ℤ
best_at [] free without value = greater without (greatest_of (map value free))
best_at (f ∷ fixed) free without value = greatest_of (map value (f ∷ fixed))

-- the greatest gain over the events from x on and before y, by what is known of fewer events
abbrev pub best_step : (ℕ → ℕ → ℕ → Option ℤ) → List Span → List Span → ℕ → ℕ → ℕ → Option ℤ
best_step rest fixed free x y room = if nat_le y x then Some (pos 0) else best_at (coming_at x fixed) (coming_at x free) (rest (x + 1) y room) (best_with rest y room)

-- the greatest gain of fixed and free spans over at most n events, those from x on and before y, with this room
abbrev pub best : ℕ → List Span → List Span → ℕ → ℕ → ℕ → Option ℤ
best zero fixed free x y room = Some (pos 0)
best (suc n) fixed free x y room = best_step (best n fixed free) fixed free x y room

-- spans whose events are their own: a fixed span comes at no event of another span, and no two of them at one
pub record AreOwn (fixed free : List Span) : Type 0 where
  pub spans : (s : Span) → In s fixed ⊎ In s free → IsSpan s
  pub entries : (s f : Span) → In s fixed ⊎ In s free → In f fixed → s.from < f.from → f.from < s.inside → ⊥
  pub leaves : (s f : Span) → In s fixed ⊎ In s free → In f fixed → s.until ≤ f.from → f.from < s.past → ⊥
  pub one : (f g : Span) → In f fixed → In g fixed → f.from ≡ g.from → f ≡ g

-- two pairs of lists agree among the events from x on and before y: in the spans that lie there, and in the fixed ones that come there
pub record AgreeWithin (fixed free others more : List Span) (x y : ℕ) : Type 0 where
  pub members : (s : Span) → x ≤ s.from → s.past ≤ y → (In s fixed ⊎ In s free) ↔ (In s others ⊎ In s more)
  pub same : (s : Span) → x ≤ s.from → s.from < y → In s fixed ↔ In s others

-- no event of a span is from x on and before y
abbrev pub IsOutside : ℕ → ℕ → Span → Type 0
IsOutside x y s = (y ≤ s.from) ⊎ (((s.inside ≤ x) × (y ≤ s.until)) ⊎ (s.past ≤ x))
