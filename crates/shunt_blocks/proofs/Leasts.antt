-- The least cost of parking is that of an option, and no option costs less.
use Rattle.std.specs.Prelude.{IfSome, IsSomeAnd, IsSome, is_some, unwrap_or, if◌then◌else◌, Option, Some, None, min}
use Rattle.std.proofs.Common.{◌≡◌, ⊎_elim, ℕ, zero, suc, ◌+◌, ◌<◌, ◌≤◌, Bool, true, false, length, refl, sym, ap, subst, arith}
use Rattle.std.proofs.lemmas.Bool.{cases_lt}
use Rattle.std.proofs.Math.Nat.{min-eq_left, min-eq_right, min-le_left, min-le_right}
use Rattle.shunt_base.specs.declared.ids.TrackId.{TrackId}
use Rattle.shunt_base.specs.declared.ids.Side.{Side}
use Rattle.shunt_base.specs.declared.ids.Side.TheVariants.{A, B}
use Rattle.shunt_instance.specs.defs.Words.{train_at}
use Rattle.shunt_instance.specs.defs.Instance.{Night}
use Rattle.shunt_blocks.specs.declared.records.Shape.{Shape}
use Rattle.shunt_blocks.specs.declared.records.Park.{Park}
use Rattle.shunt_blocks.specs.defs.Ways.{shape_way_in, way_to, park_way_in, park_way_out, permits_units}
use Rattle.shunt_blocks.specs.defs.Blocks.{IsParkable, IsOption}
use Rattle.shunt_blocks.specs.defs.Costs.{shape_cost, option_cost, IsCheapest}
use Rattle.shunt_blocks.specs.defs.Least.{lesser, least_side, least_way_in, least_way_out, both, least_on, improved, least_below}

-- ---- costs that may be absent

min_there : (x y : ℕ) (P : ℕ → Type 0) → P x → P y → P (min x y)
min_there x y P p q = ⊎_elim (λ lt. subst P (sym (min-eq_left (omega (arith, lt)))) p) (λ le. subst P (sym (min-eq_right le)) q) (cases_lt x y)

lesser_there : (o p : Option ℕ) (P : ℕ → Type 0) → IfSome o P → IfSome p P → IfSome (lesser o p) P
lesser_there None p P f g = g
lesser_there (Some x) None P f g = f
lesser_there (Some x) (Some y) P f g = min_there x y P f g

lesser_left : (o p : Option ℕ) (x : ℕ) → IsSomeAnd o (λ c. c ≤ x) → IsSomeAnd (lesser o p) (λ c. c ≤ x)
lesser_left None p x h = absurd h
lesser_left (Some a) None x h = h
lesser_left (Some a) (Some b) x h = omega (arith, h, min-le_left a b)

lesser_right : (o p : Option ℕ) (x : ℕ) → IsSomeAnd p (λ c. c ≤ x) → IsSomeAnd (lesser o p) (λ c. c ≤ x)
lesser_right None p x h = h
lesser_right (Some a) None x h = absurd h
lesser_right (Some a) (Some b) x h = omega (arith, h, min-le_right a b)

-- some side has this cost
abbrev AtSide : (Side → Option ℕ) → ℕ → Type 0
AtSide f x = (side : Side) × (f side ≡ Some x)

at_side : (f : Side → Option ℕ) (side : Side) (o : Option ℕ) → f side ≡ o → IfSome o (AtSide f)
at_side f side None e = tt
at_side f side (Some x) e = (side, e)

side_there : (f : Side → Option ℕ) → IfSome (least_side f) (AtSide f)
side_there f = lesser_there (f A) (f B) (AtSide f) (at_side f A (f A) refl) (at_side f B (f B) refl)

at_most : (o : Option ℕ) (x : ℕ) → o ≡ Some x → IsSomeAnd o (λ c. c ≤ x)
at_most o x e = let le : x ≤ x = omega arith in subst (λ (p : Option ℕ). IsSomeAnd p (λ c. c ≤ x)) (sym e) le

side_least : (f : Side → Option ℕ) (side : Side) (x : ℕ) → f side ≡ Some x → IsSomeAnd (least_side f) (λ c. c ≤ x)
side_least f A x e = lesser_left (f A) (f B) x (at_most (f A) x e)
side_least f B x e = lesser_right (f A) (f B) x (at_most (f B) x e)

-- a sum of two costs
abbrev IsSum : (ℕ → Type 0) → (ℕ → Type 0) → ℕ → Type 0
IsSum P Q c = (x y : ℕ) × P x × Q y × (c ≡ x + y)

both_there : (o p : Option ℕ) (P Q : ℕ → Type 0) → IfSome o P → IfSome p Q → IfSome (both o p) (IsSum P Q)
both_there None p P Q f g = tt
both_there (Some x) None P Q f g = tt
both_there (Some x) (Some y) P Q f g = (x, y, f, g, refl)

both_least : (o p : Option ℕ) (x y : ℕ) → IsSomeAnd o (λ c. c ≤ x) → IsSomeAnd p (λ c. c ≤ y) → IsSomeAnd (both o p) (λ c. c ≤ x + y)
both_least None p x y f g = absurd f
both_least (Some a) None x y f g = absurd g
both_least (Some a) (Some b) x y f g = omega (arith, f, g)

improved_there : (best : ℕ) (o : Option ℕ) (P : ℕ → Type 0) → P best → IfSome o P → P (improved best o)
improved_there best None P f g = f
improved_there best (Some c) P f g = min_there best c P f g

improved_left : (best : ℕ) (o : Option ℕ) → improved best o ≤ best
improved_left best None = omega arith
improved_left best (Some c) = min-le_left best c

improved_right : (best : ℕ) (o : Option ℕ) (x : ℕ) → IsSomeAnd o (λ c. c ≤ x) → improved best o ≤ x
improved_right best None x h = absurd h
improved_right best (Some c) x h = omega (arith, h, min-le_right best c)

is_unwrapped : (o : Option ℕ) → IsSome o → o ≡ Some (unwrap_or o 0)
is_unwrapped None e = cc
is_unwrapped (Some x) e = refl

-- ---- one track

-- the cost of an option of the shape
abbrev OfOption : Night → Shape → ℕ → Type 0
OfOption night s c = (o : Option Park) × IsOption night s o × (c ≡ option_cost night s o)

some_true : (o : Option ℕ) (x : ℕ) → o ≡ Some x → IsSome o
some_true o x e = ap (λ (p : Option ℕ). is_some p) e

unwrapped : (o : Option ℕ) (x : ℕ) → o ≡ Some x → unwrap_or o 0 ≡ x
unwrapped o x e = ap (λ (p : Option ℕ). unwrap_or p 0) e

abbrev from_side : Night → Shape → TrackId → Side → Option ℕ
from_side night s track side = shape_way_in night s track side

abbrev to_side : Night → Shape → TrackId → Side → Option ℕ
to_side night s track side = way_to night.station (train_at night.depart s.dep.0).origin track side

of_sides : (night : Night) (s : Shape) (track : TrackId) (c : ℕ) → track.0 < length night.station.tracks → permits_units night s track ≡ true
    → IsSum (AtSide (from_side night s track)) (AtSide (to_side night s track)) c → OfOption night s c
of_sides night s track c lt passes (x, y, (i, e), (o, f), is) =
    let k : Park = record { track = track; side_in = i; side_out = o } in (
      Some k,
      record { track = lt; permitted = passes; way_in = some_true _ x e; way_out = some_true _ y f },
      omega (arith, is, unwrapped (from_side night s track i) x e, unwrapped (to_side night s track o) y f),
    )

weaker : (o : Option ℕ) (P Q : ℕ → Type 0) → IfSome o P → ((c : ℕ) → P c → Q c) → IfSome o Q
weaker None P Q f h = tt
weaker (Some c) P Q f h = h c f

if_there : (b : Bool) (o : Option ℕ) (P : ℕ → Type 0) → (b ≡ true → IfSome o P) → IfSome (if b then o else None) P
if_there true o P h = h refl
if_there false o P h = tt

on_there : (night : Night) (s : Shape) (track : TrackId) → track.0 < length night.station.tracks → IfSome (least_on night s track) (OfOption night s)
on_there night s track lt = if_there (permits_units night s track) _ (OfOption night s) (λ passes.
    weaker _ _ (OfOption night s) (both_there (least_way_in night s track) (least_way_out night s.dep track) (AtSide (from_side night s track)) (AtSide (to_side night s track))
    (side_there (from_side night s track)) (side_there (to_side night s track)))
    (λ c sum. of_sides night s track c lt passes sum))

if_least : (b : Bool) (o : Option ℕ) (x : ℕ) → b ≡ true → IsSomeAnd o (λ c. c ≤ x) → IsSomeAnd (if b then o else None) (λ c. c ≤ x)
if_least true o x e h = h
if_least false o x e h = absurd (cc)

on_least : (night : Night) (s : Shape) (k : Park) → IsParkable night s k → IsSomeAnd (least_on night s k.track) (λ c. c ≤ option_cost night s (Some k))
on_least night s k h = if_least (permits_units night s k.track) _ (option_cost night s (Some k)) h.permitted
    (both_least _ _ (unwrap_or (park_way_in night s k) 0) (unwrap_or (park_way_out night s.dep k) 0)
    (side_least (from_side night s k.track) k.side_in _ (is_unwrapped (park_way_in night s k) h.way_in))
    (side_least (to_side night s k.track) k.side_out _ (is_unwrapped (park_way_out night s.dep k) h.way_out)))

-- ---- all tracks

below_there : (night : Night) (s : Shape) (n : ℕ) → n ≤ length night.station.tracks → OfOption night s (least_below night s n)
below_there night s zero le = (None, tt, refl)
below_there night s (suc n) le = improved_there (least_below night s n) (least_on night s (record { 0 = n })) (OfOption night s) (below_there night s n (omega arith))
    (on_there night s (record { 0 = n }) (omega arith))

below_unparked : (night : Night) (s : Shape) (n : ℕ) → least_below night s n ≤ night.station.unparked
below_unparked night s zero = omega arith
below_unparked night s (suc n) = omega (arith, below_unparked night s n, improved_left (least_below night s n) (least_on night s (record { 0 = n })))

below_parked : (night : Night) (s : Shape) (n : ℕ) (k : Park) → IsParkable night s k → k.track.0 < n → least_below night s n ≤ option_cost night s (Some k)
below_parked night s zero k h lt = absurd (omega arith)
below_parked night s (suc n) k h lt = ⊎_elim
    (λ less. omega (arith, below_parked night s n k h less, improved_left (least_below night s n) (least_on night s (record { 0 = n }))))
    (λ le. let e : k.track.0 ≡ n = omega (arith, lt, le) in
    improved_right (least_below night s n) _ (option_cost night s (Some k))
    (subst (λ (m : ℕ). IsSomeAnd (least_on night s (record { 0 = m })) (λ c. c ≤ option_cost night s (Some k))) e (on_least night s k h)))
    (cases_lt k.track.0 n)

none_less : (night : Night) (s : Shape) (o : Option Park) → IsOption night s o → least_below night s (length night.station.tracks) ≤ option_cost night s o
none_less night s None h = below_unparked night s (length night.station.tracks)
none_less night s (Some k) h = below_parked night s (length night.station.tracks) k h h.track

pub is_cheapest : (night : Night) (s : Shape) (cost first rest : ℕ) → first ≡ shape_cost night s → rest ≡ least_below night s (length night.station.tracks) → cost ≡ first + rest
    → IsCheapest night s cost
is_cheapest night s cost first rest e f is =
    let there = below_there night s (length night.station.tracks) (omega arith) in
    record {
      option = there.0;
      is_option = there.1;
      is = omega (arith, is, e, f, there.2);
      least = λ other h. omega (arith, is, e, f, none_less night s other h);
    }
