-- The stack of an option, and the stacks of a station.
use Rattle.std.specs.Prelude.{◌↔◌, ◌&&◌, ◌==◌, IsTrue, IfSome, IsSome, is_some, cond, Option, Some, None, if◌then◌else◌}
use Rattle.std.proofs.Common.{◌≡◌, ⊎_elim, inl, inr, ℕ, zero, suc, ◌*◌, ◌<◌, ◌≤◌, Bool, true, false, length, refl, sym, subst, ap, ◌∙◌, arith, length-append}
use Rattle.std.proofs.lemmas.Bool.{cases_Bool, cases_lt, eqb-true, eq-eqb, and_parts, and_from, false≢true}
use Rattle.std.proofs.lemmas.List.Sums.{length-filter, count_by-le-length}
use Rattle.shunt_lists.specs.defs.Members.{In}
use Rattle.shunt_lists.proofs.Members.{in_left, in_right, in_cases, filter_from, filter_to}
use Rattle.shunt_base.specs.declared.ids.PlatformId.{PlatformId}
use Rattle.shunt_base.specs.declared.ids.Side.{Side}
use Rattle.shunt_base.specs.declared.ids.Side.TheVariants.{A, B}
use Rattle.shunt_base.specs.defs.Sides.{same_side}
use Rattle.shunt_base.proofs.Sides.{same_side_tells, same_side_is}
use Rattle.shunt_instance.specs.declared.records.Origin.{Origin}
use Rattle.shunt_instance.specs.declared.records.Origin.TheVariants as origin
use Rattle.shunt_instance.specs.declared.records.Station.{Station}
use Rattle.shunt_instance.specs.defs.Words.{is_open_at, train_at, route_cost}
use Rattle.shunt_instance.specs.defs.Wellformed.{IsStation}
use Rattle.shunt_instance.specs.defs.Instance.{Night}
use Rattle.shunt_instance.proofs.Found.{side_open}
use Rattle.shunt_blocks.specs.declared.records.Shape.{Shape}
use Rattle.shunt_blocks.specs.declared.records.Park.{Park}
use Rattle.shunt_blocks.specs.defs.Ways.{may_come, way_from, way_to, train_way_in}
use Rattle.shunt_blocks.specs.defs.Blocks.{IsOption, IsParkable}
use Rattle.shunt_stacks.specs.defs.Stacks.{Stack, both_sides, sides_below, stacks, is_of, stack_of}

-- ---- an option is of a stack exactly where that is its stack

abbrev end_of : ℕ → Side → Stack
end_of t x = record { track = record { 0 = t }; side = x }

abbrev parked : ℕ → Side → Side → Park
parked t x y = record { track = record { 0 = t }; side_in = x; side_out = y }

same_end : (t u : ℕ) (x z : Side) → t ≡ u → x ≡ z → Some (end_of t x) ≡ Some (end_of u z)
same_end t u x z e f = cc

tells : (t u : ℕ) (x y z : Side) → is_of (end_of u z) (Some (parked t x y)) ≡ true → stack_of (Some (parked t x y)) ≡ Some (end_of u z)
tells t u x y z e =
    let h = and_parts (t == u) (same_side x z && same_side y z) e in
    let k = and_parts (same_side x z) (same_side y z) h.1 in
    let first = same_side_tells x z k.0 in
    let both = same_side_is x y (first ∙ sym (same_side_tells y z k.1)) in
    ap (λ (b : Bool). cond b (Some (end_of t x)) None) both ∙ same_end t u x z (eqb-true t u h.0) first

abbrev track_in : Option Stack → ℕ
track_in None = 0
track_in (Some s) = s.track.0

abbrev side_in : Option Stack → Side
side_in None = A
side_in (Some s) = s.side

told : (t u : ℕ) (x y z : Side) → stack_of (Some (parked t x y)) ≡ Some (end_of u z) → is_of (end_of u z) (Some (parked t x y)) ≡ true
told t u x y z e = ⊎_elim
    (λ same.
    let here : Some (end_of t x) ≡ Some (end_of u z) = sym (ap (λ (b : Bool). cond b (Some (end_of t x)) None) same) ∙ e in
    let side : x ≡ z = ap side_in here in
    and_from (t == u) (same_side x z && same_side y z) (eq-eqb t u (ap track_in here))
    (and_from (same_side x z) (same_side y z) (same_side_is x z side) (same_side_is y z (sym (same_side_tells x y same) ∙ side))))
    (λ apart. absurd (false≢true (ap is_some (sym (ap (λ (b : Bool). cond b (Some (end_of t x)) None) apart) ∙ e))))
    (cases_Bool (same_side x y))

pub is_of_tells : (stack : Stack) (park : Option Park) → (is_of stack park ≡ true) ↔ (stack_of park ≡ Some stack)
is_of_tells stack None = (λ e. absurd (false≢true e), λ e. absurd (false≢true (ap is_some e)))
is_of_tells stack (Some k) = (tells k.track.0 stack.track.0 k.side_in k.side_out stack.side, told k.track.0 stack.track.0 k.side_in k.side_out stack.side)

-- ---- the stacks of a station

in_below : (n t : ℕ) (x : Side) → t < n → In (end_of t x) (sides_below n)
in_below zero t x lt = absurd (omega (arith, lt))
in_below (suc n) t x lt = ⊎_elim
    (λ less. in_left (sides_below n) (both_sides n) (end_of t x) (in_below n t x less))
    (λ ge. let e : n ≡ t = omega (arith, lt, ge) in in_right (sides_below n) (both_sides n) (end_of t x) (subst (λ (m : ℕ). In (end_of t x) (both_sides m)) (sym e) (at x)))
    (cases_lt t n)
  where
    at : (y : Side) → In (end_of t y) (both_sides t)
    at A = inl refl
    at B = inr (inl refl)

pub listed : (s : Station) (stack : Stack) → stack.track.0 < length s.tracks → IsTrue (is_open_at s stack.track stack.side) → In stack (stacks s)
listed s stack lt opens = filter_to (λ (k : Stack). is_open_at s k.track k.side) (sides_below (length s.tracks)) stack
    (in_below (length s.tracks) stack.track.0 stack.side lt) opens

pub listed_open : (s : Station) (stack : Stack) → In stack (stacks s) → IsTrue (is_open_at s stack.track stack.side)
listed_open s stack there = (filter_from (λ (k : Stack). is_open_at s k.track k.side) (sides_below (length s.tracks)) stack there).1

below_there : (n : ℕ) (stack : Stack) → In stack (sides_below n) → stack.track.0 < n
below_there zero stack there = absurd there
below_there (suc n) stack there = ⊎_elim
    (λ less. omega (arith, below_there n stack less))
    (λ last. let e = at last in omega (arith, e))
    (in_cases (sides_below n) (both_sides n) stack there)
  where
    at : In stack (both_sides n) → stack.track.0 ≡ n
    at (inl e) = ap (λ (s : Stack). s.track.0) e
    at (inr (inl e)) = ap (λ (s : Stack). s.track.0) e
    at (inr (inr none)) = absurd none

pub listed_track : (s : Station) (stack : Stack) → In stack (stacks s) → stack.track.0 < length s.tracks
listed_track s stack there = below_there (length s.tracks) stack (filter_from (λ (k : Stack). is_open_at s k.track k.side) (sides_below (length s.tracks)) stack there).0

two_each : (n : ℕ) → length (sides_below n) ≡ 2 * n
two_each zero = refl
two_each (suc n) = omega (arith, length-append (sides_below n) (both_sides n), two_each n)

pub few_stacks : (s : Station) → IsStation s → length (stacks s) ≤ 120
few_stacks s h =
    let test = λ (k : Stack). is_open_at s k.track k.side in
    omega (arith, length-filter test (sides_below (length s.tracks)), count_by-le-length test (sides_below (length s.tracks)), two_each (length s.tracks), h.few_tracks)

-- ---- the stack of a block that is there is the station's

opens_out : (s : Station) (h : IsStation s) (o : Origin) (k : Park) → IsSome (way_to s o k.track k.side_out) → IsTrue (is_open_at s k.track k.side_out)
opens_out s h (origin.Platform p) k way = known (route_cost s p k.track k.side_out) way (side_open s p k.track k.side_out h)
  where
    known : (o : Option ℕ) → IsSome o → IfSome o (λ c. IsTrue (is_open_at s k.track k.side_out)) → IsTrue (is_open_at s k.track k.side_out)
    known None way opens = absurd (false≢true way)
    known (Some c) way opens = opens
opens_out s h (origin.Track t) k way = absurd (false≢true way)

pub stack_there : (night : Night) (h : IsStation night.station) (s : Shape) (park : Option Park) (stack : Stack) → IsOption night s park → is_of stack park ≡ true
    → In stack (stacks night.station)
stack_there night h s None stack is of = absurd (false≢true of)
stack_there night h s (Some k) stack is of =
    let e = and_parts (k.track.0 == stack.track.0) (same_side k.side_in stack.side && same_side k.side_out stack.side) of in
    let f = and_parts (same_side k.side_in stack.side) (same_side k.side_out stack.side) e.1 in
    let track : k.track.0 ≡ stack.track.0 = eqb-true k.track.0 stack.track.0 e.0 in
    let opens = opens_out night.station h (train_at night.depart s.dep.0).origin k is.way_out in
    listed night.station stack (omega (arith, track, is.track)) (open_there k.track.0 stack.track.0 k.side_out stack.side track (same_side_tells k.side_out stack.side f.1) opens)
  where
    open_there : (t u : ℕ) (x y : Side) → t ≡ u → x ≡ y → IsTrue (is_open_at night.station (record { 0 = t }) x) → IsTrue (is_open_at night.station (record { 0 = u }) y)
    open_there t u x y e f opens = sym (ap (λ (n : ℕ). is_open_at night.station (record { 0 = n }) x) e
        ∙ ap (λ (z : Side). is_open_at night.station (record { 0 = u }) z) f) ∙ opens

-- ---- tracks that are open at one side

opens_in : (s : Station) (h : IsStation s) (p : PlatformId) (k : Park) → IsSome (route_cost s p k.track k.side_in) → IsTrue (is_open_at s k.track k.side_in)
opens_in s h p k way = opens_out s h (origin.Platform p) (record k { side_out = k.side_in }) way

-- where a shape has a way in, its train has one
train_comes : (may : Bool) (way : Option ℕ) → IsSome (if may then way else None) → IsSome way
train_comes true way h = h
train_comes false way h = absurd (false≢true h)

-- what comes from a platform to a track that is open at one side alone is of the stack there
pub one_side : (night : Night) (h : IsStation night.station) (s : Shape) (k : Park) (p : PlatformId) (side : Side) → IsParkable night s k
    → (train_at night.arrive s.arr.0).origin ≡ origin.Platform p
    → ((other : Side) → IsTrue (is_open_at night.station k.track other) → other ≡ side) → is_of (record { track = k.track; side = side }) (Some k) ≡ true
one_side night h s k p side is from only =
    let way : IsSome (way_from night.station (origin.Platform p) k.track k.side_in) = subst (λ (o : Origin). IsSome (way_from night.station o k.track k.side_in)) from
    (train_comes (may_come (train_at night.arrive s.arr.0).placed s k.track k.side_in) (train_way_in night s.arr k.track k.side_in) is.way_in) in
    let comes = only k.side_in (opens_in night.station h p k way) in
    let goes = only k.side_out (opens_out night.station h (train_at night.depart s.dep.0).origin k is.way_out) in
    and_from (k.track.0 == k.track.0) (same_side k.side_in side && same_side k.side_out side) (eq-eqb k.track.0 k.track.0 refl)
    (and_from (same_side k.side_in side) (same_side k.side_out side) (same_side_is k.side_in side comes) (same_side_is k.side_out side goes))
