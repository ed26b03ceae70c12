-- Lists of free shapes that go on: by place, departing train, number of units and first unit.
use Rattle.std.proofs.Common.{◌≡◌, ◌⊎◌, ⊎_elim, inl, inr, ℕ, ◌+◌, ◌<◌, ◌≤◌, List, [], ◌∷◌, ◌++◌, length, sym, ap, subst, ◌∙◌, arith}
use Rattle.std.proofs.lemmas.Bool.{cases_lt}
use Rattle.shunt_lists.specs.defs.Members.{In}
use Rattle.shunt_lists.proofs.Members.{in_left, in_right, in_cases, of_one}
use Rattle.shunt_base.specs.declared.ids.ArrId.{ArrId}
use Rattle.shunt_base.specs.declared.ids.DepId.{DepId}
use Rattle.shunt_instance.specs.declared.records.Unit.{Unit as TrainUnit}
use Rattle.shunt_instance.specs.defs.Words.{train_at, kind_at}
use Rattle.shunt_instance.specs.defs.Instance.{Night, unit_at, make_unit}
use Rattle.shunt_blocks.specs.declared.records.Shape.{Shape}
use Rattle.shunt_blocks.specs.defs.Shapes.{AreRunsWithin, unit_from}
use Rattle.shunt_blocks.proofs.Made.{made_shape}
use Rattle.shunt_choices.specs.defs.Paths.{Masks}
use Rattle.shunt_choices.specs.defs.Choices.{IsFree}
use Rattle.shunt_recount.specs.defs.Offers.{GoesOn, BeginsAt, IsOfUnit, GoesWith}

-- ---- where a shape stands

abbrev pub place_from : Shape → ℕ
place_from s = s.q

abbrev pub train_of : Shape → ℕ
train_of s = s.dep.0

abbrev pub units_of : Shape → ℕ
units_of s = s.n

-- this holds of a shape, and it stands below a number
abbrev pub Below : (Shape → Type 0) → (Shape → ℕ) → ℕ → Shape → Type 0
Below Holds place k s = Holds s × (place s < k)

-- a shape begins below a unit
abbrev pub BeginsBelow : Night → ℕ → Shape → Type 0
BeginsBelow night u s = unit_from night s < u

-- ---- which shape it is

pub from_place : (unit : TrainUnit) (n : ℕ) (dep : DepId) (q : ℕ) (s : Shape) → GoesWith unit n dep.0 s → s.q ≡ q
    → s ≡ record { arr = unit.train; p = unit.place; n = n; dep = dep; q = q }
from_place unit n dep q s with at =
    ap (λ (w : ArrId). made_shape w s.p s.n s.dep s.q) with.0.0.0 ∙ (ap (λ (w : ℕ). made_shape unit.train w s.n s.dep s.q) with.0.0.1
    ∙ (ap (λ (w : ℕ). made_shape unit.train unit.place w s.dep s.q) with.0.1 ∙ (ap (λ (w : ℕ). made_shape unit.train unit.place n (record { 0 = w }) s.q) with.1
    ∙ ap (λ (w : ℕ). made_shape unit.train unit.place n dep w) at)))

-- the units of a shape are those of its train from its place on
module _ (night : Night)
    (unit_law : (s : Shape) (k : ℕ) → AreRunsWithin night s → k < s.n → unit_at night (unit_from night s + k)
    ≡ make_unit s.arr.0 (s.p + k) (kind_at (train_at night.arrive s.arr.0) (s.p + k)))
    (u : ℕ) (s : Shape) (within : AreRunsWithin night s) (first : BeginsAt night u s) where
  unit_is : unit_at night u ≡ make_unit s.arr.0 s.p (kind_at (train_at night.arrive s.arr.0) s.p)
  unit_is =
      let from : unit_from night s + 0 ≡ u = omega (arith, first) in
      let place : s.p + 0 ≡ s.p = omega arith in
      subst (λ (w : ℕ). unit_at night w ≡ make_unit s.arr.0 s.p (kind_at (train_at night.arrive s.arr.0) s.p)) from
      (subst (λ (p : ℕ). unit_at night (unit_from night s + 0) ≡ make_unit s.arr.0 p (kind_at (train_at night.arrive s.arr.0) p)) place
      (unit_law s 0 within (let n = within.n in omega (arith, n))))

  pub of_unit : IsOfUnit (unit_at night u) s
  of_unit = (sym (ap (λ (x : TrainUnit). x.train) unit_is), sym (ap (λ (x : TrainUnit). x.place) unit_is))

  pub units_fit : (unit_at night u).place + s.n ≤ length (train_at night.arrive (unit_at night u).train.0).units + 1
  units_fit =
      let place : (unit_at night u).place ≡ s.p = sym of_unit.1 in
      let train : (unit_at night u).train.0 ≡ s.arr.0 = ap (λ (x : TrainUnit). x.train.0) unit_is in
      subst (λ (a : ℕ). (unit_at night u).place + s.n ≤ length (train_at night.arrive a).units + 1) (sym train) (let units = within.units in omega (arith, place, units))

module _ (night : Night) (covered : Masks) where
  joined : (First Then Holds : Shape → Type 0) (old between new : List Shape) → GoesOn night covered First old between → GoesOn night covered Then between new →
      ((s : Shape) → IsFree night covered s → Holds s → First s ⊎ Then s) → GoesOn night covered Holds old new
  joined First Then Holds old between new f t split = record {
    kept = λ s i. t.kept s (f.kept s i);
    each = λ s i. ⊎_elim (λ (early : In s between). f.each s early) (λ (free : IsFree night covered s). inr free) (t.each s i);
    all = λ s free h. ⊎_elim (λ (first : First s). t.kept s (f.all s free first)) (λ (then : Then s). t.all s free then) (split s free h);
  }

  -- ---- one shape

  pub with_shape : (s : Shape) (shapes : List Shape) → IsFree night covered s → GoesOn night covered (λ t. t ≡ s) shapes (shapes ++ s ∷ [])
  with_shape s shapes free = record {
    kept = λ t i. in_left shapes (s ∷ []) t i;
    each = λ t i. ⊎_elim (λ (left : In t shapes). inl left) (λ (right : In t (s ∷ [])). inr (subst (IsFree night covered) (sym (of_one s t right)) free))
        (in_cases shapes (s ∷ []) t i);
    all = λ t f e. in_right shapes (s ∷ []) t (inl e);
  }

  -- ---- one loop

  module _ (Holds : Shape → Type 0) (place : Shape → ℕ) (k : ℕ) (old between : List Shape) (h : GoesOn night covered (Below Holds place k) old between) where
    pub one_more : (Next : Shape → Type 0) (new : List Shape) → ((s : Shape) → IsFree night covered s → Holds s → place s ≡ k → Next s) →
        GoesOn night covered Next between new → GoesOn night covered (Below Holds place (k + 1)) old new
    one_more Next new to next = joined (Below Holds place k) Next (Below Holds place (k + 1)) old between new h next
        (λ s free is. let lt = is.1 in ⊎_elim (λ (early : place s < k). inl (is.0, early)) (λ (late : k ≤ place s). inr (to s free is.0 (omega (arith, lt, late))))
        (cases_lt (place s) k))

    pub all_there : ((s : Shape) → IsFree night covered s → Holds s → place s < k) → GoesOn night covered Holds old between
    all_there below = record { kept = h.kept; each = h.each; all = λ s free is. h.all s free (is, below s free is) }

  -- ---- all shapes

  pub next_unit : (u : ℕ) (shapes more : List Shape) → GoesOn night covered (BeginsBelow night u) [] shapes →
      GoesOn night covered (BeginsAt night u) shapes more → GoesOn night covered (BeginsBelow night (u + 1)) [] more
  next_unit u shapes more h next = joined (BeginsBelow night u) (BeginsAt night u) (BeginsBelow night (u + 1)) [] shapes more h next
      (λ s free lt. ⊎_elim (λ (early : unit_from night s < u). inl early) (λ (late : u ≤ unit_from night s). inr (omega (arith, lt, late))) (cases_lt (unit_from night s) u))
