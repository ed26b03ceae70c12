-- Searches over free shapes: by place, departing train, number of units and first unit.
use Rattle.std.specs.Prelude.{true, slice_index_or, Option, None}
use Rattle.std.proofs.Common.{◌≡◌, ◌⊎◌, ⊎_elim, inl, inr, ℕ, ◌+◌, ◌<◌, ◌≤◌, length, sym, ap, subst, ◌∙◌, arith}
use Rattle.std.proofs.lemmas.Bool.{true≢false}
use Rattle.shunt_instance.specs.declared.records.Unit.{Unit as TrainUnit}
use Rattle.shunt_instance.specs.defs.Words.{train_at, kind_at}
use Rattle.shunt_instance.specs.defs.Instance.{Night, unit_at, make_unit, IsUnitAt}
use Rattle.shunt_blocks.specs.declared.records.Shape.{Shape}
use Rattle.shunt_blocks.specs.defs.Shapes.{AreRunsWithin, unit_from}
use Rattle.shunt_choices.specs.defs.Paths.{Masks}
use Rattle.shunt_choices.specs.defs.Choices.{Choice as PathChoice, IsFreeShape, LaterBefore}
use Rattle.shunt_checker.specs.defs.Firsts.{Finds}
use Rattle.shunt_checker.specs.defs.Searches.{IsOneOfShape, IsOneAt, IsOneFrom, shape_from}
use Rattle.shunt_checker.specs.defs.NodeFaults.{EarlierChoice}
use Rattle.shunt_checker.proofs.Firsts.{same_finds}

-- ---- where a choice stands

abbrev pub place_from : PathChoice → ℕ
place_from c = c.shape.q

abbrev pub train_of : PathChoice → ℕ
train_of c = c.shape.dep.0

abbrev pub units_of : PathChoice → ℕ
units_of c = c.shape.n

abbrev pub unit_of : Night → PathChoice → ℕ
unit_of night c = unit_from night c.shape

pub first_rises : (night : Night) (c d : PathChoice) → EarlierChoice night c d → unit_of night c ≤ unit_of night d
first_rises night c d (inl less) = omega (arith, less)
first_rises night c d (inr (e, _)) = omega (arith, e)

later_units : (s t : Shape) → LaterBefore s t → s.n ≤ t.n
later_units s t (inl less) = omega (arith, less)
later_units s t (inr (e, _)) = omega (arith, e)

later_train : (s t : Shape) → s.n ≡ t.n → LaterBefore s t → s.dep.0 ≤ t.dep.0
later_train s t same (inl less) = absurd (omega (arith, same, less))
later_train s t same (inr (_, inl less)) = omega (arith, less)
later_train s t same (inr (_, inr (e, _))) = omega (arith, e)

later_place : (s t : Shape) → s.n ≡ t.n → s.dep.0 ≡ t.dep.0 → LaterBefore s t → s.q ≤ t.q
later_place s t same train (inl less) = absurd (omega (arith, same, less))
later_place s t same train (inr (_, inl less)) = absurd (omega (arith, train, less))
later_place s t same train (inr (_, inr (_, less))) = omega (arith, less)

-- of one first unit, the earlier choice has the earlier shape or the same one
narrowed : (night : Night) (c d : PathChoice) → unit_of night c ≡ unit_of night d → EarlierChoice night c d → LaterBefore c.shape d.shape ⊎ (c.shape ≡ d.shape)
narrowed night c d same (inl less) = absurd (omega (arith, same, less))
narrowed night c d same (inr (_, inl later)) = inl later
narrowed night c d same (inr (_, inr (e, _))) = inr e

pub units_rise : (night : Night) (c d : PathChoice) → unit_of night c ≡ unit_of night d → EarlierChoice night c d → units_of c ≤ units_of d
units_rise night c d same before = ⊎_elim (λ later. later_units c.shape d.shape later) (λ e. let n : c.shape.n ≡ d.shape.n = ap (λ (w : Shape). w.n) e in omega (arith, n))
    (narrowed night c d same before)

pub trains_rise : (night : Night) (c d : PathChoice) → unit_of night c ≡ unit_of night d → units_of c ≡ units_of d → EarlierChoice night c d → train_of c ≤ train_of d
trains_rise night c d same n before = ⊎_elim (λ later. later_train c.shape d.shape n later)
    (λ e. let t : c.shape.dep.0 ≡ d.shape.dep.0 = ap (λ (w : Shape). w.dep.0) e in omega (arith, t)) (narrowed night c d same before)

pub places_rise : (night : Night) (c d : PathChoice) → unit_of night c ≡ unit_of night d → units_of c ≡ units_of d → train_of c ≡ train_of d → EarlierChoice night c d
    → place_from c ≤ place_from d
places_rise night c d same n t before = ⊎_elim (λ later. later_place c.shape d.shape n t later) (λ e. let q : c.shape.q ≡ d.shape.q = ap (λ (w : Shape). w.q) e in omega (arith, q))
    (narrowed night c d same before)

-- ---- one shape

module _ (night : Night) (unit_law : (s : Shape) (k : ℕ) → AreRunsWithin night s → k < s.n
    → unit_at night (unit_from night s + k) ≡ make_unit s.arr.0 (s.p + k) (kind_at (train_at night.arrive s.arr.0) (s.p + k))) where
  unit_is : (s : Shape) (u : ℕ) → AreRunsWithin night s → unit_from night s ≡ u → unit_at night u ≡ make_unit s.arr.0 s.p (kind_at (train_at night.arrive s.arr.0) s.p)
  unit_is s u within e =
      let from : unit_from night s + 0 ≡ u = omega (arith, e) in
      let place : s.p + 0 ≡ s.p = omega arith in
      subst (λ (w : ℕ). unit_at night w ≡ make_unit s.arr.0 s.p (kind_at (train_at night.arrive s.arr.0) s.p)) from
      (subst (λ (p : ℕ). unit_at night (unit_from night s + 0) ≡ make_unit s.arr.0 p (kind_at (train_at night.arrive s.arr.0) p)) place
      (unit_law s 0 within (let n = within.n in omega (arith, n))))

  abbrev shape_of_unit : TrainUnit → ℕ → ℕ → ℕ → Shape
  shape_of_unit x n dep q = record { arr = x.train; p = x.place; n = n; dep = record { 0 = dep }; q = q }

  pub shape_is : (s : Shape) (u n dep q : ℕ) → AreRunsWithin night s → unit_from night s ≡ u → s.n ≡ n → s.dep.0 ≡ dep → s.q ≡ q → s ≡ shape_from night u n dep q
  shape_is s u n dep q within eu en ed eq =
      let first : s ≡ shape_of_unit (unit_at night u) s.n s.dep.0 s.q = sym (ap (λ (x : TrainUnit). shape_of_unit x s.n s.dep.0 s.q) (unit_is s u within eu)) in
      first ∙ (ap (λ (w : ℕ). shape_of_unit (unit_at night u) w s.dep.0 s.q) en ∙
      (ap (λ (w : ℕ). shape_of_unit (unit_at night u) n w s.q) ed ∙ ap (λ (w : ℕ). shape_of_unit (unit_at night u) n dep w) eq))

  pub units_fit : (s : Shape) (u : ℕ) → AreRunsWithin night s → unit_from night s ≡ u
      → (unit_at night u).place + s.n ≤ length (train_at night.arrive (unit_at night u).train.0).units + 1
  units_fit s u within e =
      let is = unit_is s u within e in
      let place : (unit_at night u).place ≡ s.p = ap (λ (x : TrainUnit). x.place) is in
      let train : (unit_at night u).train.0 ≡ s.arr.0 = ap (λ (x : TrainUnit). x.train.0) is in
      subst (λ (a : ℕ). (unit_at night u).place + s.n ≤ length (train_at night.arrive a).units + 1) (sym train) (let units = within.units in omega (arith, place, units))

  module _ (covered : Masks) (Holds : PathChoice → Type 0) (u n dep q : ℕ) (at : IsUnitAt night u (unit_at night u)) where
    begins : unit_from night (shape_from night u n dep q) ≡ u
    begins = let number = at.number in let placed = at.placed in omega (arith, number, placed)

    same_shape : (c : PathChoice) → IsOneFrom night covered Holds u n dep q c → c.shape ≡ shape_from night u n dep q
    same_shape c h = shape_is c.shape u n dep q h.with.of.at.free.shape.shape.within h.with.of.at.unit h.with.of.units h.with.train h.place

    abbrev its_shape : Shape
    its_shape = shape_from night u n dep q

    pub not_free : (IsFreeShape night covered (unit_from night its_shape) its_shape → ⊥) → Finds (IsOneFrom night covered Holds u n dep q) (EarlierChoice night) None
    not_free never c h = never (subst (λ (s : Shape). IsFreeShape night covered (unit_from night s) s) (same_shape c h) h.with.of.at.free.shape)

    from_shape : IsFreeShape night covered (unit_from night its_shape) its_shape → (c : PathChoice) → IsOneOfShape Holds its_shape c → IsOneFrom night covered Holds u n dep q c
    from_shape free c h =
        let e = h.same in
        record {
          with = record {
            of = record {
              at = record {
                free = record { shape = subst (λ (s : Shape). IsFreeShape night covered (unit_from night s) s) (sym e) free; holds = h.holds };
                unit = ap (λ (s : Shape). unit_from night s) e ∙ begins;
              };
              units = ap (λ (s : Shape). s.n) e;
            };
            train = ap (λ (s : Shape). s.dep.0) e;
          };
          place = ap (λ (s : Shape). s.q) e;
        }

    pub one_in : IsFreeShape night covered (unit_from night its_shape) its_shape → (r : Option PathChoice) → Finds (IsOneOfShape Holds its_shape) (EarlierChoice night) r
        → Finds (IsOneFrom night covered Holds u n dep q) (EarlierChoice night) r
    one_in free r f = same_finds (IsOneOfShape Holds its_shape) (IsOneFrom night covered Holds u n dep q) (EarlierChoice night) (from_shape free)
        (λ c h. record { same = same_shape c h; holds = h.with.of.at.free.holds }) r f

-- ---- covered units

pub none_covered : (night : Night) (covered : Masks) (Holds : PathChoice → Type 0) (u : ℕ) → slice_index_or covered.units u true ≡ true
    → Finds (IsOneAt night covered Holds u) (EarlierChoice night) None
none_covered night covered Holds u e c h =
    let free = h.free.shape in
    let first = h.unit in
    let n = free.shape.within.n in
    true≢false (sym e ∙ free.units u (record { from = omega (arith, first); to = omega (arith, first, n) }))
