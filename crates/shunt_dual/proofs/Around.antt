-- The shapes around a pair are those that hold it.
use Rattle.std.proofs.Common.{◌≡◌, ⊎_elim, ℕ, ◌+◌, ◌-◌, ◌<◌, ◌≤◌, length, sym, ap, ◌∙◌, subst, arith}
use Rattle.std.proofs.lemmas.Bool.{cases_lt}
use Rattle.shunt_base.specs.declared.ids.ArrId.{ArrId}
use Rattle.shunt_base.specs.declared.ids.DepId.{DepId}
use Rattle.shunt_instance.specs.declared.records.Unit.{Unit as TrainUnit}
use Rattle.shunt_instance.specs.declared.records.Position.{Position}
use Rattle.shunt_instance.specs.defs.Words.{train_at, kind_at}
use Rattle.shunt_instance.specs.defs.Instance.{Night, IsInstance, unit_at, position_at, unit_total, position_total, make_unit, make_position, first_unit, first_position, IsUnitAt, IsPositionAt}
use Rattle.shunt_instance.proofs.Facts.{unit_at_is, position_at_is, unit_there, position_there}
use Rattle.shunt_instance.proofs.Orders.{opened}
use Rattle.shunt_blocks.specs.declared.records.Shape.{Shape}
use Rattle.shunt_blocks.specs.defs.Shapes.{AreRunsWithin, IsPair, unit_from, position_from}
use Rattle.shunt_blocks.specs.defs.Blocks.{IsOption}
use Rattle.shunt_blocks.proofs.Made.{made_shape}
use Rattle.shunt_dual.specs.defs.Shares.{Holds, IsShare, part_with}
use Rattle.shunt_dual.specs.defs.Around.{AreAfter, AreBefore, shape_around, IsLeastPart, FromSome}

module _ (night : Night) (u v back n : ℕ) (is : IsInstance night) (ul : u < unit_total night) (vl : v < position_total night)
    (before : AreBefore night u v (back + 1)) (after : AreAfter night u v (n - back)) (some : back < n) where
  unit_facts : IsUnitAt night u (unit_at night u)
  unit_facts = unit_at_is night u (opened night is) ul

  position_facts : IsPositionAt night v (position_at night v)
  position_facts = position_at_is night v (opened night is) vl

  pub around_within : AreRunsWithin night (shape_around night u v back n)
  around_within = record {
    arr = unit_facts.train;
    dep = position_facts.train;
    p = omega (arith, before.units);
    n = omega arith;
    q = omega (arith, before.positions);
    units = omega (arith, before.units, after.within.units);
    positions = omega (arith, before.positions, after.within.positions);
  }

  from_unit : unit_from night (shape_around night u v back n) + back ≡ u
  from_unit = omega (arith, unit_facts.number, before.units)

  from_position : position_from night (shape_around night u v back n) + back ≡ v
  from_position = omega (arith, position_facts.number, before.positions)

  pairs : (k : ℕ) → k < n → IsPair night (unit_from night (shape_around night u v back n) + k) (position_from night (shape_around night u v back n) + k)
  pairs k lt = ⊎_elim
      (λ early.
      let a : u - (back - k) ≡ unit_from night (shape_around night u v back n) + k = omega (arith, from_unit) in
      let b : v - (back - k) ≡ position_from night (shape_around night u v back n) + k = omega (arith, from_position) in
      subst (λ (w : ℕ). IsPair night w (position_from night (shape_around night u v back n) + k)) a
      (subst (λ (w : ℕ). IsPair night (u - (back - k)) w) b (before.pairs (back - k) (omega arith))))
      (λ late.
      let a : u + (k - back) ≡ unit_from night (shape_around night u v back n) + k = omega (arith, from_unit) in
      let b : v + (k - back) ≡ position_from night (shape_around night u v back n) + k = omega (arith, from_position) in
      subst (λ (w : ℕ). IsPair night w (position_from night (shape_around night u v back n) + k)) a
      (subst (λ (w : ℕ). IsPair night (u + (k - back)) w) b (after.pairs (k - back) (omega arith))))
      (cases_lt k back)

  pub around_holds : Holds night (shape_around night u v back n) u v
  around_holds = record {
    shape = record { within = around_within; pairs = pairs };
    place = back;
    within = some;
    unit = sym from_unit;
    position = sym from_position;
  }

shapes_alike : (a b : ArrId) (p x n : ℕ) (d e : DepId) (q y : ℕ) → a ≡ b → p ≡ x → d ≡ e → q ≡ y → made_shape a p n d q ≡ made_shape b x n e y
shapes_alike a b p x n d e q y f g h i = cc

-- a shape that holds a pair is one of those around it
pub record IsAround (night : Night) (u v before after : ℕ) (s : Shape) (place : ℕ) : Type 0 where
  pub same : s ≡ shape_around night u v place s.n
  pub begins : place < before
  pub holds : place < s.n
  pub ends : s.n ≤ place + after

module _ (night : Night) (u v before after : ℕ) (s : Shape) (h : Holds night s u v)
    (most_before : (n : ℕ) → AreBefore night u v n → n ≤ before) (most_after : (n : ℕ) → AreAfter night u v n → n ≤ after) where
  unit_is : unit_at night u ≡ make_unit s.arr.0 (s.p + h.place) (kind_at (train_at night.arrive s.arr.0) (s.p + h.place))
  unit_is =
      let e : u ≡ first_unit night s.arr.0 + ((s.p + h.place) - 1) = omega (arith, h.unit, h.shape.within.p) in
      ap (unit_at night) e ∙ unit_there night s.arr.0 (s.p + h.place) h.shape.within.arr (omega (arith, h.shape.within.p)) (omega (arith, h.shape.within.units, h.within))

  position_is : position_at night v ≡ make_position s.dep.0 (s.q + h.place) (kind_at (train_at night.depart s.dep.0) (s.q + h.place))
  position_is =
      let e : v ≡ first_position night s.dep.0 + ((s.q + h.place) - 1) = omega (arith, h.position, h.shape.within.q) in
      ap (position_at night) e ∙ position_there night s.dep.0 (s.q + h.place) h.shape.within.dep (omega (arith, h.shape.within.q))
      (omega (arith, h.shape.within.positions, h.within))

  unit_place : (unit_at night u).place ≡ s.p + h.place
  unit_place = ap (λ (x : TrainUnit). x.place) unit_is

  position_place : (position_at night v).place ≡ s.q + h.place
  position_place = ap (λ (x : Position). x.place) position_is

  pair : (k : ℕ) → k < s.n → (a b : ℕ) → a ≡ unit_from night s + k → b ≡ position_from night s + k → IsPair night a b
  pair k lt a b e f = subst (λ (w : ℕ). IsPair night w b) (sym e) (subst (λ (w : ℕ). IsPair night (unit_from night s + k) w) (sym f) (h.shape.pairs k lt))

  are_before : AreBefore night u v (h.place + 1)
  are_before = record {
    units = omega (arith, unit_place, h.shape.within.p);
    positions = omega (arith, position_place, h.shape.within.q);
    pairs = λ k lt. pair (h.place - k) (omega (arith, h.within)) (u - k) (v - k) (omega (arith, h.unit)) (omega (arith, h.position));
  }

  are_after : AreAfter night u v (s.n - h.place)
  are_after = record {
    within = record {
      units =
          let train : length (train_at night.arrive (unit_at night u).train.0).units
          ≡ length (train_at night.arrive s.arr.0).units = ap (λ (x : TrainUnit). length (train_at night.arrive x.train.0).units) unit_is in
          omega (arith, unit_place, train, h.shape.within.units, h.within);
      positions =
          let train : length (train_at night.depart (position_at night v).train.0).units
          ≡ length (train_at night.depart s.dep.0).units = ap (λ (x : Position). length (train_at night.depart x.train.0).units) position_is in
          omega (arith, position_place, train, h.shape.within.positions, h.within);
    };
    pairs = λ k lt. pair (h.place + k) (omega (arith, h.within)) (u + k) (v + k) (omega (arith, h.unit)) (omega (arith, h.position));
  }

  same_shape : s ≡ shape_around night u v h.place s.n
  same_shape =
      let a : s.arr ≡ (unit_at night u).train = sym (ap (λ (x : TrainUnit). x.train) unit_is) in
      let d : s.dep ≡ (position_at night v).train = sym (ap (λ (x : Position). x.train) position_is) in
      let p : s.p ≡ (unit_at night u).place - h.place = omega (arith, unit_place) in
      let q : s.q ≡ (position_at night v).place - h.place = omega (arith, position_place) in
      shapes_alike s.arr (unit_at night u).train s.p ((unit_at night u).place - h.place) s.n s.dep (position_at night v).train s.q ((position_at night v).place - h.place) a p d q

  pub is_around : IsAround night u v before after s h.place
  is_around = record {
    same = same_shape;
    begins = omega (arith, most_before (h.place + 1) are_before);
    holds = h.within;
    ends = omega (arith, most_after (s.n - h.place) are_after);
  }

-- the parts of all shapes around a pair are those of the shapes that hold it
pub share_is : (night : Night) (u v before after share : ℕ) → IsInstance night → u < unit_total night → v < position_total night → IsPair night u v
    → AreBefore night u v before → AreAfter night u v after
    → ((n : ℕ) → AreBefore night u v n → n ≤ before) → ((n : ℕ) → AreAfter night u v n → n ≤ after)
    → IsLeastPart night u v (FromSome before after) share → IsShare night u v share
share_is night u v before after share is ul vl matches bf af most_before most_after least = record {
  pair = matches;
  shape = shape_around night u v least.back least.n;
  holds = around_holds night u v least.back least.n is ul vl (fewer_before night u v before (least.back + 1) bf (omega (arith, least.one.begins)))
      (fewer_after night u v after (least.n - least.back) af (omega (arith, least.one.ends))) least.one.holds;
  option = least.part.option;
  is_option = least.part.is_option;
  is = least.part.is;
  least = λ other o h option.
      let a = is_around night u v before after other h most_before most_after in
      let P : Shape → Type 0 = λ s. IsOption night s o → share ≤ part_with night s o in
      subst P (sym a.same) (least.lowest h.place other.n o (record { begins = a.begins; holds = a.holds; ends = a.ends })) option;
}
  where
    fewer_before : (night : Night) (u v n m : ℕ) → AreBefore night u v n → m ≤ n → AreBefore night u v m
    fewer_before night u v n m h le = record { units = omega (arith, h.units); positions = omega (arith, h.positions); pairs = λ k lt. h.pairs k (omega arith) }

    fewer_after : (night : Night) (u v n m : ℕ) → AreAfter night u v n → m ≤ n → AreAfter night u v m
    fewer_after night u v n m h le = record {
      within = record { units = omega (arith, h.within.units); positions = omega (arith, h.within.positions) };
      pairs = λ k lt. h.pairs k
          (omega arith);
    }

-- a matchable pair is a run of one
pub one_before : (night : Night) (u v : ℕ) → IsInstance night → u < unit_total night → v < position_total night → IsPair night u v → AreBefore night u v 1
one_before night u v is ul vl matches = record {
  units = (unit_at_is night u (opened night is) ul).placed;
  positions = (position_at_is night v (opened night is) vl).placed;
  pairs = λ k lt.
      let a : u ≡ u - k = omega arith in
      let b : v ≡ v - k = omega arith in
      subst (λ (w : ℕ). IsPair night w (v - k)) a (subst (λ (w : ℕ). IsPair night u w) b matches);
}

pub one_after : (night : Night) (u v : ℕ) → IsInstance night → u < unit_total night → v < position_total night → IsPair night u v → AreAfter night u v 1
one_after night u v is ul vl matches = record {
  within = record {
    units = omega (arith, (unit_at_is night u (opened night is) ul).place);
    positions = omega (arith, (position_at_is night v (opened night is) vl).place);
  };
  pairs = λ k lt.
      let a : u ≡ u + k = omega arith in
      let b : v ≡ v + k = omega arith in
      subst (λ (w : ℕ). IsPair night w (v + k)) a (subst (λ (w : ℕ). IsPair night u w) b matches);
}
