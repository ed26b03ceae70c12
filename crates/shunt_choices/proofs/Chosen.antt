-- The lists of shapes, options and choices have exactly those, in their order.
use Rattle.std.specs.Prelude.{◌↔◌, ◌==◌, not, nat_le, slice_index_or}
use Rattle.std.specs.List.{range_with_len}
use Rattle.std.proofs.Common.{◌≡◌, ◌⊎◌, ⊎_elim, inl, inr, ℕ, ◌+◌, ◌-◌, ◌<◌, ◌≤◌, true, false, length, refl, sym, ap, subst, ◌∙◌, arith}
use Rattle.std.proofs.lemmas.Bool.{cases_lt, and_parts, and_from, not-true, not_from_false, leb-true, le-leb, eqb-true, eq-eqb}
use Rattle.shunt_lists.proofs.TestsBelow.{each_passes, all_pass}
use Rattle.shunt_lists.proofs.Members.{in_map, of_map, filter_from, filter_to, of_flat, in_flat}
use Rattle.shunt_lists.specs.defs.Members.{In}
use Rattle.shunt_instance.specs.declared.records.Unit.{Unit as TrainUnit}
use Rattle.shunt_instance.specs.declared.records.Position.{Position}
use Rattle.shunt_instance.specs.defs.Words.{train_at, kind_at}
use Rattle.shunt_instance.specs.defs.Instance.{Night, IsOrderedNight, IsInstance, make_unit, make_position, unit_at, position_at, ready, leaves, unit_total, position_total, first_position}
use Rattle.shunt_instance.proofs.Facts.{unit_at_is, position_at_is, unit_there, position_there}
use Rattle.shunt_instance.proofs.Numbers.{counts_more}
use Rattle.shunt_blocks.specs.declared.records.Shape.{Shape}
use Rattle.shunt_choices.specs.defs.Paths.{Masks}
use Rattle.shunt_blocks.specs.defs.Shapes.{AreRunsWithin, IsPair, unit_from, position_from, is_pair}
use Rattle.shunt_choices.specs.defs.Free.{is_bare, is_free_pair, is_free_run, has_units, has_positions}
use Rattle.shunt_choices.specs.defs.Choices.{IsFreeShape, ShapeBefore, shape_at, shapes_of_length, shapes_of, IsFreePair}
use Rattle.shunt_choices.proofs.Given.{PlaceLaws}
use Rattle.shunt_lists.proofs.Ranges.{range_in, in_range}
use Rattle.shunt_choices.proofs.Ordered.{Follows, follows_map, follows_filter, follows_flat, follows_range}
use Rattle.shunt_lists.proofs.Tests.{all_three as three_true, from_three}
use Rattle.shunt_blocks.proofs.Times.{arrival}

-- ---- pairs

pair_from : (night : Night) (u v : ℕ) → is_pair night u v ≡ true → IsPair night u v
pair_from night u v t =
    let two = and_parts ((unit_at night u).kind.0 == (position_at night v).kind.0) (nat_le (ready night u) (leaves night v)) t in
    record { kind = eqb-true _ _ two.0; ready = leb-true (ready night u) (leaves night v) two.1 }

pair_to : (night : Night) (u v : ℕ) → IsPair night u v → is_pair night u v ≡ true
pair_to night u v h = and_from ((unit_at night u).kind.0 == (position_at night v).kind.0) (nat_le (ready night u) (leaves night v)) (eq-eqb _ _ h.kind)
    (le-leb (ready night u) (leaves night v) h.ready)

free_from : (night : Night) (covered : Masks) (u v : ℕ) → is_free_pair night covered u v ≡ true → IsFreePair night covered u v
unfolding is_free_pair
free_from night covered u v t =
    let two = and_parts (is_pair night u v) (is_bare covered u v) t in
    let bare = and_parts (not (slice_index_or covered.units u true)) (not (slice_index_or covered.places v true)) two.1 in
    record { unit = not-true _ bare.0; position = not-true _ bare.1; pair = pair_from night u v two.0 }

free_to : (night : Night) (covered : Masks) (u v : ℕ) → IsFreePair night covered u v → is_free_pair night covered u v ≡ true
unfolding is_free_pair
free_to night covered u v h =
    and_from (is_pair night u v) (is_bare covered u v)
    (pair_to night u v h.pair)
    (and_from (not (slice_index_or covered.units u true)) (not (slice_index_or covered.places v true)) (not_from_false _ h.unit) (not_from_false _ h.position))

-- ---- a run of free pairs is a free shape

begins : (night : Night) (u n v : ℕ) → IsOrderedNight night → u < unit_total night → unit_from night (shape_at night u n v) ≡ u
begins night u n v h lt = let x = unit_at_is night u h lt in omega (arith, x.number, x.placed)

goes_to : (night : Night) (u n v : ℕ) → IsOrderedNight night → v < position_total night → position_from night (shape_at night u n v) ≡ v
goes_to night u n v h lt = let x = position_at_is night v h lt in omega (arith, x.number, x.placed)

within : (night : Night) (u n v : ℕ) → IsOrderedNight night → u < unit_total night → v < position_total night → 1 ≤ n → has_units night u n ≡ true → has_positions night v n ≡ true
    → AreRunsWithin night (shape_at night u n v)
within night u n v h lu lv some units positions =
    let x = unit_at_is night u h lu in
    let y = position_at_is night v h lv in
    record { arr = x.train; dep = y.train; p = x.placed; n = some; q = y.placed; units = leb-true _ _ units; positions = leb-true _ _ positions }

run_free : (night : Night) (covered : Masks) (u n v : ℕ) → IsOrderedNight night → u < unit_total night → v < position_total night → 1 ≤ n → is_free_run night covered u n v ≡ true
    → IsFreeShape night covered u (shape_at night u n v)
unfolding is_free_run
run_free night covered u n v h lu lv some t =
    let three = three_true (has_units night u n) (has_positions night v n) _ t in
    let from = begins night u n v h lu in
    let to = goes_to night u n v h lv in
    let free : (k : ℕ) → k < n → IsFreePair night covered (u + k) (v + k) = λ k lt. free_from night covered (u + k) (v + k)
    (each_passes n (λ k. is_free_pair night covered (u + k) (v + k)) three.2 k lt) in
    record {
      shape = record {
        within = within night u n v h lu lv some three.0 three.1;
        pairs = λ k lt. subst (λ (a : ℕ). IsPair night (a + k) (position_from night (shape_at night u n v) + k)) (sym from)
            (subst (λ (b : ℕ). IsPair night (u + k) (b + k)) (sym to) (free k lt).pair);
      };
      first = from;
      units = λ k has.
          let at : u + (k - u) ≡ k = omega (arith, from, has.from) in
          subst (λ (a : ℕ). slice_index_or covered.units a true ≡ false) at (free (k - u) (omega (arith, from, has.from, has.to))).unit;
      positions = λ k has.
          let at : v + (k - v) ≡ k = omega (arith, to, has.from) in
          subst (λ (b : ℕ). slice_index_or covered.places b true ≡ false) at (free (k - v) (omega (arith, to, has.from, has.to))).position;
    }

-- ---- and a free shape is such a run

abbrev with_ends : Shape → TrainUnit → Position → Shape
with_ends s x y = record { arr = x.train; p = x.place; n = s.n; dep = y.train; q = y.place }

rebuilt : (s : Shape) (x z : TrainUnit) (y w : Position) → x ≡ z → y ≡ w → with_ends s x y ≡ with_ends s z w
rebuilt s x z y w e f = cc

is_shape_at : (night : Night) (s : Shape) → AreRunsWithin night s → s ≡ shape_at night (unit_from night s) s.n (position_from night s)
is_shape_at night s h =
    sym (rebuilt s (unit_at night (unit_from night s)) (make_unit s.arr.0 s.p (kind_at (train_at night.arrive s.arr.0) s.p)) (position_at night (position_from night s))
    (make_position s.dep.0 s.q (kind_at (train_at night.depart s.dep.0) s.q))
    (unit_there night s.arr.0 s.p h.arr h.p (omega (arith, h.units, h.n)))
    (position_there night s.dep.0 s.q h.dep h.q (omega (arith, h.positions, h.n))))

free_run : (night : Night) (covered : Masks) (u : ℕ) (s : Shape) → IsFreeShape night covered u s → is_free_run night covered (unit_from night s) s.n (position_from night s) ≡ true
unfolding is_free_run
free_run night covered u s h =
    let w = h.shape.within in
    let x = unit_there night s.arr.0 s.p w.arr w.p (omega (arith, w.units, w.n)) in
    let y = position_there night s.dep.0 s.q w.dep w.q (omega (arith, w.positions, w.n)) in
    from_three (has_units night (unit_from night s) s.n) (has_positions night (position_from night s) s.n) _
    (ap (λ (x : TrainUnit). nat_le (x.place + s.n) (length (train_at night.arrive x.train.0).units + 1)) x ∙ le-leb _ _ w.units)
    (ap (λ (y : Position). nat_le (y.place + s.n) (length (train_at night.depart y.train.0).units + 1)) y ∙ le-leb _ _ w.positions)
    (all_pass s.n _ (λ k lt. free_to night covered (unit_from night s + k) (position_from night s + k) (record {
      unit = h.units (unit_from night s + k) (record { from = omega arith; to = omega arith });
      position = h.positions (position_from night s + k) (record { from = omega arith; to = omega arith });
      pair = h.shape.pairs k lt;
    })))

at_most_eight : (night : Night) (s : Shape) → IsOrderedNight night → AreRunsWithin night s → s.n ≤ 8
at_most_eight night s h w = omega (arith, w.units, w.p, (arrival night s.arr.0 h w.arr).few)

-- ---- exactly the free shapes

in_shapes : (places : PlaceLaws) (night : Night) (covered : Masks) (u : ℕ) (s : Shape) → IsOrderedNight night → IsFreeShape night covered u s → In s (shapes_of night covered u)
unfolding shapes_of
in_shapes places night covered u s h f =
    let w = f.shape.within in
    let v = position_from night s in
    let low : v < position_total night = places.position_in night s v w (record { from = omega arith; to = omega (arith, w.n) }) in
    let here : In s (shapes_of_length night covered (unit_from night s) s.n) =
    subst (λ (t : Shape). In t (shapes_of_length night covered (unit_from night s) s.n)) (sym (is_shape_at night s w))
    (in_map (shape_at night (unit_from night s) s.n) _ v (filter_to (is_free_run night covered (unit_from night s) s.n) (range_with_len 0 (position_total night)) v
    (in_range 0 (position_total night) v (omega arith) (omega arith)) (free_run night covered u s f))) in
    in_flat (shapes_of_length night covered u) (range_with_len 1 8) s.n s (in_range 1 8 s.n w.n (omega (arith, at_most_eight night s h w)))
    (subst (λ (a : ℕ). In s (shapes_of_length night covered a s.n)) f.first here)

of_shapes : (night : Night) (covered : Masks) (u : ℕ) (s : Shape) → IsOrderedNight night → u < unit_total night → In s (shapes_of night covered u) → IsFreeShape night covered u s
unfolding shapes_of
of_shapes night covered u s h lu i =
    let row = of_flat (shapes_of_length night covered u) (range_with_len 1 8) s i in
    let cell = of_map (shape_at night u row.0) _ s row.2 in
    let passed = filter_from (is_free_run night covered u row.0) (range_with_len 0 (position_total night)) cell.0 cell.1 in
    let low = range_in 0 (position_total night) cell.0 passed.0 in
    subst (IsFreeShape night covered u) (sym cell.2) (run_free night covered u row.0 cell.0 h lu (omega (arith, low.1)) (range_in 1 8 row.0 row.1).0 passed.1)

pub shapes_are : (places : PlaceLaws) (night : Night) (covered : Masks) (u : ℕ) (s : Shape) → IsInstance night → u < unit_total night
    → In s (shapes_of night covered u) ↔ IsFreeShape night covered u s
unfolding IsInstance
shapes_are places night covered u s h lu = (of_shapes night covered u s h lu, in_shapes places night covered u s h)

-- ---- in their order

positions_rise : (night : Night) (v w : ℕ) → IsOrderedNight night → v < w → w < position_total night
    → ((position_at night v).train.0 < (position_at night w).train.0) ⊎ (((position_at night v).train.0 ≡ (position_at night w).train.0)
    × ((position_at night v).place < (position_at night w).place))
positions_rise night v w h lt low =
    let x = position_at_is night v h (omega arith) in
    let y = position_at_is night w h low in
    ⊎_elim (λ less. inl less)
    (λ le. ⊎_elim
    (λ back. absurd (omega (arith, counts_more night.depart (position_at night w).train.0 (position_at night v).train.0 back y.train, x.number, y.number, x.placed, y.place)))
    (λ same. let e : (position_at night v).train.0 ≡ (position_at night w).train.0 = omega arith in inr (e, omega (arith, ap (first_position night) e, x.number, y.number)))
    (cases_lt (position_at night w).train.0 (position_at night v).train.0))
    (cases_lt (position_at night v).train.0 (position_at night w).train.0)

shapes_rise : (night : Night) (u n v w : ℕ) → IsOrderedNight night → v < w → w < position_total night → ShapeBefore (shape_at night u n v) (shape_at night u n w)
shapes_rise night u n v w h lt low = inr (refl, inr (refl, inr (refl, positions_rise night v w h lt low)))

row_follows : (night : Night) (covered : Masks) (u n : ℕ) → IsOrderedNight night → Follows ShapeBefore (shapes_of_length night covered u n)
row_follows night covered u n h =
    follows_map (λ v w. v < w) ShapeBefore (shape_at night u n) _
    (λ v w i j lt. shapes_rise night u n v w h lt (omega (
      arith,
      (range_in 0 (position_total night) w
          (filter_from (is_free_run night covered u n) (range_with_len 0 (position_total night)) w j).0).1,
    )))
    (follows_filter (λ v w. v < w) (is_free_run night covered u n) (range_with_len 0 (position_total night)) (follows_range 0 (position_total night)))

has_length : (night : Night) (covered : Masks) (u n : ℕ) (s : Shape) → In s (shapes_of_length night covered u n) → s.n ≡ n
has_length night covered u n s i = ap (λ (t : Shape). t.n) (of_map (shape_at night u n) _ s i).2

begin_alike : (night : Night) (covered : Masks) (u n : ℕ) (s : Shape) → In s (shapes_of_length night covered u n) → s.arr.0 ≡ (unit_at night u).train.0
begin_alike night covered u n s i = ap (λ (t : Shape). t.arr.0) (of_map (shape_at night u n) _ s i).2

begin_at : (night : Night) (covered : Masks) (u n : ℕ) (s : Shape) → In s (shapes_of_length night covered u n) → s.p ≡ (unit_at night u).place
begin_at night covered u n s i = ap (λ (t : Shape). t.p) (of_map (shape_at night u n) _ s i).2

pub shapes_follow : (night : Night) (covered : Masks) (u : ℕ) → IsOrderedNight night → Follows ShapeBefore (shapes_of night covered u)
unfolding shapes_of
shapes_follow night covered u h =
    follows_flat (λ n m. n < m) ShapeBefore (shapes_of_length night covered u) (range_with_len 1 8) (follows_range 1 8)
    (λ n i. row_follows night covered u n h)
    (λ n m i j lt a b k l. inr (
      begin_alike night covered u n a k ∙ sym (begin_alike night covered u m b l),
      inr (begin_at night covered u n a k ∙ sym (begin_at night covered u m b l), inl (omega (arith, has_length night covered u n a k, has_length night covered u m b l))),
    ))
