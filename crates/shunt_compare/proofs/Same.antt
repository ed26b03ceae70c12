-- When another plan does nothing otherwise.
use Rattle.std.specs.Prelude.{Option, Some, None, ◌↔◌, ◌≢◌}
use Rattle.std.proofs.Common.{◌≡◌, ◌⊎◌, inl, inr, ⊎_elim, ℕ, ◌+◌, ◌<◌, true, List, [], ◌∷◌, get_or, refl, sym, subst, ap, ◌∙◌, arith}
use Rattle.std.proofs.lemmas.Bool.{cases_eq}
use Rattle.shunt_lists.specs.defs.Members.{In}
use Rattle.shunt_lists.proofs.Members.{in_to, in_place, no_member}
use Rattle.shunt_base.specs.declared.ids.ArrId.{ArrId}
use Rattle.shunt_base.specs.declared.ids.Side.{Side}
use Rattle.shunt_base.specs.declared.ids.Side.TheVariants as side
use Rattle.shunt_instance.specs.declared.records.Position.{Position}
use Rattle.shunt_instance.specs.defs.Words.{train_at, kind_at}
use Rattle.shunt_instance.specs.defs.Instance.{Night, make_position, position_at, unit_total}
use Rattle.shunt_blocks.specs.declared.records.Shape.{Shape}
use Rattle.shunt_blocks.specs.declared.records.Block.{Block}
use Rattle.shunt_blocks.specs.declared.records.Park.{Park}
use Rattle.shunt_blocks.specs.defs.Shapes.{shape_of, unit_from, position_from, begins_at, AreRunsWithin, HasUnit}
use Rattle.shunt_blocks.specs.defs.Lists.{IsFeasible, has_unit}
use Rattle.shunt_blocks.specs.defs.Pins.{IsKept, Keeps, without_id}
use Rattle.shunt_compare.specs.declared.records.Placement.{Placement}
use Rattle.shunt_compare.specs.declared.records.Change.{Change}
use Rattle.shunt_compare.specs.declared.records.Comparison.{Comparison}
use Rattle.shunt_compare.specs.defs.Changes.{placement_of, IsChange, HaveSameUnits, IsRegrouped, IsComparison}
use Rattle.shunt_compare.proofs.Placed.{is_block, some_with, one_with}
use Rattle.shunt_blocks.proofs.Shapes.{begins_itself as begins}

-- what the laws of places say
pub record PlaceLaws : Type 0 where
  pub position : (night : Night) (s : Shape) (k : ℕ) → AreRunsWithin night s → k < s.n
      → position_at night (position_from night s + k) ≡ make_position s.dep.0 (s.q + k) (kind_at (train_at night.depart s.dep.0) (s.q + k))
  pub unit_in : (night : Night) (s : Shape) (u : ℕ) → AreRunsWithin night s → HasUnit night s u → u < unit_total night

-- ---- what can be told apart

side_or : (a b : Side) → (a ≡ b) ⊎ (a ≢ b)
side_or side.A side.A = inl refl
side_or side.A side.B = inr (λ e. grind arith)
side_or side.B side.A = inr (λ e. grind arith)
side_or side.B side.B = inl refl

park_or : (k m : Park) → (k ≡ m) ⊎ (k ≢ m)
park_or k m = ⊎_elim
    (λ track. ⊎_elim
    (λ comes. ⊎_elim (λ goes. inl (same track comes goes)) (λ d. inr (λ e. d (ap (λ (x : Park). x.side_out) e))) (side_or k.side_out m.side_out))
    (λ d. inr (λ e. d (ap (λ (x : Park). x.side_in) e)))
    (side_or k.side_in m.side_in))
    (λ d. inr (λ e. d (ap (λ (x : Park). x.track.0) e)))
    (cases_eq k.track.0 m.track.0)
  where
    same : k.track.0 ≡ m.track.0 → k.side_in ≡ m.side_in → k.side_out ≡ m.side_out → k ≡ m
    same t i o = ap (λ (x : ℕ). record { track = record { 0 = x }; side_in = k.side_in; side_out = k.side_out }) t
        ∙ (ap (λ (x : Side). record { track = m.track; side_in = x; side_out = k.side_out }) i ∙ ap (λ (x : Side). record { track = m.track; side_in = m.side_in; side_out = x }) o)

option_or : (k m : Option Park) → (k ≡ m) ⊎ (k ≢ m)
option_or None None = inl refl
option_or None (Some m) = inr (λ e. grind arith)
option_or (Some k) None = inr (λ e. grind arith)
option_or (Some k) (Some m) = ⊎_elim (λ e. inl (ap Some e)) (λ d. inr (λ e. d (inner e))) (park_or k m)
  where
    inner : Some k ≡ Some m → k ≡ m
    inner e = grind arith

placement_or : (x y : Placement) → (x ≡ y) ⊎ (x ≢ y)
placement_or x y = ⊎_elim
    (λ position. ⊎_elim (λ park. inl (same position park)) (λ d. inr (λ e. d (ap (λ (z : Placement). z.park) e))) (option_or x.park y.park))
    (λ d. inr (λ e. d (ap (λ (z : Placement). z.position) e)))
    (cases_eq x.position y.position)
  where
    same : x.position ≡ y.position → x.park ≡ y.park → x ≡ y
    same v k = ap (λ (n : ℕ). record { position = n; park = x.park }) v ∙ ap (λ (o : Option Park). record { position = y.position; park = o }) k

units_or : (b c : Block) → HaveSameUnits b c ⊎ (HaveSameUnits b c → ⊥)
units_or b c = ⊎_elim
    (λ arr. ⊎_elim
    (λ p. ⊎_elim (λ n. inl (record { arr = ap (λ (x : ℕ). record { 0 = x }) arr; p = p; n = n })) (λ d. inr (λ h. d h.n)) (cases_eq b.n c.n))
    (λ d. inr (λ h. d h.p))
    (cases_eq b.p c.p))
    (λ d. inr (λ h. d (ap (λ (x : ArrId). x.0) h.arr)))
    (cases_eq b.arr.0 c.arr.0)

grouped_or : (b : Block) (was : List Block) → ((c : Block) × In c was × HaveSameUnits b c) ⊎ ((c : Block) → In c was → HaveSameUnits b c → ⊥)
grouped_or b [] = inr (λ c there. absurd there)
grouped_or b (x ∷ was) = ⊎_elim
    (λ same. inl (x, inl refl, same))
    (λ differs. ⊎_elim (λ found. inl (found.0, inr found.1, found.2)) (λ none. inr (λ c there same. apart c there same differs none)) (grouped_or b was))
    (units_or b x)
  where
    apart : (c : Block) → In c (x ∷ was) → HaveSameUnits b c → (HaveSameUnits b x → ⊥) → ((d : Block) → In d was → HaveSameUnits b d → ⊥) → ⊥
    apart c (inl e) same differs none = differs (subst (HaveSameUnits b) e same)
    apart c (inr h) same differs none = none c h same

-- ---- single blocks

-- units are those of the shape, whatever the id
same_unit : (night : Night) (b c : Block) (u : ℕ) → without_id b ≡ without_id c → has_unit night (shape_of b) u ≡ true → has_unit night (shape_of c) u ≡ true
same_unit night b c u e has = subst (λ (x : Block). has_unit night (shape_of x) u ≡ true) e has

same_placement : (night : Night) (b c : Block) (u : ℕ) → without_id b ≡ without_id c → placement_of night b u ≡ placement_of night c u
same_placement night b c u e = ap (λ (x : Block). placement_of night x u) e

module _ (laws : PlaceLaws) (night : Night) where
  -- blocks of the same units that do the same with their first one are the same but for their ids
  same_block : (b c : Block) → AreRunsWithin night (shape_of b) → AreRunsWithin night (shape_of c) → HaveSameUnits b c →
      placement_of night b (begins_at night b) ≡ placement_of night c (begins_at night b) → without_id c ≡ without_id b
  same_block b c inside outside h e = alike (sym h.arr) (sym h.p) (sym h.n) (sym dep) (sym q) (sym (ap (λ (x : Placement). x.park) e))
    where
      first : begins_at night b ≡ begins_at night c
      first = ap (λ (a : ArrId). unit_from night (record { arr = a; p = b.p; n = b.n; dep = b.dep; q = b.q })) h.arr
          ∙ ap (λ (p : ℕ). unit_from night (record { arr = c.arr; p = p; n = b.n; dep = b.dep; q = b.q })) h.p

      from : position_from night (shape_of b) + 0 ≡ position_from night (shape_of c) + 0
      from = omega (arith, ap (λ (x : Placement). x.position) e, first)

      positions : make_position b.dep.0 (b.q + 0) (kind_at (train_at night.depart b.dep.0) (b.q + 0))
          ≡ make_position c.dep.0 (c.q + 0) (kind_at (train_at night.depart c.dep.0) (c.q + 0))
      positions = sym (laws.position night (shape_of b) 0 inside (omega (arith, inside.n)))
          ∙ (ap (position_at night) from ∙ laws.position night (shape_of c) 0 outside (omega (arith, outside.n)))

      dep : b.dep ≡ c.dep
      dep = ap (λ (x : ℕ). record { 0 = x }) (ap (λ (x : Position). x.train.0) positions)

      q : b.q ≡ c.q
      q = omega (arith, ap (λ (x : Position). x.place) positions)

      alike : c.arr ≡ b.arr → c.p ≡ b.p → c.n ≡ b.n → c.dep ≡ b.dep → c.q ≡ b.q → c.park ≡ b.park → without_id c ≡ without_id b
      alike a p n d r k = grind arith

  first_in : (b : Block) → AreRunsWithin night (shape_of b) → begins_at night b < unit_total night
  first_in b inside = laws.unit_in night (shape_of b) (begins_at night b) inside (record { from = omega arith; to = omega (arith, inside.n) })

  module _ (was now : List Block) (before : IsFeasible night was) (after : IsFeasible night now) where
    -- ---- nothing otherwise, so all is kept

    -- a block of the other plan is one of the first
    kept : (comparison : Comparison) → IsComparison night was now comparison → comparison.changes ≡ [] → comparison.regrouped ≡ [] → (b : Block) → In b now → IsKept was b
    kept comparison h unchanged together b there = ⊎_elim
        (λ found. record { block = found.0; there = found.1; same = same found.0 found.1 found.2 })
        (λ none. absurd (subst (In b) together ((h.regrouped.exactly b).1 (first_in b inside, record { there = there; none = none }))))
        (grouped_or b was)
      where
        inside : AreRunsWithin night (shape_of b)
        inside = (is_block night now after b there).shape.within

        same : (c : Block) → In c was → HaveSameUnits b c → without_id c ≡ without_id b
        same c is units = ⊎_elim
            (λ e. same_block b c inside outside units e)
            (λ differs. absurd (subst (In change) unchanged ((h.changes.exactly change).1 (
              first_in b inside,
              record {
                before = record { block = c; there = is; has = has; is = refl };
                after = record { block = b; there = there; has = begins night b inside.n; is = refl };
                differs = λ e. differs (sym e);
              },
            ))))
            (placement_or (placement_of night b (begins_at night b)) (placement_of night c (begins_at night b)))
          where
            outside : AreRunsWithin night (shape_of c)
            outside = (is_block night was before c is).shape.within

            first : begins_at night c ≡ begins_at night b
            first = sym (ap (λ (a : ArrId). unit_from night (record { arr = a; p = b.p; n = b.n; dep = b.dep; q = b.q })) units.arr
                ∙ ap (λ (p : ℕ). unit_from night (record { arr = c.arr; p = p; n = b.n; dep = b.dep; q = b.q })) units.p)

            has : has_unit night (shape_of c) (begins_at night b) ≡ true
            has = subst (λ (u : ℕ). has_unit night (shape_of c) u ≡ true) first (begins night c outside.n)

            change : Change
            change = record { unit = begins_at night b; was = placement_of night c (begins_at night b); now = placement_of night b (begins_at night b) }

    -- and a block of the first one of the other
    kept_too : ((b : Block) → In b now → IsKept was b) → (c : Block) → In c was → IsKept now c
    kept_too keeps c there = record { block = found.0; there = found.1; same = sym k.same ∙ ap without_id one }
      where
        inside : AreRunsWithin night (shape_of c)
        inside = (is_block night was before c there).shape.within

        found : (b : Block) × In b now × (has_unit night (shape_of b) (begins_at night c) ≡ true)
        found = some_with night now after (begins_at night c) (first_in c inside)

        k : IsKept was found.0
        k = keeps found.0 found.1

        one : k.block ≡ c
        one = one_with night was before (begins_at night c) k.block c (first_in c inside) k.there there (same_unit night found.0 k.block (begins_at night c) (sym k.same) found.2)
            (begins night c inside.n)

    -- ---- all is kept, so nothing otherwise

    unchanged : Keeps was now → (c : Change) → c.unit < unit_total night → IsChange night was now c → ⊥
    unchanged keeps c lt h = h.differs (h.before.is ∙ (ap (λ (x : Block). placement_of night x c.unit) (sym one)
        ∙ (same_placement night k.block h.after.block c.unit k.same ∙ sym h.after.is)))
      where
        k : IsKept was h.after.block
        k = let at = in_to now h.after.block h.after.there in subst (IsKept was) at.2 (keeps at.0 h.after.block at.1)

        one : k.block ≡ h.before.block
        one = one_with night was before c.unit k.block h.before.block lt k.there h.before.there (same_unit night h.after.block k.block c.unit (sym k.same) h.after.has) h.before.has

    together : Keeps was now → (b : Block) → IsRegrouped was now b → ⊥
    together keeps b h = h.none k.block k.there (record {
      arr = ap (λ (x : Block). x.arr) (sym k.same);
      p = ap (λ (x : Block). x.p) (sym k.same);
      n = ap (λ (x : Block). x.n)
          (sym k.same);
    })
      where
        k : IsKept was b
        k = let at = in_to now b h.there in subst (IsKept was) at.2 (keeps at.0 b at.1)

    pub exactly : (c : Comparison) → IsComparison night was now c → ((c.changes ≡ []) × (c.regrouped ≡ [])) ↔ (Keeps was now × Keeps now was)
    exactly c h = (
      λ none. let each = kept c h none.0 none.1 in (by_place was now each, by_place now was (kept_too each)),
      λ keeps. (
        no_member c.changes (λ x there. let of = (h.changes.exactly x).0 there in unchanged keeps.0 x of.0 of.1),
        no_member c.regrouped (λ b there. together keeps.0 b ((h.regrouped.exactly b).0 there).1),
      ),
    )
      where
        by_place : (blocks pins : List Block) → ((b : Block) → In b pins → IsKept blocks b) → Keeps blocks pins
        by_place blocks pins each = λ k d lt. each (get_or pins k d) (in_place pins k d lt)
