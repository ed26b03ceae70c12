-- Free shapes and what they ask, one after the other.
use Rattle.std.specs.Prelude.{All, ◌↔◌, slice_index_or}
use Rattle.std.proofs.Common.{◌≡◌, ⊎_elim, ℕ, ◌+◌, ◌<◌, ◌≤◌, List, [], ◌∷◌, ◌++◌, length, get_or, take, ℤ, refl, sym, ap, subst, ◌∙◌, arith}
use Rattle.std.proofs.lemmas.Bool.{cases_lt}
use Rattle.std.proofs.lemmas.List.{length_push, get_or_push, get_or_append_left, get_or_default, map-append, take_more}
use Rattle.shunt_lists.specs.defs.Members.{In}
use Rattle.shunt_lists.proofs.Members.{in_left, in_right, in_cases, in_place}
use Rattle.shunt_base.specs.declared.duals.Price.{Price}
use Rattle.shunt_instance.specs.defs.Words.{train_at}
use Rattle.shunt_instance.specs.defs.Instance.{Night, unit_total, first_unit}
use Rattle.shunt_blocks.specs.declared.records.Shape.{Shape}
use Rattle.shunt_blocks.specs.defs.Shapes.{AreRunsWithin, unit_from}
use Rattle.shunt_choices.specs.defs.Paths.{Masks}
use Rattle.shunt_choices.specs.defs.Choices.{IsFreeShape, shapes_of, AreFreeShapes}
use Rattle.shunt_dual.specs.declared.unit_values.Ask.{Ask}
use Rattle.shunt_dual.specs.declared.shape_demands.Demand.{Demand}
use Rattle.shunt_dual.specs.defs.Asks.{IsAskOf, AreAsksOf, AreFreeBelow, shapes_asked}

-- ---- asks

-- what that many of the shapes ask
pub record AreSoFar (night : Night) (beta : List ℤ) (prices : List Price) (shapes : List Shape) (k : ℕ) (asks : List Ask) : Type 0 where
  pub long : length asks ≡ k
  pub each : (i : ℕ) (s : Shape) (a : Ask) → i < k → IsAskOf night beta prices (slice_index_or shapes i s) (slice_index_or asks i a)

module _ (night : Night) (beta : List ℤ) (prices : List Price) (shapes : List Shape) where
  pub no_asks : AreSoFar night beta prices shapes 0 []
  no_asks = record { long = refl; each = λ i s a lt. absurd (omega (arith, lt)) }

  pub one_ask : (k : ℕ) (asks : List Ask) (s : Shape) (a : Ask) → k < length shapes → AreSoFar night beta prices shapes k asks → IsAskOf night beta prices (get_or shapes k s) a
      → AreSoFar night beta prices shapes (k + 1) (asks ++ a ∷ [])
  one_ask k asks s a there h is = record {
    long = omega (arith, length_push asks a, h.long);
    each = λ i t b lt. ⊎_elim
        (λ (early : i < k). subst (IsAskOf night beta prices (get_or shapes i t)) (sym (get_or_append_left asks (a ∷ []) b i (omega (arith, early, h.long)))) (h.each i t b early))
        (λ (late : k ≤ i).
        let e : k ≡ i = omega (arith, late, lt) in
        let last : get_or (asks ++ a ∷ []) k b ≡ a = get_or_push asks a b k h.long in
        subst (λ (n : ℕ). IsAskOf night beta prices (get_or shapes n t) (get_or (asks ++ a ∷ []) n b)) e
        (subst (IsAskOf night beta prices (get_or shapes k t)) (sym last) (subst (λ (r : Shape). IsAskOf night beta prices r a) (get_or_default shapes k s t there) is)))
        (cases_lt i k);
  }

  pub all_asks : (k : ℕ) (asks : List Ask) → k ≡ length shapes → AreSoFar night beta prices shapes k asks → AreAsksOf night beta prices shapes asks
  all_asks k asks e h = record { long = h.long ∙ e; each = λ i s a lt. h.each i s a (omega (arith, lt, e)) }

pub all_push : {X : Type 0} (P : X → Type 0) (xs : List X) (x : X) → All P xs → P x → All P (xs ++ x ∷ [])
all_push P xs x all p i d lt = ⊎_elim
    (λ (early : i < length xs). subst P (sym (get_or_append_left xs (x ∷ []) d i early)) (all i d early))
    (λ (late : length xs ≤ i).
    let e : length xs ≡ i = omega (arith, late, lt, length_push xs x) in
    subst P (sym (get_or_push xs x d i e)) p)
    (cases_lt i (length xs))

-- ---- shapes

module _ (night : Night) (covered : Masks) where
  pub no_shapes : AreFreeBelow night covered 0 []
  no_shapes = record { each = λ s none. absurd none; all = λ s free lt. absurd (omega (arith, lt)) }

  pub more_shapes : (u : ℕ) (shapes : List Shape) → ((s : Shape) → In s (shapes_of night covered u) ↔ IsFreeShape night covered u s)
      → AreFreeBelow night covered u shapes → AreFreeBelow night covered (u + 1) (shapes ++ shapes_of night covered u)
  more_shapes u shapes members h = record {
    each = λ s i. ⊎_elim
        (λ (left : In s shapes). h.each s left)
        (λ (right : In s (shapes_of night covered u)). let free = (members s).0 right in subst (λ (n : ℕ). IsFreeShape night covered n s) (sym free.first) free)
        (in_cases shapes (shapes_of night covered u) s i);
    all = λ s free lt. ⊎_elim
        (λ (early : unit_from night s < u). in_left shapes (shapes_of night covered u) s (h.all s free early))
        (λ (late : u ≤ unit_from night s).
        let e : unit_from night s ≡ u = omega (arith, late, lt) in
        in_right shapes (shapes_of night covered u) s ((members s).1 (subst (λ (n : ℕ). IsFreeShape night covered n s) e free)))
        (cases_lt (unit_from night s) u);
  }

  pub all_free : (u : ℕ) (shapes : List Shape) → unit_total night ≤ u → ((a : ℕ) → a < length night.arrive
      → first_unit night a + length (train_at night.arrive a).units ≤ unit_total night)
      → AreFreeBelow night covered u shapes → AreFreeShapes night covered shapes
  all_free u shapes le rooms h = record {
    each = h.each;
    all = λ s free. let r = free.shape.within in h.all s free (omega (arith, rooms s.arr.0 r.arr, r.units, r.p, r.n, le));
  }

  pub all_within : (shapes : List Shape) → AreFreeShapes night covered shapes → All (AreRunsWithin night) shapes
  all_within shapes h i d lt = (h.each (get_or shapes i d) (in_place shapes i d lt)).shape.within

-- ---- shapes with their costs

pub one_demand : (shapes : List Shape) (demands : List Demand) (i : ℕ) (d : Demand) (s : Shape) → i < length shapes → shapes_asked demands ≡ take i shapes
    → d.shape ≡ get_or shapes i s → shapes_asked (demands ++ d ∷ []) ≡ take (i + 1) shapes
one_demand shapes demands i d s lt h e =
    map-append (λ (x : Demand). x.shape) demands (d ∷ []) ∙ ap (λ (xs : List Shape). xs ++ d.shape ∷ []) h ∙ ap (λ (x : Shape). take i shapes ++ x ∷ []) e
    ∙ sym (take_more shapes i s lt)
