-- What shapes ask of their units is met where duals hold, and there alone.
use Rattle.std.specs.Prelude.{All}
use Rattle.std.proofs.Common.{◌≡◌, ℕ, ◌+◌, ◌<◌, List, [], length, get_or, ℤ, pos, ap, subst, ◌∙◌, arith}
use Rattle.std.proofs.lemmas.Int.{ints}
use Rattle.shunt_lists.proofs.Members.{in_place, place as at_place}
use Rattle.shunt_base.specs.declared.duals.Price.{Price}
use Rattle.shunt_base.specs.declared.duals.Case.{Case}
use Rattle.shunt_instance.specs.defs.Instance.{Night}
use Rattle.shunt_blocks.specs.declared.records.Shape.{Shape}
use Rattle.shunt_blocks.specs.defs.Shapes.{unit_from}
use Rattle.shunt_choices.specs.defs.Paths.{Masks}
use Rattle.shunt_choices.specs.defs.Choices.{AreFreeShapes}
use Rattle.shunt_prices.specs.defs.Sums.{sum_z_below}
use Rattle.shunt_prices.specs.defs.Cases.{HoldsInCase}
use Rattle.shunt_dual.specs.declared.unit_values.Ask.{Ask}
use Rattle.shunt_dual.specs.declared.feasibility.Asked.TheVariants.{Every}
use Rattle.shunt_dual.specs.defs.Weighed.{case_of, ShapeHolds}
use Rattle.shunt_dual.specs.defs.Refits.{run_of, IsMet}
use Rattle.shunt_dual.specs.defs.Asks.{IsAskOf, AreAsksOf}
use Rattle.shunt_prices.proofs.Counts.{no_surcharge as nothing_more}

-- a shape that is not there, for places past a list's end
abbrev pub no_shape : Shape
no_shape = record { arr = record { 0 = 0 }; p = 0; n = 0; dep = record { 0 = 0 }; q = 0 }

module _ (night : Night) (alpha beta : List ℤ) (prices : List Price) where
  abbrev here : Case
  here = case_of (pos 0) (record { alpha = alpha; beta = beta; prices = prices })

  same_run : (s : Shape) (a : Ask) → a.first ≡ unit_from night s → a.n ≡ s.n → run_of alpha a ≡ sum_z_below s.n (λ k. get_or alpha (unit_from night s + k) (pos 0))
  same_run s a ef en = ap (λ (w : ℕ). sum_z_below a.n (λ k. get_or alpha (w + k) (pos 0))) ef ∙ ap (λ (m : ℕ). sum_z_below m (λ k. get_or alpha (unit_from night s + k) (pos 0))) en

  met_where : (s : Shape) (a : Ask) → IsAskOf night beta prices s a → ShapeHolds Every night here s → IsMet alpha a
  met_where s a is h = record {
    met = let le = h.holds is.least.option tt is.least.is_option is.least.room in
        omega (arith, ints, le, is.most, is.least.is, same_run s a is.first is.n, nothing_more is.least.option);
  }

  holds_where : (s : Shape) (a : Ask) → IsAskOf night beta prices s a → IsMet alpha a → ShapeHolds Every night here s
  holds_where s a is m = record {
    holds = λ park own option room. let le = m.met in
        omega (arith, ints, le, is.most, is.least.least park option room, same_run s a is.first is.n, nothing_more park);
  }

  module _ (covered : Masks) (shapes : List Shape) (asks : List Ask) (free : AreFreeShapes night covered shapes) (are : AreAsksOf night beta prices shapes asks) where
    pub all_met : HoldsInCase night covered here → All (IsMet alpha) asks
    all_met h i a lt =
        let within : i < length shapes = omega (arith, lt, are.long) in
        let s : Shape = get_or shapes i no_shape in
        met_where s (get_or asks i a) (are.each i no_shape a within)
        (record { holds = λ park own option room. h.holds s park (record { shape = free.each s (in_place shapes i no_shape within); option = option }) room })

    pub all_hold : All (IsMet alpha) asks → HoldsInCase night covered here
    all_hold met = record {
      holds = λ s park block room.
          let at = at_place shapes s (free.all s block.shape) in
          let a : Ask = get_or asks at.0 (record { first = 0; n = 0; most = pos 0 }) in
          let is : IsAskOf night beta prices s a = subst (λ (t : Shape). IsAskOf night beta prices t a) (at.2 no_shape) (are.each at.0 no_shape _ at.1) in
          (holds_where s a is (met at.0 _ (omega (arith, at.1, are.long)))).holds park tt block.option room;
    }

pub taken_is : (beta : List ℤ) (v w n : ℕ) (z : ℤ) → v ≡ w → z ≡ sum_z_below n (λ k. get_or beta (v + k) (pos 0)) → z ≡ sum_z_below n (λ k. get_or beta (w + k) (pos 0))
taken_is beta v w n z e is = subst (λ (u : ℕ). z ≡ sum_z_below n (λ k. get_or beta (u + k) (pos 0))) e is
