use mir.Syntax.{w64}
use mir.Val.{to_z, of_z}
use Rattle.std.specs.Prelude.{pos, All, ◌+ℤ◌, ◌-ℤ◌}
use Rattle.std.proofs.Common.{◌≡◌, ℤ, ◌+◌, get_or, set, subst, sym, ◌∙◌, arith}
use Rattle.std.proofs.lemmas.Int.{ints}
use Rattle.std.proofs.lemmas.List.{length-set}
use Rattle.shunt_prices.specs.defs.Limits.{IsValue}
use Rattle.shunt_dual.specs.defs.Refits.{IsMet, AreUnitsRefit}
use Rattle.shunt_dual.proofs.Asked.{unit_more, values_set, risen_more, risen_seen, risen_fits, risen_sum}
use Rattle.shunt_dual.proofs.unit_values.refit.Goals as goal

pub overflow_add-risen : goal.overflow_add-risen
overflow_add-risen c =
    let v = c.refit_value-z.ensures.value in
    let o : IsValue (get_or c.loop-u.alpha c.loop-u.u (pos 0)) = c.loop-u.invariant.alphas c.loop-u.u (pos 0) (omega (arith, c.loop-u-test.true, c.loop-u.invariant.long)) in
    let w = c.loop-u.invariant.small in
    let more : to_z w64 (of_z w64 (to_z w64 (of_z w64 c.refit_value-z.result) -ℤ to_z w64 (of_z w64 (get_or c.loop-u.alpha c.loop-u.u (pos 0)))))
    ≡ c.refit_value-z.result -ℤ get_or c.loop-u.alpha c.loop-u.u (pos 0) =
    risen_seen c.refit_value-z.result (get_or c.loop-u.alpha c.loop-u.u (pos 0)) v o in
    risen_fits c.loop-u.u _ _ _ _ v o w more (omega (arith, c.loop-u-test.true, c.requires.few))

pub loop-u-preserved : goal.loop-u-preserved
loop-u-preserved c =
    let h = c.loop-u.invariant in
    let m = c.refit_value-z.ensures in
    let v = m.value in
    let o : IsValue (get_or c.loop-u.alpha c.loop-u.u (pos 0)) = h.alphas c.loop-u.u (pos 0) (omega (arith, c.loop-u-test.true, h.long)) in
    let w = h.small in
    let seen : to_z w64 (of_z w64 c.refit_value-z.result) ≡ c.refit_value-z.result = omega (arith, ints, v.low, v.high) in
    let sum : to_z w64 (of_z w64 (to_z w64 c.loop-u.risen-bits +ℤ to_z w64 (of_z w64
    (to_z w64 (of_z w64 c.refit_value-z.result) -ℤ to_z w64 (of_z w64 (get_or c.loop-u.alpha c.loop-u.u (pos 0)))))))
    ≡ to_z w64 c.loop-u.risen-bits +ℤ (c.refit_value-z.result -ℤ get_or c.loop-u.alpha c.loop-u.u (pos 0)) =
    risen_sum c.loop-u.u _ _ _ _ v o w (risen_seen c.refit_value-z.result (get_or c.loop-u.alpha c.loop-u.u (pos 0)) v o) (omega (arith, c.loop-u-test.true, c.requires.few)) in
    let risen = to_z w64 (of_z w64 (to_z w64 c.loop-u.risen-bits +ℤ to_z w64 (of_z w64
    (to_z w64 (of_z w64 c.refit_value-z.result) -ℤ to_z w64 (of_z w64 (get_or c.loop-u.alpha c.loop-u.u (pos 0))))))) in
    let one = unit_more c.args.asks.now c.args.covered.now c.loop-u.u c.args.alpha.now c.loop-u.alpha c.refit_value-z.result _ _
    (omega (arith, c.loop-u-test.true, h.long)) h.refit m.refit sum in
    record {
      long = length-set c.loop-u.alpha c.loop-u.u _ ∙ h.long;
      refit = subst (λ (z : ℤ). AreUnitsRefit c.args.asks.now c.args.covered.now (c.loop-u.u + 1) c.args.alpha.now (set c.loop-u.alpha c.loop-u.u z) risen) (sym seen) one;
      alphas = subst (λ (z : ℤ). All IsValue (set c.loop-u.alpha c.loop-u.u z)) (sym seen) (values_set c.loop-u.alpha c.loop-u.u c.refit_value-z.result h.alphas v);
      met = subst (λ (z : ℤ). All (IsMet (set c.loop-u.alpha c.loop-u.u z)) c.args.asks.now) (sym seen) m.met;
      small = risen_more c.loop-u.u _ c.refit_value-z.result (get_or c.loop-u.alpha c.loop-u.u (pos 0)) _ sum v o w;
    }
