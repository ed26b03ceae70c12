use mir.Syntax.{w64}
use mir.Val.{to_z, of_z}
use Rattle.std.specs.Prelude.{pos, Bool, true, false, cond}
use Rattle.std.proofs.Common.{◌≡◌, ℕ, ℤ, get_or, subst, sym, arith}
use Rattle.std.proofs.lemmas.Int.{ints}
use Rattle.std.proofs.lemmas.List.{get_or_default}
use Rattle.shunt_prices.specs.defs.Limits.{IsValue}
use Rattle.shunt_dual.proofs.bounds.uncovered_sum.Goals as goal
use Rattle.shunt_prices.proofs.Signed.{joined, either_value, value_seen}
use Rattle.shunt_prices.proofs.Counts.{one_more, within_more}

pub loop-u-preserved : goal.loop-u-preserved
loop-u-preserved c =
    let u = c.loop-u.u in
    let lt = c.loop-u-test.true in
    let few = c.requires.few in
    let z = get_or c.args.values.now u (pos 0) in
    let b = get_or c.args.covered.now u true in
    let value : IsValue (get_or c.args.values.now c.loop-u.u (pos 0)) = c.requires.values u (pos 0) (omega arith) in
    let is : c.uncovered-total.result ≡ cond (get_or c.args.covered.now c.loop-u.u true) (pos 0) (get_or c.args.values.now c.loop-u.u (pos 0)) =
    subst (λ (x : ℤ). c.uncovered-total.result ≡ cond (get_or c.args.covered.now c.loop-u.u true) (pos 0) x) (value_seen z value)
    (subst (λ (t : Bool). c.uncovered-total.result ≡ cond t (pos 0) (to_z w64 (of_z w64 (get_or c.args.values.now c.loop-u.u (pos 0)))))
    (get_or_default c.args.covered.now u false true (omega arith)) c.uncovered-total.ensures) in
    let v : IsValue c.uncovered-total.result = subst IsValue (sym is) (either_value b z value) in
    let t = c.loop-u.invariant.small in
    record {
      exact = one_more u (λ (k : ℕ). cond (get_or c.args.covered.now k true) (pos 0) (get_or c.args.values.now k (pos 0))) _
          (joined _ (to_z w64 c.loop-u.total-bits) c.uncovered-total.result _ _ (omega (arith, ints, v.low, v.high, t.low, t.high, few, lt)) c.loop-u.invariant.exact is);
      small = within_more u (to_z w64 c.loop-u.total-bits) c.uncovered-total.result _ (omega (arith, ints, v.low, v.high, t.low, t.high, few, lt)) v t;
    }
