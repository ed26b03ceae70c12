use mir.Syntax.{w64}
use mir.Val.{to_z, of_z}
use Rattle.std.specs.Prelude.{pos, ◌+◌}
use Rattle.std.proofs.Common.{◌≡◌, ℤ, get_or, set, subst, sym, arith}
use Rattle.std.proofs.lemmas.Int.{ints}
use Rattle.shunt_prices.specs.defs.Limits.{IsValue}
use Rattle.shunt_dual.proofs.Asked.{MetBelow, met_more, most_more}
use Rattle.shunt_dual.proofs.unit_values.greatest.Goals as goal

pub loop-ask-preserved : goal.loop-ask-preserved
loop-ask-preserved c =
    let h = c.loop-ask.invariant in
    let m = c.met_up_to-z.ensures in
    let v : IsValue (get_or c.args.alpha.now c.args.u (pos 0)) = c.requires.alphas c.args.u (pos 0) c.requires.unit in
    let seen : to_z w64 (of_z w64 c.met_up_to-z.result) ≡ c.met_up_to-z.result = omega (arith, ints, m.low, m.at_most, c.loop-ask.z-is, h.high, v.low) in
    record {
      low = omega (arith, ints, seen, m.low);
      high = omega (arith, ints, seen, m.at_most, h.high, c.loop-ask.z-is);
      met = subst (λ (z : ℤ). MetBelow (set c.args.alpha.now c.args.u z) c.args.asks.now (c.loop-ask.ask-index + 1)) (sym seen)
          (met_more c.args.alpha.now c.args.asks.now c.args.u c.loop-ask.ask-index _ _ _ c.requires.unit c.loop-ask-test.true
          (omega (arith, ints, m.at_most, c.loop-ask.z-is)) h.met m.met);
      most = λ other w met. let le = most_more c.args.alpha.now c.args.asks.now c.args.u c.loop-ask.ask-index _ _ _ c.requires.unit c.loop-ask-test.true h.most
          (λ other below met. m.most other (omega (arith, ints, below, c.loop-ask.z-is)) met) other w met in omega (arith, ints, seen, le);
    }
