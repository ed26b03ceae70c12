use mir.Syntax.{w64}
use mir.Val.{to_z}
use Rattle.std.proofs.Common.{get_or, arith}
use Rattle.std.proofs.lemmas.Int.{ints}
use Rattle.shunt_prices.specs.defs.Sums.{IsWithin}
use Rattle.shunt_recount.specs.declared.counts.StackCount.{StackCount}
use Rattle.shunt_recount.proofs.recounts.added_up.Goals as goal
use Rattle.shunt_prices.proofs.Counts.{sum_more as sum_next, wider_more as wider_next}

pub loop-k-preserved : goal.loop-k-preserved
loop-k-preserved c =
    let d = c.index-counts-k.result in
    let k = c.loop-k.k in
    let lt = c.loop-k-test.true in
    let few = c.requires.few in
    let value : IsWithin 319999999999680 (get_or c.args.counts.now k d).gain = c.requires.small k d (omega (arith, lt)) in
    let within = c.loop-k.invariant.small in
    record {
      exact = sum_next (λ (x : StackCount). x.gain) c.args.counts.now k d _ (omega (arith, lt))
          (omega (arith, ints, c.loop-k.invariant.exact, c.loop-k.total-is, value.low, value.high, within.low, within.high, few, lt));
      small = wider_next k 319999999999680 (to_z w64 c.loop-k.total-bits) (get_or c.args.counts.now k d).gain _
          (omega (arith, ints, c.loop-k.total-is, value.low, value.high, within.low, within.high, few, lt)) value within;
    }
