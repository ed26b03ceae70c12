use mir.Syntax.{w64}
use mir.Val.{to_z}
use Rattle.std.specs.Prelude.{pos}
use Rattle.std.proofs.Common.{◌+◌, ℕ, get_or, arith}
use Rattle.std.proofs.lemmas.Int.{ints}
use Rattle.shunt_prices.specs.defs.Limits.{IsValue}
use Rattle.shunt_recount.proofs.prices.run_sum.Goals as goal
use Rattle.shunt_prices.proofs.Counts.{one_more, within_more}

pub loop-k-preserved : goal.loop-k-preserved
loop-k-preserved c =
    let value : IsValue (get_or c.args.values.now (c.args.from + c.loop-k.k) (pos 0)) = c.requires.values (c.args.from + c.loop-k.k) (pos 0) (omega arith) in
    let within = c.loop-k.invariant.small in
    record {
      exact = one_more c.loop-k.k (λ (k : ℕ). get_or c.args.values.now (c.args.from + k) (pos 0)) _
          (omega (arith, ints, c.loop-k.invariant.exact, c.loop-k.total-is, value.low, value.high, within.low, within.high));
      small = within_more c.loop-k.k (to_z w64 c.loop-k.total-bits) (get_or c.args.values.now (c.args.from + c.loop-k.k) (pos 0)) _
          (omega (arith, ints, c.loop-k.total-is, value.low, value.high, within.low, within.high)) value within;
    }
