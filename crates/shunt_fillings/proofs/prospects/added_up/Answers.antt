use mir.Syntax.{w64}
use mir.Val.{to_z}
use Rattle.std.proofs.Common.{◌≡◌, get_or, ap, arith}
use Rattle.std.proofs.lemmas.Int.{ints}
use Rattle.shunt_prices.specs.defs.Sums.{IsWithin}
use Rattle.shunt_fillings.specs.declared.prospects.Prospect.{Prospect}
use Rattle.shunt_fillings.proofs.prospects.added_up.Goals as goal
use Rattle.shunt_prices.proofs.Counts.{sum_more, wider_more}

pub prospects-preserved : goal.prospects-preserved
prospects-preserved c =
    let i = c.prospects.prospect-index in
    let item = c.prospect-item.result in
    let lt = c.prospects-test.true in
    let few = c.requires.few in
    let value : IsWithin 319999999999680 (get_or c.args.prospects.now i item).gain = c.requires.gains i item lt in
    let same : item.gain ≡ (get_or c.args.prospects.now i item).gain = ap (λ (p : Prospect). p.gain) c.prospect-item.is in
    let within = c.prospects.invariant.small in
    record {
      exact = sum_more (λ (p : Prospect). p.gain) c.args.prospects.now i item _ lt
          (omega (arith, ints, c.prospects.invariant.exact, same, value.low, value.high, within.low, within.high, few, lt));
      small = wider_more i 319999999999680 (to_z w64 c.prospects.total-bits) (get_or c.args.prospects.now i item).gain _
          (omega (arith, ints, same, value.low, value.high, within.low, within.high, few, lt)) value within;
    }
