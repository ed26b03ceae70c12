use Rattle.std.proofs.Common.{arith}
use Rattle.std.proofs.lemmas.Int.{ints}
use Rattle.shunt_ascent.proofs.Pushed.{one_more, each_more}
use Rattle.shunt_ascent.proofs.certificate_cases.alphas_of.Goals as goal

pub loop-u-preserved : goal.loop-u-preserved
loop-u-preserved c =
    let low = c.value_of.ensures.low in
    let high = c.value_of.ensures.high in
    record {
      size = one_more c.loop-u.values.items c.push.new.self.items _ c.loop-u.u c.in_ok-push.ensures.items c.loop-u.invariant.size;
      each = each_more c.loop-u.values.items c.push.new.self.items _ c.in_ok-push.ensures.items c.loop-u.invariant.each
          (record { low = omega (arith, ints, low); high = omega (arith, ints, high) });
    }
