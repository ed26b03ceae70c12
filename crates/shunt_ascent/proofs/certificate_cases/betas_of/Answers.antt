use Rattle.std.proofs.Common.{arith}
use Rattle.std.proofs.lemmas.Int.{ints}
use Rattle.shunt_ascent.proofs.Pushed.{one_more, each_more}
use Rattle.shunt_ascent.proofs.certificate_cases.betas_of.Goals as goal

pub loop-v-preserved : goal.loop-v-preserved
loop-v-preserved c =
    let low = c.value_of.ensures.low in
    let high = c.value_of.ensures.high in
    record {
      size = one_more c.loop-v.values.items c.push.new.self.items _ c.loop-v.v c.in_ok-push.ensures.items c.loop-v.invariant.size;
      each = each_more c.loop-v.values.items c.push.new.self.items _ c.in_ok-push.ensures.items c.loop-v.invariant.each
          (record { low = omega (arith, ints, low); high = omega (arith, ints, high) });
    }
