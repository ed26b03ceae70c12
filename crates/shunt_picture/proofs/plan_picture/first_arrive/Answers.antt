use Rattle.std.proofs.Common.{◌∙◌, ap, arith}
use Rattle.shunt_picture.specs.defs.Pictures.{earlier}
use Rattle.shunt_picture.proofs.Hours.{moves_more}
use Rattle.shunt_picture.proofs.plan_picture.first_arrive.Goals as goal

pub loop-k-preserved : goal.loop-k-preserved
loop-k-preserved c =
    let old = c.loop-k.invariant in
    let small = old.small in
    let lt = c.loop-k-test.true in
    let end = c.arrivals-k-end.ensures.exact in
    let less = c.earlier-first.ensures.less in
    record {
      exact = moves_more c.args.instance.now.arrive c.loop-k.k c.loop-k.first _ (omega (arith, lt, end)) old.exact
          (c.earlier-first.ensures.exact ∙ ap (earlier c.loop-k.first) c.arrive.ensures.exact);
      small = omega (arith, small, less);
    }
