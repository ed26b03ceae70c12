use Rattle.std.proofs.Common.{arith}
use Rattle.std.proofs.lemmas.Grind.{common_steps}
use Rattle.shunt_picture.specs.defs.Marks.{arrive_mark}
use Rattle.shunt_picture.proofs.Ranges.{pushed_next}
use Rattle.shunt_picture.proofs.marks.arrive_marks.Goals as goal

pub loop-k-preserved : goal.loop-k-preserved
loop-k-preserved c = record {
  exact = pushed_next (arrive_mark c.args.instance.now c.args.findings.now) c.loop-k.k c.loop-k.marks.items c.push.new.self.items c.in_ok-mark.mark c.in_ok-mark.ensures
      c.loop-k.invariant.exact c.in_ok-push.ensures.items;
  few = grind (arith, common_steps);
}
