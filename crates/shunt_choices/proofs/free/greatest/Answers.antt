use Rattle.std.proofs.Common.{arith}
use Rattle.shunt_choices.proofs.Runs.{bound_more}
use Rattle.shunt_choices.proofs.free.greatest.Goals.{then-n-most, else-n-most}
use Rattle.shunt_choices.proofs.free.greatest.Goals as goal

pub loop-n-preserved : goal.loop-n-preserved
loop-n-preserved c = elim c.if-n-most.branch [
  | then-n-most w ↦ record {
    bound = bound_more c.args.numbers.now c.loop-n.n-index c.loop-n.most c.if-n-most.most (omega (arith, w.if-n-most.true, w.most-is))
        (omega (arith, w.most-is)) c.loop-n.invariant.bound;
    least = λ most h. omega (arith, h c.loop-n.n-index, w.most-is);
  }
  | else-n-most w ↦ record {
    bound = bound_more c.args.numbers.now c.loop-n.n-index c.loop-n.most c.if-n-most.most (omega (arith, w.most-is))
        (omega (arith, w.if-n-most.false, w.most-is)) c.loop-n.invariant.bound;
    least = λ most h. omega (arith, c.loop-n.invariant.least most h, w.most-is);
  }
]
