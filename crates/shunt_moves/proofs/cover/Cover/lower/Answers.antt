use Rattle.std.proofs.Common.{◌+◌, ◌∙◌, arith}
use Rattle.shunt_moves.specs.defs.Kept.{at}
use Rattle.shunt_moves.proofs.Points.{lower_next, some_now, one_less}
use Rattle.shunt_moves.proofs.cover.Cover.lower.Goals as goal

pub loop-k-preserved : goal.loop-k-preserved
loop-k-preserved c = record {
  total = c.put.ensures.total ∙ c.loop-k.invariant.total;
  each = lower_next c.args.self.now.times c.loop-k.self.times c.put.new.self.times c.args.from c.loop-k.k c.args.self.now.total c.put.ensures.others c.loop-k.invariant.each
      (one_less (at c.put.new.self.times (c.args.from + c.loop-k.k)) (at c.loop-k.self.times (c.args.from + c.loop-k.k)) c.times-times.result
      (some_now c.args.self.now.times c.loop-k.self.times c.args.from c.loop-k.k c.args.n c.args.self.now.total c.loop-k.invariant.each c.requires.some c.requires.within
      c.loop-k-test.true) c.put.ensures.one c.times-times.ensures);
}

pub overflow_sub-times : goal.overflow_sub-times
overflow_sub-times c = let some = some_now c.args.self.now.times c.loop-k.self.times c.args.from c.loop-k.k c.args.n c.args.self.now.total c.loop-k.invariant.each c.requires.some
    c.requires.within c.loop-k-test.true in omega (arith, some, c.times-times.ensures)
