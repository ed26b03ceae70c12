use Rattle.std.proofs.Common.{◌+◌, ◌∙◌, ap}
use Rattle.shunt_moves.proofs.Points.{raise_next}
use Rattle.shunt_moves.proofs.cover.Cover.raise.Goals as goal

pub loop-k-preserved : goal.loop-k-preserved
loop-k-preserved c = record {
  total = c.put.ensures.total ∙ c.loop-k.invariant.total;
  each = raise_next c.args.self.now.times c.loop-k.self.times c.put.new.self.times c.args.from c.loop-k.k c.args.self.now.total c.put.ensures.others c.loop-k.invariant.each
      (c.put.ensures.one ∙ ap (λ n. n + 1) c.times-times.ensures);
}
