use Rattle.std.proofs.Common.{◌≡◌, sym, ◌∙◌}
use Rattle.shunt_blocks.specs.defs.Lists.{times_position}
use Rattle.shunt_ruin.proofs.Judged.{below_more}
use Rattle.shunt_ruin.proofs.judge.cover_positions.Goals as goal

pub loop-position-preserved : goal.loop-position-preserved
loop-position-preserved c = below_more (λ k. times_position c.args.instance.now c.args.blocks.now k ≡ 1) c.loop-position.position c.loop-position.invariant
    (sym c.times_position.ensures ∙ c.if-times_position-ne1.false)
