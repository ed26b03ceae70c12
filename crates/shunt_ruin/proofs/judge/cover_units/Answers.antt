use Rattle.std.proofs.Common.{◌≡◌, sym, ◌∙◌}
use Rattle.shunt_blocks.specs.defs.Lists.{times_unit}
use Rattle.shunt_ruin.proofs.Judged.{below_more}
use Rattle.shunt_ruin.proofs.judge.cover_units.Goals as goal

pub loop-unit-preserved : goal.loop-unit-preserved
loop-unit-preserved c = below_more (λ k. times_unit c.args.instance.now c.args.blocks.now k ≡ 1) c.loop-unit.unit c.loop-unit.invariant
    (sym c.times_unit.ensures ∙ c.if-times_unit-ne1.false)
