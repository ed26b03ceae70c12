use Rattle.std.proofs.Common.{◌∙◌}
use Rattle.shunt_picture.specs.defs.LaneTexts.{level_text}
use Rattle.shunt_picture.proofs.strips.push_levels.Goals as goal
use Rattle.shunt_lists.proofs.Lists.{lines_more as one_more}

pub loop-level-preserved : goal.loop-level-preserved
loop-level-preserved c = one_more (level_text c.args.from c.args.lane.now) c.args.levels.now c.loop-level.level-index _ c.loop-level.text c.push_level.new.text
    c.loop-level-test.true c.in_ok-push_level.ensures ∙ c.loop-level.invariant
