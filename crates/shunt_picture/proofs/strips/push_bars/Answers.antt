use Rattle.std.proofs.Common.{◌∙◌}
use Rattle.shunt_picture.specs.defs.BarTexts.{bar_text}
use Rattle.shunt_picture.proofs.Drawn.{one_item}
use Rattle.shunt_picture.proofs.strips.push_bars.Goals as goal

pub loop-bar-preserved : goal.loop-bar-preserved
loop-bar-preserved c = one_item (bar_text c.args.from c.args.kinds.now c.args.lane.now) c.args.bars.now c.loop-bar.bar-index c.bar-item.result c.loop-bar.text c.push_bar.new.text
    c.loop-bar-test.true c.bar-item.is c.in_ok-push_bar.ensures ∙ c.loop-bar.invariant
