use Rattle.std.proofs.Common.{◌∙◌}
use Rattle.shunt_picture.specs.defs.Words.{unit_line}
use Rattle.shunt_picture.proofs.Drawn.{one_number}
use Rattle.shunt_picture.proofs.words.push_unit_lines.Goals as goal

pub loop-i-preserved : goal.loop-i-preserved
loop-i-preserved c = one_number (unit_line c.args.kinds.now c.args.told.now) c.args.units.now c.loop-i.i _ c.loop-i.text c.push_unit_line.new.text c.loop-i-test.true
    c.in_ok-push_unit_line.ensures ∙ c.loop-i.invariant
