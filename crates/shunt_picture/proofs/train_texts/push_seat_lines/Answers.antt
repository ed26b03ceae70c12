use Rattle.std.proofs.Common.{◌∙◌}
use Rattle.shunt_picture.specs.defs.PictureTexts.{seat_line}
use Rattle.shunt_picture.proofs.Drawn.{one_number}
use Rattle.shunt_picture.proofs.train_texts.push_seat_lines.Goals as goal

pub loop-i-preserved : goal.loop-i-preserved
loop-i-preserved c = one_number (seat_line c.args.kinds.now) c.args.seats.now c.loop-i.i _ c.loop-i.text c.push_seat_line.new.text c.loop-i-test.true c.in_ok-push_seat_line.ensures
    ∙ c.loop-i.invariant
