use Rattle.std.proofs.Common.{◌≡◌, ◌++◌, drop}
use Rattle.shunt_picture.specs.defs.Words.{each_from}
use Rattle.shunt_picture.specs.defs.PictureTexts.{seat_line}
use Rattle.shunt_picture.proofs.train_texts.push_seat_lines.Given as goal

abbrev pub invariant-loop-i : goal.invariant-loop-i
invariant-loop-i l = l.text ++ each_from (seat_line l.kinds) l.i (drop l.i l.seats) ≡ l.fn.text ++ each_from (seat_line l.kinds) 0 l.seats
