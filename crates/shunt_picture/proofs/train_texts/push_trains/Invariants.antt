use Rattle.std.proofs.Common.{◌≡◌, ◌++◌, ◌+◌, ◌*◌, drop}
use Rattle.std.specs.Prelude.{slice_index_or}
use Rattle.shunt_picture.specs.defs.Words.{each_from}
use Rattle.shunt_picture.specs.defs.PictureTexts.{train_text}
use Rattle.shunt_picture.proofs.train_texts.push_trains.Given as goal

abbrev pub invariant-loop-i : goal.invariant-loop-i
invariant-loop-i l = l.text ++ each_from (λ entry t. train_text l.kinds l.from (l.top + 12 * slice_index_or l.rows entry 0) l.arrives t) l.i (drop l.i l.trains) ≡ l.fn.text
    ++ each_from (λ entry t. train_text l.kinds l.from (l.top + 12 * slice_index_or l.rows entry 0) l.arrives t) 0 l.trains
