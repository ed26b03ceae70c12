use Rattle.std.proofs.Common.{◌∙◌, ◌+◌, ◌*◌}
use Rattle.std.specs.Prelude.{slice_index_or}
use Rattle.shunt_picture.specs.defs.PictureTexts.{train_text}
use Rattle.shunt_picture.proofs.Drawn.{one_entry}
use Rattle.shunt_picture.proofs.train_texts.push_trains.Goals as goal

pub loop-i-preserved : goal.loop-i-preserved
loop-i-preserved c = one_entry (λ entry t. train_text c.args.kinds.now c.args.from (c.args.top + 12 * slice_index_or c.args.rows.now entry 0) c.args.arrives t) c.args.trains.now
    c.loop-i.i c.index-trains-i.result _ c.loop-i.text c.push_in_row.new.text c.loop-i-test.true c.index-trains-i.is c.in_ok-push_in_row.ensures ∙ c.loop-i.invariant
