use Rattle.std.proofs.Common.{◌∙◌}
use Rattle.shunt_picture.specs.defs.PictureTexts.{number_text}
use Rattle.shunt_picture.proofs.train_texts.push_numbers.Goals as goal
use Rattle.shunt_lists.proofs.Lists.{lines_more as one_more}

pub loop-place-preserved : goal.loop-place-preserved
loop-place-preserved c = one_more number_text c.args.places.now c.loop-place.place-index _ c.loop-place.text c.push_number.new.text c.loop-place-test.true
    c.in_ok-push_number.ensures ∙ c.loop-place.invariant
