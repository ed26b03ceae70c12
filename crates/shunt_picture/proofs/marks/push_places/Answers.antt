use Rattle.std.proofs.Common.{◌∙◌}
use Rattle.shunt_picture.specs.defs.Marks.{place_text}
use Rattle.shunt_picture.proofs.marks.push_places.Goals as goal
use Rattle.shunt_lists.proofs.Lists.{lines_more as one_more}

pub loop-place-preserved : goal.loop-place-preserved
loop-place-preserved c = one_more (place_text c.args.kind) c.args.places.now c.loop-place.place-index _ c.loop-place.text c.push_place.new.text c.loop-place-test.true
    c.in_ok-push_place.ensures ∙ c.loop-place.invariant
