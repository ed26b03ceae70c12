use Rattle.std.proofs.Common.{◌∙◌, ap, arith}
use Rattle.std.proofs.lemmas.List.{get_or_default}
use Rattle.shunt_timeline.proofs.Ids.{id_of, nowhere}
use Rattle.shunt_timeline.proofs.timelines.find.Goals as goal

pub returns-then-place-stays-clause-none : goal.returns-then-place-stays-clause-none
returns-then-place-stays-clause-none c = nowhere c.args.stays.now c.args.id c.place_of-place.result c.requires c.place_of-place.ensures.bound c.place_of-place.ensures.before
    c.place_of-place.ensures.after (λ d lt e. absurd (let p = c.if-place-stays.true in omega arith))

pub returns-then-stays-place-clause-none : goal.returns-then-stays-place-clause-none
returns-then-stays-place-clause-none c = nowhere c.args.stays.now c.args.id c.place_of-place.result c.requires c.place_of-place.ensures.bound c.place_of-place.ensures.before
    c.place_of-place.ensures.after (λ d lt e. c.if-stays-place.true (ap id_of (get_or_default c.args.stays.now c.place_of-place.result _ d lt) ∙ e))
