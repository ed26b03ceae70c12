use Rattle.std.specs.Prelude.{map}
use Rattle.std.proofs.Common.{ap, ◌∙◌, arith}
use Rattle.std.proofs.lemmas.Int.{ints}
use Rattle.shunt_dual.specs.defs.Tables.{or_top}
use Rattle.shunt_dual.proofs.Shown.{filled_is, small_places, shown_over, shown_alike}
use Rattle.shunt_dual.proofs.assignment.least_shown.Goals as goal

pub least_places-requires : goal.least_places-requires
least_places-requires c =
    filled_is c.args.instance.now c.args.shares.now c.units-n.result c.deref.result.now c.requires.matching c.units-n.ensures.formed c.requires.shares c.units-n.ensures.exact
    (c.deref.ensures.value ∙ (c.in_ok-table.ensures ∙ ap (map or_top) c.entries.ensures))

pub narrowed-requires : goal.narrowed-requires
narrowed-requires c = small_places c.units-n.result _ _ c.in_ok-placed.ensures.duals.is_place c.units-n.ensures.few c.deref-2.ensures.value

pub returns : goal.returns
returns c =
    shown_alike c.args.instance.now c.args.shares.now c.in_ok-placed.placed.place.items _ c.in_ok-placed.placed.alpha.items _ c.in_ok-placed.placed.beta.items _ _ _
    (shown_over c.args.instance.now c.args.shares.now c.units-n.result c.deref.result.now c.in_ok-placed.placed.place.items c.in_ok-placed.placed.alpha.items
    c.in_ok-placed.placed.beta.items c.in_ok-placed.placed.total
    c.units-n.ensures.formed c.requires.shares c.requires.matching c.units-n.ensures.exact
    (c.deref.ensures.value ∙ (c.in_ok-table.ensures ∙ ap (map or_top) c.entries.ensures))
    (record { assigned = c.in_ok-placed.ensures.duals; is_sum = c.in_ok-placed.ensures.total; least = c.in_ok-placed.ensures.least; unfilled = c.in_ok-placed.ensures.unfilled }))
    (c.from_vec.ensures ∙ (c.in_ok-place.ensures ∙ c.deref-2.ensures.value))
    c.from_vec-2.ensures
    c.from_vec-3.ensures
    (omega (arith, ints, c.in_ok-placed.ensures.small))
