use Rattle.std.proofs.Common.{◌≡◌, ap, length, ◌∙◌, subst, sym}
use Rattle.shunt_instance.specs.defs.Matching.{unit_entries, position_entries}
use Rattle.shunt_blocks.specs.defs.Lists.{units_taken, positions_taken}
use Rattle.shunt_choices.specs.defs.Paths.{Masks, masks_of}
use Rattle.shunt_choices.proofs.Trails.{length_units, length_places}
use Rattle.shunt_planning.specs.defs.Planned.{Lacks}
use Rattle.shunt_planning.proofs.Sought.{MaskLaws, lacks_alike, units_alike, positions_alike}
use Rattle.shunt_planning.proofs.plans.lacking_beside.Goals as goal

pub lacking_rest-requires-clause-units : goal.lacking_rest-requires-clause-units
lacking_rest-requires-clause-units c = ap (λ (m : Masks). length m.units) (c.covered.ensures ∙ c.in_ok-path.ensures.of.covered)
    ∙ length_units c.args.instance.now c.in_ok-path.path.blocks

pub lacking_rest-requires-clause-places : goal.lacking_rest-requires-clause-places
lacking_rest-requires-clause-places c = ap (λ (m : Masks). length m.places) (c.covered.ensures ∙ c.in_ok-path.ensures.of.covered)
    ∙ length_places c.args.instance.now c.in_ok-path.path.blocks

pub returns : goal.returns
returns c =
    let night = c.args.instance.now in
    let pins = c.args.pins.now in
    let blocks = c.in_ok-path.path.blocks in
    let same = c.in_ok-path.ensures.same in
    let n = length (unit_entries night) in
    let m = length (position_entries night) in
    let laws : MaskLaws = record { matchings = c.masks_alike.ensures.matchings; shortages = c.masks_alike.ensures.shortages } in
    let masks : c.covered.result.now ≡ masks_of night blocks = c.covered.ensures ∙ c.in_ok-path.ensures.of.covered in
    let there : Lacks night (units_taken night blocks) (positions_taken night blocks) c.lacking_rest.result = subst
    (λ (k : Masks). Lacks night k.units k.places c.lacking_rest.result) masks c.lacking_rest.ensures in
    lacks_alike laws night (units_taken night blocks) (positions_taken night blocks) (units_taken night pins) (positions_taken night pins)
    (units_alike night pins blocks n same, positions_alike night pins blocks m same)
    (λ k lt. sym (units_alike night pins blocks n same k lt), λ k lt. sym (positions_alike night pins blocks m same k lt)) c.lacking_rest.result there
