use Rattle.shunt_instance.specs.defs.Matching.{unit_entries, position_entries}
use Rattle.shunt_blocks.specs.defs.Lists.{units_taken, positions_taken}
use Rattle.shunt_choices.proofs.Given.{PlaceLaws}
use Rattle.shunt_search.proofs.KeptRest.{rest_matched}
use Rattle.shunt_search.proofs.laws.kept_matchings.Goals as goal

pub returns-clause-some : goal.returns-clause-some
returns-clause-some c =
    let laws : PlaceLaws = record { unit_in = c.places.ensures.unit_in; position_in = c.places.ensures.position_in } in
    λ night pins blocks feasible keeps. (_, rest_matched laws night pins blocks feasible keeps)

pub returns-clause-no_shortage : goal.returns-clause-no_shortage
returns-clause-no_shortage c =
    let laws : PlaceLaws = record { unit_in = c.places.ensures.unit_in; position_in = c.places.ensures.position_in } in
    λ night pins blocks s feasible keeps short.
    c.one_shortage.ensures.never (unit_entries night) (position_entries night) (units_taken night pins) (positions_taken night pins) s short _
    (rest_matched laws night pins blocks feasible keeps)
