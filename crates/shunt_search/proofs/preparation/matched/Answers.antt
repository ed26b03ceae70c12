use Rattle.std.proofs.Common.{List, Bool, length, ap, ◌∙◌}
use Rattle.shunt_choices.specs.defs.Paths.{Masks}
use Rattle.shunt_choices.proofs.Trails.{length_units, length_places}
use Rattle.shunt_search.proofs.preparation.matched.Goals as goal

pub first_fit_rest-requires-clause-units : goal.first_fit_rest-requires-clause-units
first_fit_rest-requires-clause-units c =
    ap (λ (l : List Bool). length l) c.units.ensures ∙ ap (λ (m : Masks). length m.units) (c.covered.ensures ∙ c.requires.covered)
    ∙ length_units c.args.instance.now c.args.path.now.blocks

pub first_fit_rest-requires-clause-places : goal.first_fit_rest-requires-clause-places
first_fit_rest-requires-clause-places c =
    ap (λ (l : List Bool). length l) c.places.ensures ∙ ap (λ (m : Masks). length m.places) (c.covered-2.ensures ∙ c.requires.covered)
    ∙ length_places c.args.instance.now c.args.path.now.blocks
