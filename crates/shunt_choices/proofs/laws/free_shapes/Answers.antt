use Rattle.shunt_choices.proofs.Given.{PlaceLaws}
use Rattle.shunt_choices.proofs.Chosen.{shapes_are}
use Rattle.shunt_choices.proofs.Offered.{shapes_rise}
use Rattle.shunt_choices.proofs.laws.free_shapes.Goals as goal

pub returns : goal.returns
returns c =
    let places : PlaceLaws = record { unit_in = c.places.ensures.unit_in; position_in = c.places.ensures.position_in } in
    record {
      members = λ night covered u s h lu. shapes_are places night covered u s h lu;
      rise = λ night covered u h. shapes_rise night covered u h;
    }
