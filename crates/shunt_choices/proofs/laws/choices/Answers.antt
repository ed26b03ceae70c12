use Rattle.shunt_choices.proofs.Given.{PlaceLaws}
use Rattle.shunt_choices.proofs.Offered.{choices_are, choices_rise, choices_once}
use Rattle.shunt_choices.proofs.AtPaths.{choices_at_are}
use Rattle.shunt_choices.proofs.laws.choices.Goals as goal

pub returns : goal.returns
returns c =
    let places : PlaceLaws = record { unit_in = c.places.ensures.unit_in; position_in = c.places.ensures.position_in } in
    record {
      members = λ night covered u k h lu. choices_are places night covered u k h lu;
      rise = λ night covered u h. choices_rise night covered u h;
      once = λ night covered u h. choices_once night covered u h;
      at_path = λ night blocks k h. choices_at_are places night blocks k h;
    }
