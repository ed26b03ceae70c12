use Rattle.shunt_choices.proofs.Given.{PlaceLaws}
use Rattle.shunt_search.proofs.Carried.{CarryLaws, sums_carried, bounds_carried}
use Rattle.shunt_search.proofs.root_bounds.carried_cases.Goals as goal

pub returns : goal.returns
returns c =
    let places : PlaceLaws = record { unit_in = c.places.ensures.unit_in; position_in = c.places.ensures.position_in } in
    let laws : CarryLaws = record {
      places = places;
      part = c.ids_do_not_matter.ensures.placed_part;
      hold = c.longer_paths.ensures.hold;
      sum = c.bounds_rise.ensures.sum;
      bound = c.bounds_rise.ensures.bound;
      of_cases = c.bounds.ensures.of_cases;
      one_of_cases = c.bounds.ensures.one_of_cases;
    } in
    record {
      sum = λ night path cases k i fits apart through hold lt. sums_carried laws night i cases k lt path fits apart through hold;
      bound = λ night front rest cases x y i some fits apart through hold now then. bounds_carried laws night i cases some rest front fits apart through hold x y now then;
    }
