use Rattle.shunt_choices.proofs.Given.{PlaceLaws}
use Rattle.shunt_search.proofs.WholePaths.{covers_trail}
use Rattle.shunt_search.proofs.wholes.whole_paths.Goals as goal

pub returns : goal.returns
returns c =
    let laws : PlaceLaws = record { unit_in = c.places.ensures.unit_in; position_in = c.places.ensures.position_in } in
    record {
      covers = λ night t of whole same. covers_trail laws night t of whole same;
      feasible = λ night t formed of each through whole same. c.feasible_lists.ensures.no_ids night t.blocks formed each (covers_trail laws night t of whole same) through;
    }
