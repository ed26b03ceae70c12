use Rattle.shunt_compare.proofs.Same.{PlaceLaws, exactly}
use Rattle.shunt_compare.proofs.laws.same_plans.Goals as goal

pub returns : goal.returns
returns c = λ night was now comparison instance before after told.
    let laws : PlaceLaws = record { position = c.places.ensures.position; unit_in = c.places.ensures.unit_in } in
    exactly laws night was now before after comparison told
