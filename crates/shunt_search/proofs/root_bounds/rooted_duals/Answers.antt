use Rattle.shunt_search.proofs.Rooted.{RootLaws, rooted}
use Rattle.shunt_search.proofs.root_bounds.rooted_duals.Goals as goal

pub returns : goal.returns
returns c =
    let laws : RootLaws = record { there = c.bounds.ensures.there; rise = c.bounds.ensures.rise; one_case = c.weak_duality.ensures.one_case } in
    λ night path d total are apart hold le assignment. rooted laws night path d total are apart hold le assignment
