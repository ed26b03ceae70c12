use Rattle.shunt_search.proofs.Lowest.{FloorLaws, cost}
use Rattle.shunt_search.proofs.floors.floors.Goals as goal

pub returns : goal.returns
returns c =
    let laws : FloorLaws = record {
      keeps = c.starts.ensures.keeps;
      begins = c.starts.ensures.partial;
      dual = c.bounds_rise_in_versions.ensures.plans;
    } in
    λ version night pins start cases floor plan i usable begins are hold reach feasible keeps.
    cost laws version night pins start cases floor plan i usable begins are hold reach feasible keeps
