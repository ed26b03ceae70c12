use Rattle.shunt_search.proofs.Kept.{kept}
use Rattle.shunt_search.proofs.conclusion.searches_kept.Goals as goal

pub returns : goal.returns
returns c = λ version night pins stock told now nodes number owned s h both many own. kept version night pins stock told now nodes number owned s h both many own
