use Rattle.std.proofs.Common.{◌∙◌, arith}
use Rattle.shunt_search.proofs.memory_search.find_by_prices.Goals as goal

pub returns-clause-version : goal.returns-clause-version
returns-clause-version g c = c.in_ok-walk.ensures.version ∙ c.in_ok-search.ensures.version

pub returns-clause-cheaper : goal.returns-clause-cheaper
returns-clause-cheaper g c =
    let walked = c.in_ok-walk.ensures.cheaper in
    let begun = c.in_ok-search.ensures.cheaper in
    omega (arith, walked, begun)

pub returns-clause-floor : goal.returns-clause-floor
returns-clause-floor g c = c.in_ok-walk.ensures.floor ∙ c.in_ok-search.ensures.floor
