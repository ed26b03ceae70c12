use Rattle.shunt_proof.proofs.Few.{CountLaws}
use Rattle.shunt_search.specs.defs.WalkStates.{cases_in}
use Rattle.shunt_search.proofs.Passed.{steady_closed}
use Rattle.shunt_search.proofs.Steadied.{steady_root, steady_branch, steady_whole, steady_cost, opens_floor}
use Rattle.shunt_search.proofs.Fronted.{left_above, low_above, fronts_right, given}
use Rattle.shunt_search.proofs.steadiness.walks_stay_steady.Goals as goal

pub returns : goal.returns
returns c =
    let laws : CountLaws = record {
      most = c.few_blocks.ensures.most;
      at_path = c.choices.ensures.at_path;
      grows = c.plans_grow.ensures.grows;
      once = c.plans_grow.ensures.once;
    } in
    let one = c.bounds_by_version.ensures.one_step in
    record {
      root = λ version night start n path waiting best low is. steady_root version night start n path waiting best low is;
      branch = λ version night start stock floor nodes path left waiting t best low n place formed walk steady node below kind own there adds rise holds unfinished.
          steady_branch version night formed laws start stock floor nodes path left t best low walk steady n node.choice node.depth node.states node.is node.fits below kind place
          there own waiting adds rise
          (opens_floor version night start stock floor nodes path left t best low walk (cases_in stock place) rise) holds unfinished;
      whole = λ version night start stock floor nodes path left t best now low lesser n formed walk steady node below kind less within which.
          steady_whole version night formed laws start stock floor nodes path left t best low walk steady n node.choice node.depth node.states node.is node.fits below kind now
          lesser less within which;
      closed = λ version night start stock floor nodes path waiting left best low now walk steady passes.
          steady_closed version night start stock floor nodes path waiting left best low now walk steady passes;
      left = λ version night start stock floor nodes path waiting best low bound walk steady right le. (
        low_above one version night start nodes walk.formed bound right stock floor path waiting best low walk steady le,
        left_above one version night start nodes walk.formed bound right stock floor path waiting best low walk,
      );
      fronts = λ version night start stock floor nodes path waiting best m low least bound formed walk steady right cheap some front.
          fronts_right laws one version night formed start best least bound cheap nodes m some walk.some
          (given c.best_costs.ensures.whole version night start stock floor nodes path waiting best low walk steady least right) front;
      costs = λ version night start nodes best now le keep. steady_cost version night start nodes best now le keep;
    }
