use Rattle.shunt_proof.proofs.Few.{CountLaws}
use Rattle.shunt_search.proofs.Walked.{passes_on, ends_right, keeps_start, keeps_within, is_next, in_stock, cases_hold, its_bound}
use Rattle.shunt_search.proofs.Arrived.{can, walk_branch, walk_whole}
use Rattle.shunt_search.proofs.walk_stack.walks_go_on.Goals as goal

pub returns : goal.returns
returns c =
    let laws : CountLaws = record {
      most = c.few_blocks.ensures.most;
      at_path = c.choices.ensures.at_path;
      grows = c.plans_grow.ensures.grows;
      once = c.plans_grow.ensures.once;
    } in
    record {
      branch = λ version night start stock floor nodes path left waiting t best low n place formed walk node below kind own there adds rise holds unfinished.
          walk_branch version night formed laws start stock floor nodes path left t best low walk n node.choice node.depth node.states node.is node.fits below kind place there own
          waiting adds rise holds unfinished;
      whole = λ version night start stock floor nodes path left t best now low lesser n formed walk node below kind less cost falls within covers.
          walk_whole version night formed laws start stock floor nodes path left t best low walk n node.choice node.depth node.states node.is node.fits below kind now lesser less
          cost falls within covers;
      follows = λ version night start stock floor nodes path left t best low n formed walk node below.
          can version night formed laws start stock floor nodes path left t best low walk n node.choice node.depth node.states node.is node.fits below;
      next = λ version night start stock floor nodes path left t best low walk. (
        keeps_start version night start stock floor nodes path left t best low walk,
        keeps_within version night start stock floor nodes path left t best low walk,
        is_next version night start stock floor nodes path left t best low walk,
      );
      hold = λ version night start stock floor nodes path left t best low walk. (
        in_stock version night start stock floor nodes path left t best low walk,
        cases_hold version night start stock floor nodes path left t best low walk c.bounds_rise_in_versions.ensures.hold,
        its_bound version night start stock floor nodes path left t best low walk,
      );
      closed = λ version night start stock floor nodes path waiting left best low now walk passes.
          passes_on version night start stock floor nodes path waiting left best low now walk passes;
      right = λ version night start stock floor nodes path waiting best low bound walk within left.
          ends_right version night start stock floor nodes path waiting best low bound walk within left;
    }
