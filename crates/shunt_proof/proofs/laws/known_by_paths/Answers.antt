use Rattle.shunt_proof.proofs.Few.{CountLaws, one_path}
use Rattle.shunt_proof.proofs.Noted.{new_path, known_listed}
use Rattle.shunt_proof.proofs.laws.known_by_paths.Goals as goal

pub returns : goal.returns
returns c =
    let laws : CountLaws = record {
      most = c.few_blocks.ensures.most;
      at_path = c.choices.ensures.at_path;
      grows = c.plans_grow.ensures.grows;
      once = c.plans_grow.ensures.once;
    } in
    record {
      one = λ night start nodes j k i h all lj lk same. one_path laws night i start nodes h all j k lj lk same;
      listed = λ night start nodes k j x i h all lk lj same. known_listed laws night i start nodes h all k j x lk lj same;
      placed = λ night start nodes k x h some lt is there through new. new_path night start nodes k x h some lt is there through new;
    }
