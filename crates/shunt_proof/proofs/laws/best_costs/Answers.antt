use Rattle.shunt_proof.proofs.Bests.{best_falls, best_low, best_at_whole, best_is}
use Rattle.shunt_proof.proofs.laws.best_costs.Goals as goal

pub returns : goal.returns
returns c = record {
  falls = λ night start nodes k m. best_falls night start nodes k m;
  opening = λ night start nodes k. best_low night start nodes k;
  whole = λ night start nodes j k lt e. best_at_whole night start nodes j k lt e;
  is = λ night start nodes k. best_is night start nodes k;
}
