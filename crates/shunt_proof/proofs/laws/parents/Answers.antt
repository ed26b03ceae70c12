use Rattle.shunt_proof.proofs.Depths.{found, parent_found, its_child, child_path, root_path, child_duals, root_duals, cases_there, child_choice}
use Rattle.shunt_proof.proofs.Ancestors.{root_only, chain_up, path_size, front_path}
use Rattle.shunt_proof.proofs.laws.parents.Goals as goal

pub returns : goal.returns
returns c = record {
  root = λ night nodes k h lt e. root_only night nodes h k lt e;
  above = λ night nodes k depth h lt low. let f = found night nodes h k lt depth low in (f.before, f.depth, f.branch);
  parent = λ night nodes k h some lt. let f = parent_found night nodes h k some lt in (f.before, (its_child night nodes h k some lt).depth, f.branch);
  chain = λ night nodes k depth h lt low. chain_up night nodes h depth k lt low;
  choice = λ night nodes k h some lt. child_choice night nodes h k some lt;
  root_path = λ night start nodes h some. root_path night nodes h start some;
  path = λ night start nodes k h some lt. child_path night nodes h start k some lt;
  size = λ night start nodes k h lt. path_size night nodes h start k lt;
  front = λ night start nodes k depth h lt le. front_path night nodes h start depth k lt le;
  root_duals = λ night nodes h some. root_duals night nodes h some;
  duals = λ night nodes k h some lt. child_duals night nodes h k some lt;
  cases = λ night nodes k h lt other. cases_there night nodes h k lt other;
}
