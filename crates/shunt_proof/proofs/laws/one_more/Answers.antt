use Rattle.std.proofs.Common.{[], ◌∷◌}
use Rattle.shunt_proof.proofs.Fronts.{node_last}
use Rattle.shunt_proof.proofs.LongerLists.{front_nodes, can_follow, last_fits, one_more, last_parent}
use Rattle.shunt_proof.proofs.Noted.{parent_in, last_path, last_duals, last_best, last_placed, last_lean}
use Rattle.shunt_proof.proofs.laws.one_more.Goals as goal

pub returns : goal.returns
returns c = record {
  exactly = λ night nodes n. (λ h. (front_nodes nodes (n ∷ []) night h, last_fits night nodes n h, can_follow night nodes n h), λ t. one_more night nodes n t.0 t.1 t.2);
  node = λ nodes n. node_last nodes n;
  parent = λ nodes n. last_parent nodes n;
  before = λ night nodes n h some. parent_in night nodes n h some;
  path = λ night start nodes n h some. last_path night nodes n h some start;
  duals = λ night nodes n h some. last_duals night nodes n h some;
  best = λ night start nodes n. last_best night start nodes n;
  placed = λ night start nodes n x path h some is up at through new. last_placed night start nodes n x path h some is up at through new;
  lean = λ night start nodes n bound h some is below. last_lean night start nodes n bound h some is below;
}
