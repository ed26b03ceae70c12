use Rattle.shunt_proof.specs.declared.records.Version.TheVariants.{Prices}
use Rattle.shunt_proof.proofs.Fronts.{node_front, nearest_front, parent_front, path_front, duals_front, best_front}
use Rattle.shunt_proof.proofs.LongerLists.{front_nodes, placed_front, lean_front, listed_more, right_more}
use Rattle.shunt_proof.proofs.laws.fronts.Goals as goal

pub returns : goal.returns
returns c = record {
  nodes = λ night nodes more h. front_nodes nodes more night h;
  node = λ nodes more k lt. node_front nodes more k lt;
  nearest = λ nodes more depth k le. nearest_front nodes more depth k le;
  parent = λ nodes more k lt. parent_front nodes more k lt;
  path = λ night start nodes more k lt. path_front nodes more night start k lt;
  duals = λ nodes more k lt. duals_front nodes more k lt;
  best = λ night start nodes more k le. best_front nodes more night start k le;
  placed = λ night start nodes more k lt. placed_front nodes more night start k lt;
  lean = λ night start nodes more k lt. lean_front nodes more night start k lt;
  listed = λ night start nodes more k x lt l. listed_more nodes more night start k x lt l;
  right = λ night start nodes more k L lt r. right_more nodes more night start Prices k L lt r;
}
