use Rattle.shunt_proof.proofs.Depths.{child_later}
use Rattle.shunt_proof.proofs.Children.{is_child, child_between}
use Rattle.shunt_proof.proofs.laws.children.Goals as goal

pub returns : goal.returns
returns c = record {
  are = λ night nodes k j h lt there depth deeper. is_child night nodes h k j lt there depth deeper;
  later = λ night nodes k j h child. child_later night nodes h k j child;
  between = λ night nodes k j i h child low high. child_between night nodes h k j i child low high;
}
