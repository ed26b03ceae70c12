use Rattle.shunt_proof.proofs.Locally.{right_less, root_exactly}
use Rattle.shunt_proof.proofs.LongerLists.{right_more, lean_more}
use Rattle.shunt_proof.proofs.Noted.{last_leans}
use Rattle.shunt_proof.proofs.version_laws.trees_by_version.Goals as goal

pub returns : goal.returns
returns c = record {
  exactly = λ version night start nodes L h some. root_exactly version night start nodes h L some;
  falls = λ version night start nodes k L M le r. right_less version night start nodes k L M le r;
  stays = λ version night start nodes more k L lt r. right_more nodes more night start version k L lt r;
  lean = λ version night start nodes more k lt. lean_more nodes more night start version k lt;
  last_lean = λ version night start nodes n bound h some is below. last_leans version night start nodes n bound h some is below;
}
