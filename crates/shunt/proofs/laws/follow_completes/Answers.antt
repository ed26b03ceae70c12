use Rattle.shunt.specs.defs.Calls.{Follow}
use Rattle.shunt_dispatch.specs.defs.Followed.{GoesThrough}
use Rattle.shunt.proofs.Either.{ends_well}
use Rattle.shunt.proofs.Gone.{follow_parts}
use Rattle.shunt.proofs.laws.follow_completes.Goals as goal

pub returns : goal.returns
returns c = λ s n. ends_well (Follow s n) GoesThrough (λ files v r ok. follow_parts v r)
