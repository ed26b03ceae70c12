use Rattle.shunt.proofs.Sound.{ends_well}
use Rattle.shunt.proofs.Resumed.{resume_answers}
use Rattle.shunt.proofs.resume_laws.resume_completes.Goals as goal

pub returns : goal.returns
returns c = λ s t p m n i. ends_well _ s t p _ (resume_answers s t p m n i)
