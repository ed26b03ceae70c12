use Rattle.shunt.proofs.Sound.{delay_answers, ends_well}
use Rattle.shunt.proofs.laws.delay_completes.Goals as goal

pub returns : goal.returns
returns c = λ s t p. ends_well _ s t p _ (delay_answers s t p)
