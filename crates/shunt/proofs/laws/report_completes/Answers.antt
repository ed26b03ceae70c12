use Rattle.shunt.proofs.Sound.{report_answers, ends_well}
use Rattle.shunt.proofs.laws.report_completes.Goals as goal

pub returns : goal.returns
returns c = λ s t p. ends_well _ s t p _ (report_answers s t p)
