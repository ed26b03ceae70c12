use Rattle.shunt.proofs.Sound.{sheet_answers, ends_well}
use Rattle.shunt.proofs.laws.sheet_completes.Goals as goal

pub returns : goal.returns
returns c = λ s t p n. ends_well _ s t p _ (sheet_answers s t p n)
