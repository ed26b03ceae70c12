use Rattle.shunt.specs.defs.Calls.{Page}
use Rattle.shunt.proofs.Audits.{page_judges, ends_well}
use Rattle.shunt.proofs.laws.page_completes.Goals as goal

pub returns : goal.returns
returns c = λ s t p n. ends_well (Page s t p n) s t p (page_judges s t p n)
