use Rattle.shunt.specs.defs.Calls.{Draw}
use Rattle.shunt.proofs.Audits.{draw_judges, ends_well}
use Rattle.shunt.proofs.laws.draw_completes.Goals as goal

pub returns : goal.returns
returns c = λ s t p n. ends_well (Draw s t p n) s t p (draw_judges s t p n)
