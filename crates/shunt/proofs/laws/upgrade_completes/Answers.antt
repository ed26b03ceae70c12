use Rattle.shunt.proofs.Always.{ends_well}
use Rattle.std.proofs.Common.{ap}
use Rattle.shunt_inputs.specs.defs.Replies.{Reply}
use Rattle.shunt.specs.defs.Calls.{Upgrade}
use Rattle.shunt.proofs.laws.upgrade_completes.Goals as goal

pub returns : goal.returns
returns c = λ s t n m. ends_well (Upgrade s t n m) (λ v r is. ap (λ (q : Reply). q.outcome) is)
