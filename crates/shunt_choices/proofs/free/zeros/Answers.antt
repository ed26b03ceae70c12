use Rattle.shunt_choices.proofs.free.zeros.Goals as goal
use Rattle.shunt_lists.proofs.Numbers.{zero_at}

pub returns : goal.returns
returns c = λ v. zero_at 160 v
