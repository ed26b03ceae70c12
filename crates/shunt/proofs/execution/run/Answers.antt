use Rattle.std.proofs.Common.{ap}
use Rattle.shunt.specs.defs.Calls.{texts}
use Rattle.shunt.proofs.Ends.{ends_of, heard_by}
use Rattle.shunt.proofs.execution.run.Goals as goal

pub returns-in-Some-clause-ends : goal.returns-in-Some-clause-ends
returns-in-Some-clause-ends g c = λ d spells before after are. ends_of _ _ _ d _ _ _ (ap texts c.deref.ensures.value) c.in-Some.ensures.some
    (c.carry_out.ensures.ends before after are) spells

pub returns-in-Some-clause-heard : goal.returns-in-Some-clause-heard
returns-in-Some-clause-heard g c = λ d spells. heard_by _ _ _ d _ _ (ap texts c.deref.ensures.value) c.in-Some.ensures.some c.carry_out.ensures.heard spells
