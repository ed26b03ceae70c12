use Rattle.shunt_main.proofs.run_here.Goals as goal

pub returns-clause-ends : goal.returns-clause-ends
returns-clause-ends c = λ call spells before after known. (c.run.result, c.to_number.ensures, c.run.ensures.ends call spells before after known)
