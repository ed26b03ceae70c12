use Rattle.shunt_resume.proofs.Goings.{formed_on}
use Rattle.shunt_resume.proofs.Timetables.{few_placed}
use Rattle.shunt_resume.proofs.laws.resumed_timetables.Goals as goal

pub returns-clause-formed : goal.returns-clause-formed
returns-clause-formed c = λ s t m blocks f g plan. formed_on s t m blocks f g plan c.routes.ensures.open_at c.feasible_lists.ensures.apart

pub returns-clause-few : goal.returns-clause-few
returns-clause-few c = few_placed
