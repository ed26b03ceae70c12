use Rattle.shunt_resume.proofs.AsItCame.{leave_on, all_on}
use Rattle.shunt_resume.proofs.laws.next_plans_leave_what_has_come.Goals as goal

pub returns-clause-leave : goal.returns-clause-leave
returns-clause-leave c = λ s t m blocks others f g plan is. leave_on s t m blocks f g plan c.routes.ensures.open_at c.feasible_lists.ensures.apart others is

pub returns-clause-all : goal.returns-clause-all
returns-clause-all c = λ s t m blocks others f g plan is leave. all_on s t m blocks f g plan c.routes.ensures.open_at c.feasible_lists.ensures.apart others is leave
