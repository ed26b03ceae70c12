use Rattle.shunt_resume.proofs.Goings.{was_feasible, cost_before}
use Rattle.shunt_resume.proofs.laws.next_plans_are_plans.Goals as goal

pub returns-clause-feasible : goal.returns-clause-feasible
returns-clause-feasible c = λ s t m blocks others f g plan is. was_feasible s t m blocks f g plan c.routes.ensures.open_at c.feasible_lists.ensures.apart others is

pub returns-clause-cost : goal.returns-clause-cost
returns-clause-cost c = λ s t m blocks others f g plan is. cost_before s t m blocks f g plan c.routes.ensures.open_at c.feasible_lists.ensures.apart others is
