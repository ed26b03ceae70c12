use Rattle.shunt_instance.specs.defs.Instance.{night_of}
use Rattle.shunt_resume.proofs.Goings.{feasible_on, cost_on, keeps_gone, usable_on}
use Rattle.shunt_resume.proofs.laws.plans_go_on.Goals as goal

pub returns-clause-feasible : goal.returns-clause-feasible
returns-clause-feasible c = λ s t m blocks f g plan. feasible_on s t m blocks f g plan c.routes.ensures.open_at c.feasible_lists.ensures.apart

pub returns-clause-cost : goal.returns-clause-cost
returns-clause-cost c = λ s t m blocks f g plan. cost_on s t m blocks f g plan c.routes.ensures.open_at c.feasible_lists.ensures.apart

pub returns-clause-keeps : goal.returns-clause-keeps
returns-clause-keeps c = λ s t m blocks. keeps_gone (night_of s t) m blocks

pub returns-clause-usable : goal.returns-clause-usable
returns-clause-usable c = λ s t m blocks f g plan. usable_on s t m blocks f g plan c.routes.ensures.open_at c.feasible_lists.ensures.apart c.ids_do_not_matter.ensures.part
    c.feasible_lists.ensures.in_range c.stays_of_blocks.ensures.in_range
