use Rattle.shunt_sheet.proofs.Plans.{BlockLaws, orders_formed, orders_read, plan_followed}
use Rattle.shunt_sheet.proofs.laws.sheets_of_plans.Goals as goal

laws : (c : goal.After-feasible_lists) → BlockLaws
laws c = record { stays = c.stays_of_blocks.ensures.stays; in_range = c.stays_of_blocks.ensures.in_range; from = c.stays_of_blocks.ensures.from; unit = c.places.ensures.unit }

pub returns-clause-formed : goal.returns-clause-formed
returns-clause-formed c = orders_formed (laws c)

pub returns-clause-again : goal.returns-clause-again
returns-clause-again c = λ night blocks is feasible. orders_read (laws c) night blocks is (c.feasible_lists.ensures.in_range night blocks is feasible)

pub returns-clause-followed : goal.returns-clause-followed
returns-clause-followed c = λ night blocks is feasible. plan_followed (laws c) night blocks is (c.feasible_lists.ensures.in_range night blocks is feasible) feasible.through
