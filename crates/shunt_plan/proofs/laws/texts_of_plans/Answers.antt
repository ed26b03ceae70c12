use Rattle.shunt_plan.proofs.RoundTrip.{records_back, text_back}
use Rattle.shunt_plan.proofs.Lengths.{plan_short}
use Rattle.shunt_plan.proofs.laws.texts_of_plans.Goals as goal

pub returns-clause-rows : goal.returns-clause-rows
returns-clause-rows c = records_back

pub returns-clause-again : goal.returns-clause-again
returns-clause-again c = text_back

pub returns-clause-short : goal.returns-clause-short
returns-clause-short c = plan_short
