use Rattle.shunt_moves.proofs.Edited.{agrees, edit_kept}
use Rattle.shunt_moves.proofs.Exchanges.{leads_to, leads_back}
use Rattle.shunt_moves.proofs.laws.edits.Goals as goal

pub returns-clause-kept : goal.returns-clause-kept
returns-clause-kept c = edit_kept

pub returns-clause-agree : goal.returns-clause-agree
returns-clause-agree c night s e h = agrees night s h e

pub returns-clause-leads : goal.returns-clause-leads
returns-clause-leads c = leads_to

pub returns-clause-back : goal.returns-clause-back
returns-clause-back c = leads_back
