use Rattle.shunt.proofs.Exactly.{decides, has_reply, completes}
use Rattle.shunt.proofs.laws.statuses_are_of_replies.Goals as goal

pub returns-clause-there : goal.returns-clause-there
returns-clause-there c = decides

pub returns-clause-only : goal.returns-clause-only
returns-clause-only c = has_reply

pub returns-clause-completes : goal.returns-clause-completes
returns-clause-completes c = completes
