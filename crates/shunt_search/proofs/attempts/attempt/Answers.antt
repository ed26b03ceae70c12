use Rattle.shunt_search.proofs.ToldNodes.{tells_then}
use Rattle.shunt_search.proofs.attempts.attempt.Goals as goal

pub returns-in_err-walk_on-clause-keeps : goal.returns-in_err-walk_on-clause-keeps
returns-in_err-walk_on-clause-keeps g c = g.R.Recorder.keeps_on _ _ _ c.begin.ensures.keeps c.walk_on.ensures.keeps

pub returns-clause-tells : goal.returns-clause-tells
returns-clause-tells g c = tells_then _ _ _ c.in_ok-begin.ensures.tells c.in_ok-walk_on.ensures.tells

pub returns-clause-keeps : goal.returns-clause-keeps
returns-clause-keeps g c = g.R.Recorder.keeps_on _ _ _ c.begin.ensures.keeps c.walk_on.ensures.keeps
