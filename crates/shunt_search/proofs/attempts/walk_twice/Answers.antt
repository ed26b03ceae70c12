use Rattle.shunt_search.proofs.ToldNodes.{tells_then}
use Rattle.shunt_search.proofs.attempts.walk_twice.Goals as goal

pub is_done-enough-requires : goal.is_done-enough-requires
is_done-enough-requires g c = c.in_ok-attempt.ensures.search.small

pub returns-in_err-walk_again-clause-keeps : goal.returns-in_err-walk_again-clause-keeps
returns-in_err-walk_again-clause-keeps g c = g.R.Recorder.keeps_on _ _ _ c.attempt.ensures.keeps c.walk_again.ensures.keeps

pub returns-clause-tells : goal.returns-clause-tells
returns-clause-tells g c = tells_then _ _ _ c.in_ok-attempt.ensures.tells c.in_ok-walk_again.ensures.tells

pub returns-clause-keeps : goal.returns-clause-keeps
returns-clause-keeps g c = g.R.Recorder.keeps_on _ _ _ c.attempt.ensures.keeps c.walk_again.ensures.keeps

pub returns-clause-own : goal.returns-clause-own
returns-clause-own g c = λ night. (let a = c.attempt.ensures.own night in let b = c.walk_again.ensures.own night in (λ h. a.0 (b.0 h), λ h. b.1 (a.1 h)))
