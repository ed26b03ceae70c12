use Rattle.shunt_search.proofs.ToldNodes.{tells_then}
use Rattle.shunt_search.proofs.Restarted.{done_at}
use Rattle.shunt_search.proofs.attempts.walk_whole.Goals as goal

pub is_done-done-requires : goal.is_done-done-requires
is_done-done-requires g c = c.in_ok-walk_twice.ensures.search.small

pub returns-then-done-clause-done : goal.returns-then-done-clause-done
returns-then-done-clause-done g c =
    let h = c.in_ok-walk_twice.ensures in
    done_at h.search.counted h.most h.done (c.is_done-done.ensures c.if-done.true)

pub returns-in_err-walk_plainly-clause-keeps : goal.returns-in_err-walk_plainly-clause-keeps
returns-in_err-walk_plainly-clause-keeps g c = g.R.Recorder.keeps_on _ _ _ c.walk_twice.ensures.keeps c.walk_plainly.ensures.keeps

pub returns-clause-tells : goal.returns-clause-tells
returns-clause-tells g c = tells_then _ _ _ c.in_ok-walk_twice.ensures.tells c.in_ok-walk_plainly.ensures.tells

pub returns-clause-keeps : goal.returns-clause-keeps
returns-clause-keeps g c = g.R.Recorder.keeps_on _ _ _ c.walk_twice.ensures.keeps c.walk_plainly.ensures.keeps

pub returns-clause-own : goal.returns-clause-own
returns-clause-own g c = λ night. (let a = c.walk_twice.ensures.own night in let b = c.walk_plainly.ensures.own night in (λ h. a.0 (b.0 h), λ h. b.1 (a.1 h)))
