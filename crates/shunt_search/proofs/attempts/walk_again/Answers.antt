use Rattle.std.proofs.Common.{◌≡◌, [], ap, ◌∙◌, arith}
use Rattle.shunt_search.specs.declared.known.KnownPlan.{KnownPlan}
use Rattle.shunt_search.specs.defs.Judges.{version_of}
use Rattle.shunt_search.proofs.ToldNodes.{tells_both, tells_then}
use Rattle.shunt_search.proofs.Restarted.{told_none}
use Rattle.shunt_search.proofs.attempts.walk_again.Goals as goal

pub start_again-requires-clause-usable : goal.start_again-requires-clause-usable
start_again-requires-clause-usable g c = c.requires.search.usable

pub start_again-requires-clause-small : goal.start_again-requires-clause-small
start_again-requires-clause-small g c = c.requires.search.small

pub attempt-requires-clause-fresh : goal.attempt-requires-clause-fresh
attempt-requires-clause-fresh g c =
    c.searches_restart.ensures (version_of c.args.guide.now.judge) c.args.instance.now c.args.pins.now c.args.guide.now.tree.stock.items (g.R.Recorder.told c.args.recorder.now)
    (g.R.Recorder.number c.args.recorder.now) (g.R.Recorder.cases c.args.recorder.now) c.args.search.now c.start_again.new.search c.requires.search
    c.in_ok-start_again.ensures.again

pub attempt-requires-clause-told : goal.attempt-requires-clause-told
attempt-requires-clause-told g c = told_none _ _ c.in_ok-restart.ensures.told

pub returns-in_err-attempt-clause-keeps : goal.returns-in_err-attempt-clause-keeps
returns-in_err-attempt-clause-keeps g c = g.R.Recorder.keeps_on _ _ _ c.restart.ensures.keeps c.attempt.ensures.keeps

pub returns-clause-plain : goal.returns-clause-plain
returns-clause-plain g c = c.in_ok-attempt.ensures.plain ∙ c.in_ok-start_again.ensures.plain

pub returns-clause-floor : goal.returns-clause-floor
returns-clause-floor g c = c.in_ok-attempt.ensures.floor ∙ c.in_ok-start_again.ensures.again.floor

pub returns-clause-tells : goal.returns-clause-tells
returns-clause-tells g c = tells_then _ _ _ (tells_both _ _ (λ x y. y ≡ []) c.in_ok-restart.ensures.told) c.in_ok-attempt.ensures.tells

pub returns-clause-keeps : goal.returns-clause-keeps
returns-clause-keeps g c = g.R.Recorder.keeps_on _ _ _ c.restart.ensures.keeps c.attempt.ensures.keeps

pub returns-clause-cheaper : goal.returns-clause-cheaper
returns-clause-cheaper g c =
    let same = ap (λ (k : KnownPlan). k.cost) c.in_ok-start_again.ensures.again.known in
    let less = c.in_ok-attempt.ensures.cheaper in
    omega (arith, same, less)
