use Rattle.std.proofs.Common.{[], ◌∷◌, ◌++◌, sym, subst, arith}
use Rattle.std.proofs.lemmas.Int.{ints}
use Rattle.shunt_recount.specs.defs.Offers.{AreCandidatesOf}
use Rattle.shunt_recount.proofs.Offered.{more_candidates, fewer_candidates}
use Rattle.shunt_recount.proofs.candidates.add_worthy.Goals as goal

pub returns-in_ok-push : goal.returns-in_ok-push
returns-in_ok-push c = λ shapes h.
    let k = c.candidate_of-candidate.result in
    let is = c.candidate_of-candidate.ensures in
    subst (AreCandidatesOf c.args.instance.now c.args.case.now (shapes ++ c.args.shape ∷ [])) (sym c.in_ok-push.ensures.items)
    (more_candidates c.args.instance.now c.args.case.now shapes c.args.candidates.now.items k c.args.shape is.is is.shape h)

pub returns-else-candidate-gt0 : goal.returns-else-candidate-gt0
returns-else-candidate-gt0 c = λ shapes h.
    let k = c.candidate_of-candidate.result in
    let is = c.candidate_of-candidate.ensures in
    let low = c.if-candidate-gt0.false in
    let little = is.is.little in
    fewer_candidates c.args.instance.now c.args.case.now shapes c.args.candidates.now.items k c.args.shape is.is is.shape h (omega (arith, ints, low, little.low, little.high))
