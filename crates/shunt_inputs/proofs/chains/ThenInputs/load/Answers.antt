use Rattle.std.proofs.Common.{Err, [], ◌∷◌}
use Rattle.shunt_inputs.specs.defs.Inputs.{stated_by}
use Rattle.shunt_inputs.proofs.Heard.{heard_before, heard_first, heard_last}
use Rattle.shunt_inputs.proofs.Held.{both_stated, next_refused, texts_refused}
use Rattle.shunt_inputs.proofs.HeardSteps.{cut_view, hears_all}
use Rattle.shunt_inputs.proofs.chains.ThenInputs.load.Goals as goal

pub returns-in_err-first-clause-told : goal.returns-in_err-first-clause-told
returns-in_err-first-clause-told g c = λ view seen.
    let I = g.I.Inputs in
    let F = g.F.InputFile in
    let x = c.args.self.now in
    texts_refused {X = g.row.I-Value.Denot} {Y = g.row.F-Value.Denot} view (I.inputs x.0) F.word (F.name x.1) (I.states x.0)
    (λ v. stated_by F.word (F.states v)) c.from_residual.result _ c.from_residual.ensures (c.in_err-first.ensures.told view seen)

pub returns-in_err-first-clause-heard : goal.returns-in_err-first-clause-heard
returns-in_err-first-clause-heard g c = heard_before g.row.I-Value.Denot _ _ _ _ c.from_residual.result _ c.from_residual.ensures c.in_err-first.ensures.heard

pub returns-in_err-next-clause-told : goal.returns-in_err-next-clause-told
returns-in_err-next-clause-told g c = λ view seen.
    let I = g.I.Inputs in
    let F = g.F.InputFile in
    let x = c.args.self.now in
    let parts = cut_view _ _ _ _ _ view _ _ c.in_ok-first.ensures.files (hears_all _ _ _ c.in_ok-first.ensures.heard)
    (heard_first {X = g.row.F-Value.Denot} ((F.word, F.name x.1) ∷ []) _ _ (Err c.in_err-next.field-0.0) c.in_err-next.ensures.heard) seen in
    next_refused {X = g.row.I-Value.Denot} {Y = g.row.F-Value.Denot} view (I.inputs x.0) F.word (F.name x.1) (I.states x.0)
    (λ v. stated_by F.word (F.states v)) c.from_residual-in_err-next.result _ c.in_ok-first.first c.from_residual-in_err-next.ensures
    (c.in_ok-first.ensures.told view parts.0) (c.in_err-next.ensures.told view parts.1)

pub returns-in_err-next-clause-heard : goal.returns-in_err-next-clause-heard
returns-in_err-next-clause-heard g c = heard_last g.row.F-Value.Denot _ _ _ _ _ c.from_residual-in_err-next.result _ c.from_residual-in_err-next.ensures c.in_ok-first.ensures.heard
    c.in_err-next.ensures.heard

pub returns-clause-told : goal.returns-clause-told
returns-clause-told g c = λ view seen.
    let I = g.I.Inputs in
    let F = g.F.InputFile in
    let x = c.args.self.now in
    let parts = cut_view _ _ _ _ _ view _ _ c.in_ok-first.ensures.files (hears_all _ _ _ c.in_ok-first.ensures.heard) (hears_all _ _ _ c.in_ok-next.ensures.heard) seen in
    both_stated {X = g.row.I-Value.Denot} {Y = g.row.F-Value.Denot} view (I.inputs x.0) F.word (F.name x.1) (I.states x.0)
    (λ v. stated_by F.word (F.states v)) c.in_ok-first.first c.in_ok-next.next
    (c.in_ok-first.ensures.told view parts.0) (c.in_ok-next.ensures.told view parts.1)
