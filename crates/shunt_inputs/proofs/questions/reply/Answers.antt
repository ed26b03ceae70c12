use Rattle.std.proofs.Common.{Err}
use Rattle.shunt_inputs.specs.defs.ReadFiles.{names_in}
use Rattle.shunt_inputs.specs.defs.Writes.{known}
use Rattle.shunt_inputs.proofs.Heard.{heard_first, heard_memory}
use Rattle.shunt_inputs.proofs.FirstFiles.{leads_answer, leads_refused}
use Rattle.shunt_inputs.proofs.HeardSteps.{hears_all}
use Rattle.shunt_inputs.proofs.questions.reply.Goals as goal

pub returns-in_err-value-clause-leads : goal.returns-in_err-value-clause-leads
returns-in_err-value-clause-leads g c = λ view seen.
    let S = g.S.Store in
    let I = g.I.Inputs in
    leads_refused {X = g.row.I-Value.Denot} view (names_in (I.inputs c.args.inputs.now)) (I.states c.args.inputs.now) (g.Q.Question.answers c.args.question.now)
    (known (S.told c.args.store.now) (S.stored c.args.store.now)) (known (S.told c.load.new.store) (S.stored c.load.new.store))
    c.requires.names (c.in_err-value.ensures.files, c.in_err-value.ensures.stored) c.from_residual.result _ c.from_residual.ensures (c.in_err-value.ensures.told view seen)

pub returns-in_err-answer-clause-heard : goal.returns-in_err-answer-clause-heard
returns-in_err-answer-clause-heard g c = heard_memory _ _ _ c.from_residual-in_err-answer.result c.from_residual-in_err-answer.ensures c.in_ok-value.ensures.heard

pub returns-clause-leads : goal.returns-clause-leads
returns-clause-leads g c = λ view seen.
    let S = g.S.Store in
    let I = g.I.Inputs in
    leads_answer {X = g.row.I-Value.Denot} view (names_in (I.inputs c.args.inputs.now)) (I.states c.args.inputs.now) (g.Q.Question.answers c.args.question.now)
    (known (S.told c.args.store.now) (S.stored c.args.store.now)) (known (S.told c.load.new.store) (S.stored c.load.new.store))
    c.requires.names (c.in_ok-value.ensures.files, c.in_ok-value.ensures.stored) _ c.in_ok-answer.field-0 (c.in_ok-value.ensures.told view seen) c.in_ok-answer.ensures

pub returns-in_err-value-clause-first : goal.returns-in_err-value-clause-first
returns-in_err-value-clause-first g c = heard_first {X = g.row.I-Value.Denot} (g.I.Inputs.inputs c.args.inputs.now) _ _ (Err c.in_err-value.field-0.0) c.in_err-value.ensures.heard

pub returns-in_err-answer-clause-first : goal.returns-in_err-answer-clause-first
returns-in_err-answer-clause-first g c = hears_all _ _ _ c.in_ok-value.ensures.heard

pub returns-clause-first : goal.returns-clause-first
returns-clause-first g c = hears_all _ _ _ c.in_ok-value.ensures.heard
