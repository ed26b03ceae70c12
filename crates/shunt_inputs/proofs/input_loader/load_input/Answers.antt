use Rattle.std.proofs.Common.{List, ℕ, subst, ◌∙◌}
use Rattle.shunt_inputs.specs.defs.Halts.{Loads}
use Rattle.shunt_inputs.specs.defs.Inputs.{Holding, stated_by}
use Rattle.shunt_inputs.proofs.Heard.{heard_with, hears_as}
use Rattle.shunt_inputs.proofs.SeenFiles.{holding_map, loads_failed, judged_bytes}
use Rattle.shunt_inputs.proofs.HeardSteps.{refused_word}
use Rattle.shunt_inputs.proofs.input_loader.load_input.Goals as goal

pub returns-in_err-bytes-clause-told : goal.returns-in_err-bytes-clause-told
returns-in_err-bytes-clause-told g c = λ view seen.
    let word = g.F.InputFile.word in
    let states = g.F.InputFile.states c.args.over.now in
    subst (λ (n : List ℕ). Holding view n (λ b. Loads c.from_residual.result (stated_by word states b))) c.name.ensures
    (holding_map _ _ _ _ (λ b h. loads_failed {X = g.row.F-Value.Denot} _ _ (stated_by word states b) c.from_residual.ensures
    (refused_word word c.word.result states b _ c.word.ensures h)) (c.in_err-bytes.ensures.told view seen))

pub returns-clause-told : goal.returns-clause-told
returns-clause-told g c = λ view seen.
    let word = g.F.InputFile.word in
    let states = g.F.InputFile.states c.args.over.now in
    subst (λ (n : List ℕ). Holding view n (λ b. Loads c.judge.result (stated_by word states b))) c.name.ensures
    (holding_map _ _ _ _ (λ b h. judged_bytes {X = g.row.F-Value.Denot} word states _ b _ (c.deref.ensures.value ∙ h.0) c.judge.ensures.stated)
    (c.in_ok-bytes.ensures.told view seen))

pub returns-clause-heard : goal.returns-clause-heard
returns-clause-heard g c = heard_with g.F.InputFile.word _ _ _ c.judge.result (hears_as _ _ _ _ c.name.ensures c.in_ok-bytes.ensures.heard) c.judge.ensures.line
