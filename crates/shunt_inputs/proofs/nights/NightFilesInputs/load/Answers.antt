use Rattle.std.proofs.Common.{[], ◌∷◌}
use Rattle.shunt_rows.specs.declared.words.FileWord.TheVariants as word
use Rattle.shunt_inputs.proofs.Heard.{heard_memory}
use Rattle.shunt_inputs.proofs.Held.{texts_map}
use Rattle.shunt_inputs.proofs.NightTexts.{night_refused, night_stated_in}
use Rattle.shunt_inputs.proofs.SeenFiles.{loads_failed}
use Rattle.shunt_inputs.proofs.nights.NightFilesInputs.load.Goals as goal

pub returns-in_err-station-clause-told : goal.returns-in_err-station-clause-told
returns-in_err-station-clause-told g c = λ view seen.
    let names = c.args.self.now.0.now ∷ c.args.self.now.1.now ∷ [] in
    texts_map view names _ _ (λ texts l. night_refused c.from_residual.result _ c.from_residual.ensures texts l) (c.in_err-station.ensures.told view seen)

pub returns-in_err-join-clause-told : goal.returns-in_err-join-clause-told
returns-in_err-join-clause-told g c = λ view seen.
    let names = c.args.self.now.0.now ∷ c.args.self.now.1.now ∷ [] in
    texts_map view names _ _ (λ texts is. loads_failed c.from_residual-in_err-join.result _ _ c.from_residual-in_err-join.ensures tt) (c.in_ok-station.ensures.told view seen)

pub returns-in_err-join-clause-heard : goal.returns-in_err-join-clause-heard
returns-in_err-join-clause-heard g c =
    heard_memory ((word.Station, c.args.self.now.0.now) ∷ (word.Timetable, c.args.self.now.1.now) ∷ []) _ _ c.from_residual-in_err-join.result c.from_residual-in_err-join.ensures
    c.in_ok-station.ensures.heard

pub returns-clause-told : goal.returns-clause-told
returns-clause-told g c = λ view seen.
    let names = c.args.self.now.0.now ∷ c.args.self.now.1.now ∷ [] in
    texts_map view names _ _ (λ texts is. night_stated_in (c.in_ok-station.station, c.in_ok-station.timetable) _ c.in_ok-join.ensures texts is)
    (c.in_ok-station.ensures.told view seen)
