use Rattle.std.proofs.Common.{[], ◌∷◌}
use Rattle.shunt_rows.specs.declared.words.FileWord.TheVariants as word
use Rattle.shunt_inputs.proofs.Heard.{heard_memory}
use Rattle.shunt_inputs.proofs.Held.{texts_map}
use Rattle.shunt_inputs.proofs.NightTexts.{whole_formed, whole_refused, whole_stated_in}
use Rattle.shunt_inputs.proofs.SeenFiles.{loads_failed}
use Rattle.shunt_inputs.proofs.nights.WholeNightFilesInputs.load.Goals as goal

pub returns-in_err-station-clause-told : goal.returns-in_err-station-clause-told
returns-in_err-station-clause-told g c = λ view seen.
    let names = c.args.self.now.0.now ∷ c.args.self.now.1.now ∷ [] in
    texts_map view names _ _ (λ texts l. whole_refused c.from_residual.result _ c.from_residual.ensures texts l) (c.in_err-station.ensures.told view seen)

pub returns-in_err-whole_night-clause-told : goal.returns-in_err-whole_night-clause-told
returns-in_err-whole_night-clause-told g c = λ view seen.
    let names = c.args.self.now.0.now ∷ c.args.self.now.1.now ∷ [] in
    texts_map view names _ _ (λ texts is. loads_failed c.from_residual-in_err-whole_night.result _ _ c.from_residual-in_err-whole_night.ensures tt)
    (c.in_ok-station.ensures.told view seen)

pub returns-in_err-whole_night-clause-heard : goal.returns-in_err-whole_night-clause-heard
returns-in_err-whole_night-clause-heard g c =
    heard_memory ((word.Station, c.args.self.now.0.now) ∷ (word.Timetable, c.args.self.now.1.now) ∷ []) _ _ c.from_residual-in_err-whole_night.result
    c.from_residual-in_err-whole_night.ensures
    c.in_ok-station.ensures.heard

pub returns-clause-told : goal.returns-clause-told
returns-clause-told g c = λ view seen.
    let names = c.args.self.now.0.now ∷ c.args.self.now.1.now ∷ [] in
    texts_map view names _ _ (λ texts is. whole_stated_in (c.in_ok-station.station, c.in_ok-station.timetable) _ c.in_ok-whole_night.ensures texts is)
    (c.in_ok-station.ensures.told view seen)

pub returns-clause-formed : goal.returns-clause-formed
returns-clause-formed g c = whole_formed c.in_ok-station.station c.in_ok-station.timetable _ c.in_ok-station.ensures.formed.0 c.in_ok-station.ensures.formed.1
    c.in_ok-whole_night.ensures
