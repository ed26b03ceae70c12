use Rattle.shunt_inputs.specs.defs.Halts.{Loads}
use Rattle.shunt_inputs.specs.defs.Inputs.{stated_station}
use Rattle.shunt_inputs.proofs.Held.{one_text}
use Rattle.shunt_inputs.proofs.stations.StationFileInputs.load.Goals as goal

pub returns-clause-told : goal.returns-clause-told
returns-clause-told g c = λ view seen. one_text view _ (λ b. Loads c.load_input.result (stated_station b)) (c.load_input.ensures.told view seen)
