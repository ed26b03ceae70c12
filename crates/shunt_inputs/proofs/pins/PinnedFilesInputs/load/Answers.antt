use Rattle.std.proofs.Common.{[], ◌∷◌}
use Rattle.shunt_inputs.proofs.Held.{texts_map}
use Rattle.shunt_inputs.proofs.NightTexts.{pinned_refused, pinned_stated_in}
use Rattle.shunt_inputs.proofs.pins.PinnedFilesInputs.load.Goals as goal

pub returns-in_err-instance-clause-told : goal.returns-in_err-instance-clause-told
returns-in_err-instance-clause-told g c = λ view seen.
    let names = c.args.self.now.0.now ∷ c.args.self.now.1.now ∷ c.args.self.now.2.now ∷ [] in
    texts_map view names _ _ (λ texts l. pinned_refused c.from_residual.result _ c.from_residual.ensures texts l) (c.in_err-instance.ensures.told view seen)

pub returns-clause-told : goal.returns-clause-told
returns-clause-told g c = λ view seen.
    let names = c.args.self.now.0.now ∷ c.args.self.now.1.now ∷ c.args.self.now.2.now ∷ [] in
    texts_map view names _ _ (λ texts is. pinned_stated_in (c.in_ok-instance.instance, c.in_ok-instance.pins) texts is) (c.in_ok-instance.ensures.told view seen)
