-- What the answer of `drivers` holds.
use Rattle.std.proofs.Common.{◌≡◌, ℕ, List, [], ◌∷◌, Option, ap, ◌∙◌}
use Rattle.shunt_rows.specs.defs.Records.{text_of_rows}
use Rattle.shunt_zones.specs.defs.Moves.{moves_of}
use Rattle.shunt_drivers.specs.declared.records.Duty.{Duty}
use Rattle.shunt_drivers.specs.defs.RosterFormat.{IsRoster}
use Rattle.shunt_inputs.specs.declared.answers.Outcome.TheVariants as outcome
use Rattle.shunt_throat.specs.defs.Shared.{Sharable, IsShared}
use Rattle.shunt_inputs.specs.defs.Replies.{Reply}
use Rattle.shunt_drivers.specs.defs.RosterRows.{rows_of as roster_rows}
use Rattle.shunt_drivers.specs.defs.Shared.{IsFewest}
use Rattle.shunt_report.specs.defs.DriversTexts.{sharing_of}

-- what the answer holds
pub shared_as : (file : List ℕ) (x : Sharable) (duties : List Duty) (drivers : ℕ) (busy : Option ℕ) (written told : List ℕ) (writes : List (List ℕ × List ℕ))
    → IsFewest x.night x.crew (moves_of x.night x.plan.blocks) duties drivers busy → IsRoster (moves_of x.night x.plan.blocks) duties
    → written ≡ text_of_rows (roster_rows duties) → writes ≡ (file, written) ∷ [] → told ≡ sharing_of duties drivers busy
    → IsShared file x (record { outcome = outcome.Done; writes = writes; text = told })
shared_as file x duties drivers busy written told writes fewest roster rows one text = record {
  duties = duties;
  drivers = drivers;
  busy = busy;
  fewest = fewest;
  roster = roster;
  reply =
      let done : List (List ℕ × List ℕ) → List ℕ → Reply = λ ws t. record { outcome = outcome.Done; writes = ws; text = t } in
      let all : writes ≡ (file, text_of_rows (roster_rows duties)) ∷ [] = one ∙ ap (λ b. (file, b) ∷ []) rows in
      ap (λ ws. done ws told) all ∙ ap (done ((file, text_of_rows (roster_rows duties)) ∷ [])) text;
}
