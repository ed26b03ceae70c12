-- What the files in memory hold while a night is planned, checked and audited.
use Rattle.std.specs.Prelude.{◌≡◌, ◌≤◌, ℕ, List, [], ◌∷◌, Result, Ok, Err}
use Rattle.std.specs.FinMap as finite
use Rattle.shunt_store.specs.defs.Files.{Files, content}
use Rattle.shunt_instance.specs.declared.records.Station.{Station}
use Rattle.shunt_instance.specs.declared.records.Timetable.{Timetable}
use Rattle.shunt_instance.specs.defs.Instance.{Night, IsInstance}
use Rattle.shunt_matching.specs.defs.Nights.{HasMatching}
use Rattle.shunt_plan.specs.declared.records.Plan.{Plan}
use Rattle.shunt_plan.specs.defs.Plans.{IsPlanInRange}
use Rattle.shunt_proof.specs.declared.records.Certificate.{Certificate}
use Rattle.shunt_proof.specs.declared.records.Version.TheVariants.{Prices}
use Rattle.shunt_proof.specs.defs.Certificates.{IsCertificate}
use Rattle.shunt_search.specs.defs.Conditions.{MeetConditions}
use Rattle.shunt_inputs.specs.declared.file_loader.Halt.{Halt}
use Rattle.shunt_inputs.specs.declared.file_loader.Halt.TheVariants as halt
use Rattle.shunt_inputs.specs.defs.Inputs.{stated_night}
use Rattle.shunt_judging.specs.defs.Checked.{Checkable, check_in, IsProved}
use Rattle.shunt_planning.specs.defs.Planned.{certificate_file, plan_file}
use Rattle.shunt_trial.specs.defs.Tried.{station_file, timetable_file}

-- the files of a night alone
abbrev pub night_files : List ℕ → List ℕ → Station → Timetable → Files
night_files s t station timetable = finite.insert (finite.insert finite.empty s (station_file station)) t (timetable_file station timetable)

-- the files state this night, which has a matching
pub record IsNightIn (s t : List ℕ) (files : Files) (night : Night) : Type 0 where
  pub stated : stated_night (content files s) (content files t) ≡ Ok night
  pub formed : IsInstance night
  pub matching : HasMatching night [] []

-- a certificate and then a plan were written beside it
abbrev pub with_both : List ℕ → List ℕ → Night → Plan → Certificate → Files → Files
with_both p k night plan certificate files = finite.insert (finite.insert files k (certificate_file night certificate)) p (plan_file night plan)

-- four files by their names, with what they hold
abbrev pub held_files : List ℕ → List ℕ → List ℕ → List ℕ → Files → List (List ℕ × List ℕ)
held_files s t p k files = (s, content files s) ∷ (t, content files t) ∷ (p, content files p) ∷ (k, content files k) ∷ []

-- a plan and a certificate that files can state, which meet the eight conditions over the night; with at most 16 nodes the version is 1
pub record AreFit (night : Night) (most : ℕ) (plan : Plan) (certificate : Certificate) : Type 0 where
  pub in_range : IsPlanInRange night plan
  pub statable : IsCertificate night certificate
  pub meet : MeetConditions night [] most plan certificate
  pub few : most ≤ 16 → certificate.version ≡ Prices

-- the files state these, which can be stated, and the certificate is accepted with the plan
pub record IsProvedIn (s t p k : List ℕ) (files : Files) (x : Checkable) : Type 0 where
  pub stated : check_in s t p k files ≡ Ok x
  pub formed : IsInstance x.night
  pub in_range : IsPlanInRange x.night x.plan
  pub statable : IsCertificate x.night x.certificate
  pub proved : IsProved x

-- the step has its value, or memory ran out
abbrev pub IsSure : {X : Type 0} → Result X Halt → Type 0
IsSure (Ok x) = Unit {0}
IsSure (Err (halt.Input text)) = ⊥
IsSure (Err halt.Fault) = ⊥
IsSure (Err halt.Memory) = Unit {0}
