-- The answer of `trial`.
use Rattle.std.specs.Prelude.{◌≡◌, ◌≤◌, ℕ, List, [], ◌∷◌, ◌++◌, length, codes, decimal}
use Rattle.shunt_rows.specs.defs.Records.{text_of_rows}
use Rattle.shunt_instance.specs.declared.records.Station.{Station}
use Rattle.shunt_instance.specs.declared.records.Timetable.{Timetable}
use Rattle.shunt_instance.specs.defs.Instance.{Night, night_of}
use Rattle.shunt_station.specs.defs.WrittenRows as station_rows
use Rattle.shunt_timetable.specs.defs.WrittenRows as timetable_rows
use Rattle.shunt_blocks.specs.defs.Lists.{total_cost}
use Rattle.shunt_plan.specs.declared.records.Plan.{Plan}
use Rattle.shunt_plan.specs.defs.Plans.{IsPlanInRange}
use Rattle.shunt_proof.specs.declared.records.Certificate.{Certificate}
use Rattle.shunt_proof.specs.declared.records.Version.TheVariants.{Prices}
use Rattle.shunt_proof.specs.defs.Certificates.{IsCertificate}
use Rattle.shunt_checker.specs.declared.verdict.Verdict.TheVariants as verdict
use Rattle.shunt_search.specs.defs.Conditions.{MeetConditions}
use Rattle.shunt_make.specs.defs.Made.{station_of, after_station, timetable_of}
use Rattle.shunt_report.specs.defs.FindingTexts.{findings_of}
use Rattle.shunt_report.specs.defs.PlanTexts.{plan_of}
use Rattle.shunt_report.specs.defs.VerdictTexts.{verdict_of}
use Rattle.shunt_inputs.specs.declared.answers.Outcome.TheVariants as outcome
use Rattle.shunt_inputs.specs.defs.Replies.{Reply}
use Rattle.shunt_planning.specs.defs.Planned.{certificate_file, plan_file}

-- the timetable that is made of a number, behind its station
abbrev pub made_timetable : ℕ → ℕ → Timetable
made_timetable number units = timetable_of (after_station number units) units

-- the night of both
abbrev pub made_night : ℕ → ℕ → Night
made_night number units = night_of (station_of number units) (made_timetable number units)

-- the texts of a station and of a timetable over it
abbrev pub station_file : Station → List ℕ
station_file station = text_of_rows (station_rows.rows_of station)

abbrev pub timetable_file : Station → Timetable → List ℕ
timetable_file station timetable = text_of_rows (timetable_rows.rows_of station timetable)

-- `trial NUMBER units U arrive A depart D tracks T`
unfoldable pub trial_line : ℕ → ℕ → ℕ → ℕ → ℕ → List ℕ
trial_line number units arrive depart tracks =
    codes "trial " ++ decimal number ++ codes " units " ++ decimal units ++ codes " arrive " ++ decimal arrive ++ codes " depart " ++ decimal depart ++ codes " tracks "
    ++ decimal tracks ++ codes "\n"

-- the line of a made night
abbrev pub made_line : ℕ → ℕ → List ℕ
made_line number units = trial_line number units (length (made_timetable number units).arrive) (length (made_timetable number units).depart)
    (length (station_of number units).tracks)

-- what is told of a plan and a certificate: the lines of the plan, that it has no findings, and that the certificate is accepted
abbrev pub rehearsal_of : Night → Plan → Certificate → List ℕ
rehearsal_of night plan certificate =
    plan_of plan certificate.bound (length certificate.nodes)
    ++ (findings_of night [] (total_cost night plan.blocks) ++ verdict_of night certificate (verdict.Accepted certificate.bound))

-- the files of the made night, of the plan and of the certificate are written, and all is told of them
abbrev pub tried : ℕ → ℕ → List ℕ → List ℕ → List ℕ → List ℕ → Plan → Certificate → Reply
tried number units s t p k plan certificate = record {
  outcome = outcome.Done;
  writes =
      (s, station_file (station_of number units))
      ∷ (t, timetable_file (station_of number units) (made_timetable number units))
      ∷ (p, plan_file (made_night number units) plan)
      ∷ (k, certificate_file (made_night number units) certificate)
      ∷ [];
  text = made_line number units ++ rehearsal_of (made_night number units) plan certificate;
}

-- the answer of `trial`, with at most that many nodes: of a plan and a certificate that files can state, which meet the eight conditions
-- over the made night; with at most 16 nodes the version is 1
pub record IsTried (number units most : ℕ) (s t p k : List ℕ) (r : Reply) : Type 0 where
  pub plan : Plan
  pub certificate : Certificate
  pub in_range : IsPlanInRange (made_night number units) plan
  pub statable : IsCertificate (made_night number units) certificate
  pub meet : MeetConditions (made_night number units) [] most plan certificate
  pub few : most ≤ 16 → certificate.version ≡ Prices
  pub reply : r ≡ tried number units s t p k plan certificate
