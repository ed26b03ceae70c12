-- When each status of `roster` comes.
use Rattle.std.proofs.Common.{◌≡◌, Some, None, sym, subst, ap, inl, inr, refl, ⊎_elim, Result, Ok, Err, List, ◌∙◌, ℕ, Option}
use Rattle.std.specs.Prelude.{◌↔◌, ◌⊎◌}
use Rattle.shunt_store.specs.defs.Files.{Files, content}
use Rattle.shunt_store.specs.defs.Causes.{Rose}
use Rattle.shunt_rows.specs.defs.Formats.{reading}
use Rattle.shunt_rows.specs.defs.Records.{records_of}
use Rattle.shunt_instance.specs.declared.records.Station.{Station}
use Rattle.shunt_instance.specs.defs.Instance.{Night}
use Rattle.shunt_plan.specs.declared.records.Plan.{Plan}
use Rattle.shunt_tracks.specs.declared.run.Event.{Event}
use Rattle.shunt_zones.specs.defs.Moves.{moves_of}
use Rattle.shunt_drivers.specs.declared.records.Crew.{Crew}
use Rattle.shunt_drivers.specs.declared.records.Duty.{Duty}
use Rattle.shunt_drivers.specs.declared.records.RosterFault.{RosterFault}
use Rattle.shunt_drivers.specs.defs.CrewFormat.{crew_format, IsCrew}
use Rattle.shunt_drivers.specs.defs.RosterFormat.{roster_format, AreDuties, IsRoster}
use Rattle.shunt_drivers.specs.defs.RosterFaults.{fault_in, InWords}
use Rattle.shunt_rows.specs.declared.words.FileWord.TheVariants as word
use Rattle.shunt_inputs.specs.declared.answers.Outcome.{Outcome}
use Rattle.shunt_inputs.specs.declared.answers.Outcome.TheVariants as outcome
use Rattle.shunt.specs.declared.status.Status.{Status}
use Rattle.shunt.specs.declared.status.Status.TheVariants as status
use Rattle.shunt.specs.defs.Calls.{Roster}
use Rattle.shunt_inputs.specs.defs.Inputs.{Agrees, stated_plans, stated_crew, stated_roster}
use Rattle.shunt_throat.specs.defs.Shared.{Sharable, stated_sharing}
use Rattle.shunt_throat.specs.defs.Rostered.{Rosterable, stated_rostering, rostering_in, IsRostered, SharesAll, roster_outcome}
use Rattle.shunt_inputs.specs.defs.Replies.{Reply, Decided}
use Rattle.shunt.specs.defs.Ends.{Seen, Ends, Yields, the_status}
use Rattle.shunt.proofs.Exactly.{decides, has_reply, completes, reply_at, EndsAs}
use Rattle.shunt_inputs.proofs.Stated.{parted, stated_value}
use Rattle.shunt.proofs.Audits.{EndsWell}

-- ---- what the files state

-- what the laws of drivers say of crews and of duties that are stated, and of their faults
pub record DriverLaws : Type 0 where
  pub crew : (station : Station) (rows : List (List (List ℕ))) (c : Crew) → reading (crew_format station) rows ≡ Ok c → IsCrew station c
  pub roster : (moves : List Event) (rows : List (List (List ℕ))) (duties : List Duty) → reading (roster_format moves) rows ≡ Ok duties → IsRoster moves duties
  pub words : (night : Night) (crew : Crew) (plan : Plan) (duties : List Duty) → IsCrew night.station crew → AreDuties (moves_of night plan.blocks) duties
      → InWords night crew plan duties

pub crew_stated : (laws : DriverLaws) (s t p c : List ℕ) (y : Sharable) → stated_sharing s t p c ≡ Ok y → IsCrew y.night.station y.crew
unfolding stated_sharing
crew_stated laws s t p c y is =
    let first = parted (stated_plans s t p) _ y is in
    let second = parted (stated_crew first.0.0 c) _ y first.2 in
    let made : record { night = first.0.0; plan = first.0.1; crew = second.0 } ≡ y = cc (second.2) in
    subst (λ (z : Sharable). IsCrew z.night.station z.crew) made (laws.crew first.0.0.station (records_of c) second.0
    (stated_value word.Crew (crew_format first.0.0.station) c second.0 second.1))

record AreFormed (y : Rosterable) : Type 0 where
  crew : IsCrew y.night.station y.crew
  duties : IsRoster (moves_of y.night y.plan.blocks) y.duties

rostering_stated : (laws : DriverLaws) (s t p c d : List ℕ) (y : Rosterable) → stated_rostering s t p c d ≡ Ok y → AreFormed y
unfolding stated_rostering
rostering_stated laws s t p c d y is =
    let first = parted (stated_sharing s t p c) _ y is in
    let x = first.0 in
    let second = parted (stated_roster x.night x.plan d) _ y first.2 in
    let made : record { night = x.night; plan = x.plan; crew = x.crew; duties = second.0 } ≡ y = cc (second.2) in
    subst AreFormed made (record {
      crew = crew_stated laws s t p c x first.1;
      duties = laws.roster (moves_of x.night x.plan.blocks) (records_of d) second.0 (stated_value word.Roster (roster_format (moves_of x.night x.plan.blocks)) d second.0 second.1);
    })

-- ---- exactly when each comes

none_where : (laws : DriverLaws) (s t p c d : List ℕ) (y : Rosterable) → stated_rostering s t p c d ≡ Ok y → (fault_in y.night y.crew y.plan y.duties ≡ None) ↔ SharesAll y
none_where laws s t p c d y is =
    let formed = rostering_stated laws s t p c d y is in
    (laws.words y.night y.crew y.plan y.duties formed.crew formed.duties.of_moves).none

some_fault : (f : Option RosterFault) → (f ≡ None → ⊥) → roster_outcome f ≡ outcome.Findings
some_fault None never_none = absurd (never_none refl)
some_fault (Some f) never_none = refl

none_fault : (f : Option RosterFault) → roster_outcome f ≡ outcome.Done → f ≡ None
none_fault None e = refl
none_fault (Some f) e = absurd (let h : outcome.Findings ≡ outcome.Done = e in cc)

fault_some : (f : Option RosterFault) → roster_outcome f ≡ outcome.Findings → f ≡ None → ⊥
fault_some None e none = absurd (let h : outcome.Done ≡ outcome.Findings = e in cc)
fault_some (Some f) e none = absurd (let h : Some f ≡ None = none in cc)

rostered : (x : Result Rosterable (List ℕ)) (y : Rosterable) (r : Reply) → x ≡ Ok y → Decided x IsRostered r → IsRostered y r
rostered x y r e is = subst (λ x. Decided x IsRostered r) e is

told_outcome : (y : Rosterable) (r : Reply) → IsRostered y r → r.outcome ≡ roster_outcome (fault_in y.night y.crew y.plan y.duties)
told_outcome y r a = ap (λ (r : Reply). r.outcome) a

pub done_there : (laws : DriverLaws) (s t p c d : List ℕ) (old new : Seen) (x : Status) (files : Files) (y : Rosterable) → old.files ≡ Some files
    → rostering_in s t p c d files ≡ Ok y → SharesAll y → Ends (Roster s t p c d) old new x → (x ≡ status.Done) ⊎ Yields x
done_there laws s t p c d old new x files y known ok all ends =
    decides (Roster s t p c d) outcome.Done old new x files known (λ r is.
    told_outcome y r (rostered (rostering_in s t p c d files) y r ok is) ∙ ap roster_outcome
    ((none_where laws (content files s) (content files t) (content files p) (content files c) (content files d) y ok).1 all)) ends

pub findings_there : (laws : DriverLaws) (s t p c d : List ℕ) (old new : Seen) (x : Status) (files : Files) (y : Rosterable) → old.files ≡ Some files
    → rostering_in s t p c d files ≡ Ok y → (SharesAll y → ⊥) → Ends (Roster s t p c d) old new x → (x ≡ status.Findings) ⊎ Yields x
findings_there laws s t p c d old new x files y known ok never ends =
    decides (Roster s t p c d) outcome.Findings old new x files known (λ r is.
    told_outcome y r (rostered (rostering_in s t p c d files) y r ok is)
    ∙ some_fault (fault_in y.night y.crew y.plan y.duties) (λ none. never ((none_where laws (content files s) (content files t) (content files p) (content files c)
    (content files d) y ok).0 none))) ends

-- an outcome of accepted files is that of the fault of the duties that they state
record Tells (x : Result Rosterable (List ℕ)) (o : Outcome) : Type 0 where
  value : Rosterable
  ok : x ≡ Ok value
  outcome : roster_outcome (fault_in value.night value.crew value.plan value.duties) ≡ o

tells : (x : Result Rosterable (List ℕ)) (r : Reply) (o : Outcome) → (o ≡ outcome.Input → ⊥) → Decided x IsRostered r → r.outcome ≡ o → Tells x o
tells (Err text) r o other is e = absurd (other (sym e ∙ ap (λ (r : Reply). r.outcome) is))
tells (Ok y) r o other is e = record { value = y; ok = refl; outcome = sym (told_outcome y r is) ∙ e }

pub done_only : (laws : DriverLaws) (s t p c d : List ℕ) (old new : Seen) → Ends (Roster s t p c d) old new status.Done
    → (files : Files) × Agrees old.files files × ((y : Rosterable) × (rostering_in s t p c d files ≡ Ok y) × SharesAll y)
done_only laws s t p c d old new ends =
    let h = has_reply (Roster s t p c d) outcome.Done old new ends in
    let files = h.1.0 in
    let at = tells (rostering_in s t p c d files) h.0 outcome.Done (λ e. cc) h.1.2 h.2 in (
      files,
      h.1.1,
      (
        at.value,
        at.ok,
        (none_where laws (content files s) (content files t) (content files p) (content files c) (content files d) at.value at.ok).0
            (none_fault (fault_in at.value.night at.value.crew at.value.plan at.value.duties) at.outcome),
      ),
    )

pub findings_only : (laws : DriverLaws) (s t p c d : List ℕ) (old new : Seen) → Ends (Roster s t p c d) old new status.Findings
    → (files : Files) × Agrees old.files files × ((y : Rosterable) × (rostering_in s t p c d files ≡ Ok y) × (SharesAll y → ⊥))
findings_only laws s t p c d old new ends =
    let h = has_reply (Roster s t p c d) outcome.Findings old new ends in
    let files = h.1.0 in
    let at = tells (rostering_in s t p c d files) h.0 outcome.Findings (λ e. cc) h.1.2 h.2 in (
      files,
      h.1.1,
      (
        at.value,
        at.ok,
        λ all. fault_some (fault_in at.value.night at.value.crew at.value.plan at.value.duties) at.outcome
            ((none_where laws (content files s) (content files t) (content files p) (content files c) (content files d) at.value at.ok).1 all),
      ),
    )

neither : (f : Option RosterFault) (o : Outcome) → roster_outcome f ≡ o → (o ≡ outcome.Done) ⊎ (o ≡ outcome.Findings)
neither None o e = inl (sym e)
neither (Some f) o e = inr (sym e)

never : (s t p c d : List ℕ) (o : Outcome) (old new : Seen) → (o ≡ outcome.Done → ⊥) → (o ≡ outcome.Findings → ⊥) → (o ≡ outcome.Input → ⊥)
    → Ends (Roster s t p c d) old new (the_status o) → ⊥
never s t p c d o old new a b n ends =
    let h = has_reply (Roster s t p c d) o old new ends in
    let at = tells (rostering_in s t p c d h.1.0) h.0 o n h.1.2 h.2 in
    ⊎_elim a b (neither (fault_in at.value.night at.value.crew at.value.plan at.value.duties) o at.outcome)

pub no_matching : (s t p c d : List ℕ) (old new : Seen) → Ends (Roster s t p c d) old new status.NoMatching → ⊥
no_matching s t p c d old new ends = never s t p c d outcome.NoMatching old new (λ e. cc) (λ e. cc) (λ e. cc) ends

pub no_unfinished : (s t p c d : List ℕ) (old new : Seen) → Ends (Roster s t p c d) old new status.Unfinished → ⊥
no_unfinished s t p c d old new ends = never s t p c d outcome.Unfinished old new (λ e. cc) (λ e. cc) (λ e. cc) ends

-- ---- completeness

well : (x : Status) (f : Option RosterFault) → x ≡ the_status (roster_outcome f) → EndsWell x
well x None e = inl e
well x (Some f) e = inr (inl e)

pub ends_well : (s t p c d : List ℕ) (old new : Seen) (x : Status) (files : Files) (y : Rosterable) → old.files ≡ Some files → rostering_in s t p c d files ≡ Ok y
    → (Rose old.store_faults new.store_faults → ⊥) → (Rose old.sink_faults new.sink_faults → ⊥) → Ends (Roster s t p c d) old new x → EndsWell x
ends_well s t p c d old new x files y known ok ns nk ends = at (completes (Roster s t p c d) old new x ns nk ends)
  where
    at : EndsAs (Roster s t p c d) old x → EndsWell x
    at (inl m) = inr (inr m)
    at (inr h) =
        let a = rostered (rostering_in s t p c d files) y h.0 ok (reply_at (Roster s t p c d) old.files files h.0 known h.1) in
        well x (fault_in y.night y.crew y.plan y.duties) (h.2 ∙ ap the_status (told_outcome y h.0 a))
