-- When each status of `check` comes.
use Rattle.std.proofs.Common.{◌≡◌, ◌≤◌, Some, sym, subst, ap, inl, inr, refl, ⊎_elim, Result, Ok, Err, List, [], ◌∙◌, ℕ}
use Rattle.std.specs.Prelude.{◌↔◌, ◌⊎◌}
use Rattle.shunt_store.specs.defs.Files.{Files, content}
use Rattle.shunt_store.specs.defs.Causes.{Rose}
use Rattle.shunt_rows.specs.defs.Records.{records_of}
use Rattle.shunt_instance.specs.defs.Instance.{Night, IsInstance}
use Rattle.shunt_blocks.specs.declared.records.Block.{Block}
use Rattle.shunt_blocks.specs.defs.Lists.{IsFeasible, total_cost}
use Rattle.shunt_blocks.specs.defs.Pins.{AreUsable, Keeps}
use Rattle.shunt_plan.specs.declared.records.Plan.{Plan}
use Rattle.shunt_plan.specs.defs.Plans.{IsPlanInRange}
use Rattle.shunt_proof.specs.declared.records.Certificate.{Certificate}
use Rattle.shunt_proof.specs.defs.CertificateFormat.{certificate_format}
use Rattle.shunt_proof.specs.defs.Certificates.{IsCertificate}
use Rattle.shunt_proof.specs.defs.Accepted.{IsAccepted}
use Rattle.shunt_proof.proofs.Formed.{certificate_formed}
use Rattle.shunt_proof.specs.declared.records.Version.TheVariants.{Stacks}
use Rattle.shunt_checker.specs.declared.verdict.Verdict.{Verdict}
use Rattle.shunt_checker.specs.declared.verdict.Verdict.TheVariants as verdict
use Rattle.shunt_checker.specs.defs.Verdicts.{IsVerdict, Accepts}
use Rattle.shunt_rows.specs.declared.words.FileWord.TheVariants as word
use Rattle.shunt_report.specs.defs.VerdictTexts.{verdict_of}
use Rattle.shunt_inputs.specs.declared.answers.Outcome.{Outcome}
use Rattle.shunt_inputs.specs.declared.answers.Outcome.TheVariants as outcome
use Rattle.shunt.specs.declared.status.Status.{Status}
use Rattle.shunt.specs.declared.status.Status.TheVariants as status
use Rattle.shunt.specs.defs.Calls.{Check}
use Rattle.shunt_inputs.specs.defs.Inputs.{Agrees, stated_plans, stated_certificate}
use Rattle.shunt_judging.specs.defs.Checked.{Checkable, stated_check, check_in, IsChecked, IsProved, BoundsAll, check_outcome}
use Rattle.shunt_inputs.specs.defs.Replies.{Reply, Decided, says}
use Rattle.shunt.specs.defs.Ends.{Seen, Ends, IsWhole, Yields, the_status}
use Rattle.shunt_planning.proofs.Sought.{usable_none}
use Rattle.shunt.proofs.Exactly.{decides, has_reply, completes, reply_at, EndsAs}
use Rattle.shunt_inputs.proofs.Stated.{parted, plan_stated, stated_value}
use Rattle.shunt.proofs.Audits.{EndsWell}
use Rattle.shunt_blocks.proofs.Held.{keeps_none}

-- ---- what the files state

checked : (x : Result Checkable (List ℕ)) (y : Checkable) (r : Reply) → x ≡ Ok y → Decided x IsChecked r → IsChecked y r
checked x y r e is = subst (λ x. Decided x IsChecked r) e is

record IsFormed (y : Checkable) : Type 0 where
  night : IsInstance y.night
  plan : IsPlanInRange y.night y.plan
  certificate : IsCertificate y.night y.certificate

check_stated : (s t p k : List ℕ) (y : Checkable) → stated_check s t p k ≡ Ok y → IsFormed y
unfolding stated_check
check_stated s t p k y is =
    let first = parted (stated_plans s t p) _ y is in
    let second = parted (stated_certificate first.0.0 k) _ y first.2 in
    let made : record { night = first.0.0; plan = first.0.1; certificate = second.0 } ≡ y = cc (second.2) in
    let of_plan = plan_stated s t p first.0 first.1 in
    subst IsFormed made (record {
      night = of_plan.0;
      plan = of_plan.1;
      certificate = certificate_formed first.0.0 (records_of k) second.0 (stated_value word.Certificate (certificate_format first.0.0) k second.0 second.1);
    })

-- ---- what the verdict tells

-- that it accepts exactly the certificates that are accepted
abbrev pub Judges : Type 0
Judges = (night : Night) (pins : List Block) (plan : Plan) (c : Certificate) (v : Verdict) → IsInstance night → IsPlanInRange night plan → Keeps plan.blocks pins
    → IsCertificate night c → (c.version ≡ Stacks → AreUsable night pins) → IsVerdict night pins plan c v → Accepts v ↔ IsAccepted night pins plan.blocks plan.cost c

-- that the bound with which it accepts is one on every plan
abbrev pub Bounds : Type 0
Bounds = (night : Night) (pins : List Block) (plan : Plan) (c : Certificate) (bound : ℕ) (other : List Block) → IsInstance night → IsPlanInRange night plan → Keeps plan.blocks pins
    → IsCertificate night c → AreUsable night pins → IsVerdict night pins plan c (verdict.Accepted bound) → IsFeasible night other → Keeps other pins
    → bound ≤ total_cost night other

proved_where : (law : Judges) (s t p k : List ℕ) (y : Checkable) (v : Verdict) → stated_check s t p k ≡ Ok y → IsVerdict y.night [] y.plan y.certificate v → Accepts v ↔ IsProved y
proved_where law s t p k y v is told =
    let formed = check_stated s t p k y is in
    law y.night [] y.plan y.certificate v formed.night formed.plan (keeps_none y.plan.blocks) formed.certificate (λ e. usable_none y.night) told

told_outcome : (y : Checkable) (r : Reply) (a : IsChecked y r) → r.outcome ≡ check_outcome a.verdict
told_outcome y r a = ap (λ (r : Reply). r.outcome) a.reply

accepted_done : (v : Verdict) → Accepts v → check_outcome v ≡ outcome.Done
accepted_done (verdict.Accepted bound) h = refl
accepted_done (verdict.Rejected row r) h = absurd h

rejected_found : (v : Verdict) → (Accepts v → ⊥) → check_outcome v ≡ outcome.Findings
rejected_found (verdict.Accepted bound) never = absurd (never tt)
rejected_found (verdict.Rejected row r) never = refl

pub done_accepts : (v : Verdict) → check_outcome v ≡ outcome.Done → Accepts v
done_accepts (verdict.Accepted bound) e = tt
done_accepts (verdict.Rejected row r) e = absurd (let h : outcome.Findings ≡ outcome.Done = e in cc)

found_rejects : (v : Verdict) → check_outcome v ≡ outcome.Findings → Accepts v → ⊥
found_rejects (verdict.Accepted bound) e h = let no : outcome.Done ≡ outcome.Findings = e in cc
found_rejects (verdict.Rejected row r) e h = h

-- it accepts with the certificate's bound
pub bound_told : (night : Night) (pins : List Block) (plan : Plan) (c : Certificate) (v : Verdict) → IsVerdict night pins plan c v → Accepts v → v ≡ verdict.Accepted c.bound
bound_told night pins plan c (verdict.Accepted bound) h accepts = ap verdict.Accepted h.answers.0
bound_told night pins plan c (verdict.Rejected row r) h accepts = absurd accepts

-- ---- exactly when each comes

pub done_there : (law : Judges) (s t p k : List ℕ) (old new : Seen) (x : Status) (files : Files) (y : Checkable) → old.files ≡ Some files → check_in s t p k files ≡ Ok y
    → IsProved y → Ends (Check s t p k) old new x → (x ≡ status.Done) ⊎ Yields x
done_there law s t p k old new x files y known ok proved ends =
    decides (Check s t p k) outcome.Done old new x files known (λ r is.
    let a = checked (check_in s t p k files) y r ok is in
    told_outcome y r a ∙ accepted_done a.verdict ((proved_where law (content files s) (content files t) (content files p) (content files k) y a.verdict ok a.told).1 proved)) ends

pub findings_there : (law : Judges) (s t p k : List ℕ) (old new : Seen) (x : Status) (files : Files) (y : Checkable) → old.files ≡ Some files → check_in s t p k files ≡ Ok y
    → (IsProved y → ⊥) → Ends (Check s t p k) old new x → (x ≡ status.Findings) ⊎ Yields x
findings_there law s t p k old new x files y known ok never ends =
    decides (Check s t p k) outcome.Findings old new x files known (λ r is.
    let a = checked (check_in s t p k files) y r ok is in
    told_outcome y r a ∙ rejected_found a.verdict (λ accepts. never ((proved_where law (content files s) (content files t) (content files p)
    (content files k) y a.verdict ok a.told).0 accepts))) ends

-- an outcome of accepted files is that of the verdict on what they state
record Tells (x : Result Checkable (List ℕ)) (r : Reply) (o : Outcome) : Type 0 where
  value : Checkable
  ok : x ≡ Ok value
  is : IsChecked value r
  outcome : check_outcome is.verdict ≡ o

tells : (x : Result Checkable (List ℕ)) (r : Reply) (o : Outcome) → (o ≡ outcome.Input → ⊥) → Decided x IsChecked r → r.outcome ≡ o → Tells x r o
tells (Err text) r o other is e = absurd (other (sym e ∙ ap (λ (r : Reply). r.outcome) is))
tells (Ok y) r o other is e = record { value = y; ok = refl; is = is; outcome = sym (told_outcome y r is) ∙ e }

pub done_only : (law : Judges) (s t p k : List ℕ) (old new : Seen) → Ends (Check s t p k) old new status.Done
    → (files : Files) × Agrees old.files files × ((y : Checkable) × (check_in s t p k files ≡ Ok y) × IsProved y)
done_only law s t p k old new ends =
    let h = has_reply (Check s t p k) outcome.Done old new ends in
    let files = h.1.0 in
    let at = tells (check_in s t p k files) h.0 outcome.Done (λ e. cc) h.1.2 h.2 in (
      files,
      h.1.1,
      (
        at.value,
        at.ok,
        (proved_where law (content files s) (content files t) (content files p) (content files k) at.value at.is.verdict at.ok at.is.told).0
            (done_accepts at.is.verdict at.outcome),
      ),
    )

pub findings_only : (law : Judges) (s t p k : List ℕ) (old new : Seen) → Ends (Check s t p k) old new status.Findings
    → (files : Files) × Agrees old.files files × ((y : Checkable) × (check_in s t p k files ≡ Ok y) × (IsProved y → ⊥))
findings_only law s t p k old new ends =
    let h = has_reply (Check s t p k) outcome.Findings old new ends in
    let files = h.1.0 in
    let at = tells (check_in s t p k files) h.0 outcome.Findings (λ e. cc) h.1.2 h.2 in (
      files,
      h.1.1,
      (
        at.value,
        at.ok,
        λ proved. found_rejects at.is.verdict at.outcome
            ((proved_where law (content files s) (content files t) (content files p) (content files k) at.value at.is.verdict at.ok at.is.told).1 proved),
      ),
    )

neither : (v : Verdict) (o : Outcome) → check_outcome v ≡ o → (o ≡ outcome.Done) ⊎ (o ≡ outcome.Findings)
neither (verdict.Accepted bound) o e = inl (sym e)
neither (verdict.Rejected row r) o e = inr (sym e)

never : (s t p k : List ℕ) (o : Outcome) (old new : Seen) → (o ≡ outcome.Done → ⊥) → (o ≡ outcome.Findings → ⊥) → (o ≡ outcome.Input → ⊥)
    → Ends (Check s t p k) old new (the_status o) → ⊥
never s t p k o old new a b d ends =
    let h = has_reply (Check s t p k) o old new ends in
    let at = tells (check_in s t p k h.1.0) h.0 o d h.1.2 h.2 in
    ⊎_elim a b (neither at.is.verdict o at.outcome)

pub no_matching : (s t p k : List ℕ) (old new : Seen) → Ends (Check s t p k) old new status.NoMatching → ⊥
no_matching s t p k old new ends = never s t p k outcome.NoMatching old new (λ e. cc) (λ e. cc) (λ e. cc) ends

pub no_unfinished : (s t p k : List ℕ) (old new : Seen) → Ends (Check s t p k) old new status.Unfinished → ⊥
no_unfinished s t p k old new ends = never s t p k outcome.Unfinished old new (λ e. cc) (λ e. cc) (λ e. cc) ends

-- ---- what a good end shows

bounds_all : (judges : Judges) (bounds : Bounds) (s t p k : List ℕ) (y : Checkable) (v : Verdict) → stated_check s t p k ≡ Ok y → IsVerdict y.night [] y.plan y.certificate v
    → Accepts v → BoundsAll y
bounds_all judges bounds s t p k y v is told accepts =
    let formed = check_stated s t p k y is in
    let proved : IsProved y = (proved_where judges s t p k y v is told).0 accepts in
    let with_bound : IsVerdict y.night [] y.plan y.certificate (verdict.Accepted y.certificate.bound) = subst (IsVerdict y.night [] y.plan y.certificate)
    (bound_told y.night [] y.plan y.certificate v told accepts) told in
    record {
      feasible = proved.feasible;
      states = proved.states;
      cost = proved.cost ∙ sym proved.states;
      least = λ other sound. bounds y.night [] y.plan y.certificate y.certificate.bound other formed.night formed.plan (keeps_none y.plan.blocks) formed.certificate
          (usable_none y.night) with_bound sound (keeps_none other);
    }

pub done_bounds : (judges : Judges) (bounds : Bounds) (s t p k : List ℕ) (old new : Seen) → Ends (Check s t p k) old new status.Done
    → (files : Files) × Agrees old.files files × ((y : Checkable) × (check_in s t p k files ≡ Ok y) × BoundsAll y
    × IsWhole (says outcome.Done (verdict_of y.night y.certificate (verdict.Accepted y.certificate.bound))) old new)
done_bounds judges bounds s t p k old new ends =
    let h = has_reply (Check s t p k) outcome.Done old new ends in
    let files = h.1.0 in
    let at = tells (check_in s t p k files) h.0 outcome.Done (λ e. cc) h.1.2 h.2 in
    let y = at.value in
    let accepts = done_accepts at.is.verdict at.outcome in
    let told : h.0 ≡ says outcome.Done (verdict_of y.night y.certificate (verdict.Accepted y.certificate.bound)) =
    at.is.reply ∙ ap (λ (v : Verdict). says (check_outcome v) (verdict_of y.night y.certificate v))
    (bound_told y.night [] y.plan y.certificate at.is.verdict at.is.told accepts) in (
      files,
      h.1.1,
      (
        y,
        at.ok,
        bounds_all judges bounds (content files s) (content files t) (content files p) (content files k) y at.is.verdict at.ok at.is.told accepts,
        subst (λ r. IsWhole r old new) told h.3,
      ),
    )

-- ---- completeness

well : (x : Status) (v : Verdict) → x ≡ the_status (check_outcome v) → EndsWell x
well x (verdict.Accepted bound) e = inl e
well x (verdict.Rejected row r) e = inr (inl e)

pub ends_well : (s t p k : List ℕ) (old new : Seen) (x : Status) (files : Files) (y : Checkable) → old.files ≡ Some files → check_in s t p k files ≡ Ok y
    → (Rose old.store_faults new.store_faults → ⊥) → (Rose old.sink_faults new.sink_faults → ⊥) → Ends (Check s t p k) old new x → EndsWell x
ends_well s t p k old new x files y known ok ns nk ends = at (completes (Check s t p k) old new x ns nk ends)
  where
    at : EndsAs (Check s t p k) old x → EndsWell x
    at (inl m) = inr (inr m)
    at (inr h) =
        let a = checked (check_in s t p k files) y h.0 ok (reply_at (Check s t p k) old.files files h.0 known h.1) in
        well x a.verdict (h.2 ∙ ap the_status (told_outcome y h.0 a))
