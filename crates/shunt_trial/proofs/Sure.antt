-- Replies over files that are accepted, in a store that never fails.
use Rattle.std.proofs.Common.{◌≡◌, ◌∙◌, ℕ, ◌<◌, List, [], ◌∷◌, ◌++◌, length, map, Option, Some, None, Result, Ok, Err, refl, subst, sym, ap, inl, inr, arith, Bool, true, false}
use Rattle.std.specs.Result.{IsErrOf}
use Rattle.std.specs.Prelude.{◌⊎◌, ◌↔◌, ◌==◌, if◌then◌else◌}
use Rattle.shunt_store.specs.defs.Files.{Files, content}
use Rattle.shunt_store.specs.defs.Notes.{Entries}
use Rattle.shunt_store.specs.defs.Causes.{Rose, HasCause}
use Rattle.shunt_instance.specs.defs.Instance.{Night, IsInstance}
use Rattle.shunt_blocks.specs.declared.records.Block.{Block}
use Rattle.shunt_blocks.specs.defs.Lists.{AreInRange, IsFeasible, total_cost}
use Rattle.shunt_blocks.specs.defs.Pins.{AreUsable, Keeps}
use Rattle.shunt_plan.specs.declared.records.Plan.{Plan}
use Rattle.shunt_plan.specs.defs.Plans.{IsPlanInRange}
use Rattle.shunt_proof.specs.declared.records.Certificate.{Certificate}
use Rattle.shunt_proof.specs.defs.Certificates.{IsCertificate}
use Rattle.shunt_proof.specs.defs.Accepted.{IsAccepted}
use Rattle.shunt_audit.specs.declared.types.Finding.{Finding}
use Rattle.shunt_audit.specs.defs.Plans.{ArePlanFindings, plan_findings}
use Rattle.shunt_audit.proofs.Stated.{only_plan}
use Rattle.shunt_proof.specs.declared.records.Version.TheVariants.{Stacks}
use Rattle.shunt_checker.specs.declared.verdict.Verdict.{Verdict}
use Rattle.shunt_checker.specs.declared.verdict.Verdict.TheVariants as verdict
use Rattle.shunt_checker.specs.defs.Verdicts.{IsVerdict, Accepts}
use Rattle.shunt_report.specs.defs.FindingTexts.{findings_of}
use Rattle.shunt_report.specs.defs.PlanTexts.{plan_of}
use Rattle.shunt_report.specs.defs.VerdictTexts.{verdict_of}
use Rattle.shunt_inputs.specs.declared.answers.Answer.{Answer}
use Rattle.shunt_inputs.specs.declared.answers.FileText.{FileText}
use Rattle.shunt_inputs.specs.declared.answers.Outcome.{Outcome}
use Rattle.shunt_inputs.specs.declared.answers.Outcome.TheVariants as outcome
use Rattle.shunt_inputs.specs.declared.file_loader.Halt.{Halt}
use Rattle.shunt_inputs.specs.declared.file_loader.Halt.TheVariants as halt
use Rattle.shunt_inputs.specs.defs.Inputs.{Agrees, stated_night, stated_plans, stated_certificate, plans_in, then_stated}
use Rattle.shunt_inputs.specs.defs.Replies.{Reply, Decided, pair_of, refusal, reply_of}
use Rattle.shunt_inputs.specs.defs.Writes.{written, with_first, Known, known, HasFirst, LeavesOne}
use Rattle.shunt_inputs.proofs.Held.{decided_over}
use Rattle.shunt_inputs.proofs.Stated.{parted}
use Rattle.shunt_judging.specs.defs.Audited.{IsAudited, audit_outcome}
use Rattle.shunt_judging.specs.defs.Checked.{Checkable, check_in, stated_check, IsChecked, check_outcome}
use Rattle.shunt_planning.specs.defs.Planned.{IsPlanned, IsSought, search_outcome}
use Rattle.shunt_planning.specs.defs.Begun.{IsPlannedOver}
use Rattle.shunt_planning.proofs.Sought.{usable_none}
use Rattle.shunt_trial.specs.defs.Rehearsed.{IsNightIn, with_both, AreFit, IsProvedIn, IsSure}
use Rattle.shunt_blocks.proofs.Held.{keeps_none}
use Rattle.shunt_inputs.proofs.FirstFiles.{written-append}

-- ---- no faults

none_rose : Rose 0 0 → ⊥
none_rose (inl h) = omega (arith, h)
none_rose (inr h) = omega (arith, h)

pub no_fault : {A : Type 0} (r : Result A Halt) → HasCause halt.Fault 0 0 r → IsErrOf r halt.Fault → ⊥
no_fault r cause is = none_rose (cause.failed is)

-- ---- outcomes

not_input : (cost bound : ℕ) → outcome.Input ≡ search_outcome cost bound → ⊥
not_input cost bound e = at (bound == cost) e
  where
    at : (same : Bool) → outcome.Input ≡ (if same then outcome.Done else outcome.Unfinished) → ⊥
    at true e = let h : outcome.Input ≡ outcome.Done = e in cc
    at false e = let h : outcome.Input ≡ outcome.Unfinished = e in cc

-- ---- the plan of a night that has a matching

module _ (files : Files) (s t : List ℕ) (most : ℕ) (p k : List ℕ) (night : Night) (is : IsNightIn s t files night) where
  sought : (r : Reply) → IsSought most p k night r → IsPlanned [] most p k night r
  sought r (inl found) = found.1
  sought r (inr short) = absurd (short.none is.matching.0 is.matching.1)

  planned_over : (r : Reply) → IsPlannedOver (Some files) s t most p k r → IsPlanned [] most p k night r
  planned_over r h =
      let same : files ≡ h.0 = h.1 in
      let ok : stated_night (content h.0 s) (content h.0 t) ≡ Ok night = subst (λ (f : Files). stated_night (content f s) (content f t) ≡ Ok night) same is.stated in
      sought r (subst (λ x. Decided x (IsSought most p k) r) ok h.2)

  pub plan_sure : (stored : Option Entries) (new : Known) (r : Result Answer Halt) → (IsErrOf r halt.Fault → ⊥)
      → LeavesOne (IsPlannedOver (Some files) s t most p k) (known (Some files) stored) new r → IsSure r
  plan_sure stored new (Ok a) fault leads = tt
  plan_sure stored new (Err (halt.Input text)) fault leads =
      let plan = planned_over (with_first leads.first (refusal text.items)) leads.reply in
      absurd (not_input plan.certificate.cost plan.certificate.bound (ap (λ (r : Reply). r.outcome) plan.reply))
  plan_sure stored new (Err halt.Fault) fault leads = absurd (fault refl)
  plan_sure stored new (Err halt.Memory) fault leads = tt

  -- it was written behind its certificate, and told
  pub plan_found : (before now : Option Entries) (mid after : Files) (r : Result Answer Halt) (a : Answer) → r ≡ Ok a
      → LeavesOne (IsPlannedOver (Some files) s t most p k) (known (Some files) before) (known (Some mid) now) r → after ≡ written (map pair_of a.writes.items) mid
      → (plan : Plan) × (c : Certificate) × AreFit night most plan c × (after ≡ with_both p k night plan c files) × (a.text.items ≡ plan_of plan c.bound (length c.nodes))
  plan_found before now mid after r a ok leads put =
      let led : HasFirst (IsPlannedOver (Some files) s t most p k) (known (Some files) before) (known (Some mid) now) (reply_of a) = subst
      (λ (x : Result Answer Halt). LeavesOne (IsPlannedOver (Some files) s t most p k) (known (Some files) before) (known (Some mid) now) x) ok leads in
      let found = planned_over (with_first led.first (reply_of a)) led.reply in
      let wrote : mid ≡ written led.first files = led.files in (
        found.plan,
        found.certificate,
        record { in_range = found.in_range; statable = found.statable; meet = found.meet; few = found.few },
        put ∙ ap (written (map pair_of a.writes.items)) wrote ∙ sym (written-append led.first (map pair_of a.writes.items) files)
            ∙ ap (λ (q : Reply). written q.writes files) found.reply,
        ap (λ (q : Reply). q.text) found.reply,
      )

-- ---- the audit of a plan that a certificate is accepted with

-- that a plan has no finding exactly when it is feasible and states its cost
abbrev pub FoundNone : Type 0
FoundNone = (night : Night) (plan : Plan) → IsInstance night → AreInRange night plan.blocks
    → (plan_findings night plan ≡ []) ↔ IsFeasible night plan.blocks × (plan.cost ≡ total_cost night plan.blocks)

no_input_found : (fs : List Finding) → outcome.Input ≡ audit_outcome fs → ⊥
no_input_found [] e = let h : outcome.Input ≡ outcome.Done = e in cc
no_input_found (f ∷ fs) e = let h : outcome.Input ≡ outcome.Findings = e in cc

-- what is written first and before nothing is nothing
none_first : (first rest : List (List ℕ × List ℕ)) → first ++ rest ≡ [] → first ≡ []
none_first [] rest e = refl
none_first (w ∷ first) rest e = let h : w ∷ (first ++ rest) ≡ [] = e in cc

-- and leaves the files as they were
unwritten : (files now : Files) (first : List (List ℕ × List ℕ)) → first ≡ [] → now ≡ written first files → now ≡ files
unwritten files now first none e = subst (λ ws. now ≡ written ws files) none e

module _ (files : Files) (s t p k : List ℕ) (x : Checkable) (is : IsProvedIn s t p k files x) where
  its_plan : plans_in s t p files ≡ Ok (x.night, x.plan)
  unfolding stated_check
  its_plan =
      let first = parted (stated_plans (content files s) (content files t) (content files p)) _ x is.stated in
      let second = parted (stated_certificate first.0.0 (content files k)) _ x first.2 in
      let made : record { night = first.0.0; plan = first.0.1; certificate = second.0 } ≡ x = cc (second.2) in
      first.1 ∙ ap (λ (y : Checkable). Ok (y.night, y.plan)) made

  -- over the files of the store
  abbrev AuditedOver : Reply → Type 0
  AuditedOver r = (fs : Files) × Agrees (Some files) fs × Decided (plans_in s t p fs) IsAudited r

  audited : (r : Reply) → AuditedOver r → IsAudited (x.night, x.plan) r
  audited r (fs, same, told) = subst (λ (y : Result (Night × Plan) (List ℕ)). Decided y IsAudited r) its_plan
      (subst (λ (f : Files). Decided (plans_in s t p f) IsAudited r) (sym same) told)

  pub audit_keeps : (now : Files) (before after : Option Entries) (r : Result Answer Halt) → LeavesOne AuditedOver (known (Some files) before) (known (Some now) after) r
      → now ≡ files
  audit_keeps now before after (Ok a) leads =
      let its = audited (with_first leads.first (reply_of a)) leads.reply in
      unwritten files now leads.first (none_first leads.first (reply_of a).writes (ap (λ (r : Reply). r.writes) its.reply)) leads.files
  audit_keeps now before after (Err (halt.Input text)) leads =
      let its = audited (with_first leads.first (refusal text.items)) leads.reply in
      unwritten files now leads.first (none_first leads.first [] (ap (λ (r : Reply). r.writes) its.reply)) leads.files
  audit_keeps now before after (Err halt.Fault) leads = cc (leads.0)
  audit_keeps now before after (Err halt.Memory) leads = cc (leads.0)

  pub audit_sure : (old new : Known) (r : Result Answer Halt) → (IsErrOf r halt.Fault → ⊥) → LeavesOne AuditedOver old new r → IsSure r
  audit_sure old new (Ok a) fault leads = tt
  audit_sure old new (Err (halt.Input text)) fault leads =
      let its = audited (with_first leads.first (refusal text.items)) leads.reply in
      absurd (no_input_found its.findings (ap (λ (r : Reply). r.outcome) its.reply))
  audit_sure old new (Err halt.Fault) fault leads = absurd (fault refl)
  audit_sure old new (Err halt.Memory) fault leads = tt

  pub audit_told : FoundNone → (old new : Known) (r : Result Answer Halt) (a : Answer) → r ≡ Ok a → LeavesOne AuditedOver old new r
      → a.text.items ≡ findings_of x.night [] (total_cost x.night x.plan.blocks)
  audit_told law old new r a ok leads =
      let led : HasFirst AuditedOver old new (reply_of a) = subst (λ (y : Result Answer Halt). LeavesOne AuditedOver old new y) ok leads in
      let its = audited (with_first led.first (reply_of a)) led.reply in
      let same = only_plan x.night x.plan its.findings is.in_range.blocks its.told.in_order its.told.exactly in
      let none = (law x.night x.plan is.formed is.in_range.blocks).1 (is.proved.feasible, is.proved.states) in
      ap (λ (q : Reply). q.text) its.reply ∙ ap (λ (fs : List Finding). findings_of x.night fs (total_cost x.night x.plan.blocks)) (same ∙ none)

-- ---- the check of them

-- that a verdict accepts exactly the certificates that are accepted
abbrev pub Judges : Type 0
Judges = (night : Night) (pins : List Block) (plan : Plan) (c : Certificate) (v : Verdict) → IsInstance night → IsPlanInRange night plan → Keeps plan.blocks pins
    → IsCertificate night c → (c.version ≡ Stacks → AreUsable night pins) → IsVerdict night pins plan c v → Accepts v ↔ IsAccepted night pins plan.blocks plan.cost c

no_input_told : (v : Verdict) → outcome.Input ≡ check_outcome v → ⊥
no_input_told (verdict.Accepted bound) e = let h : outcome.Input ≡ outcome.Done = e in cc
no_input_told (verdict.Rejected row reason) e = let h : outcome.Input ≡ outcome.Findings = e in cc

-- it accepts with the certificate's bound
bound_told : (x : Checkable) (v : Verdict) → IsVerdict x.night [] x.plan x.certificate v → Accepts v → v ≡ verdict.Accepted x.certificate.bound
bound_told x (verdict.Accepted bound) h accepts = ap verdict.Accepted h.answers.0
bound_told x (verdict.Rejected row r) h accepts = absurd accepts

module _ (files : Files) (s t p k : List ℕ) (x : Checkable) (is : IsProvedIn s t p k files x) where
  -- over the files of the store
  abbrev CheckedOver : Reply → Type 0
  CheckedOver r = (fs : Files) × Agrees (Some files) fs
      × Decided (then_stated (plans_in s t p fs) (λ y. then_stated (stated_certificate y.0 (content fs k)) (λ c. Ok (y, c))))
      (λ (v : (Night × Plan) × Certificate). IsChecked (record { night = v.0.0; plan = v.0.1; certificate = v.1 })) r

  checked : (r : Reply) → CheckedOver r → IsChecked x r
  unfolding stated_check
  checked r (fs, same, told) =
      let made : Night × Plan → Certificate → Checkable = λ y c. record { night = y.0; plan = y.1; certificate = c } in
      let all : Decided (check_in s t p k fs) IsChecked r = decided_over (plans_in s t p fs) (λ y. stated_certificate y.0 (content fs k)) made IsChecked r told in
      subst (λ (y : Result Checkable (List ℕ)). Decided y IsChecked r) is.stated (subst (λ (f : Files). Decided (check_in s t p k f) IsChecked r) (sym same) all)

  pub check_keeps : (now : Files) (before after : Option Entries) (r : Result Answer Halt) → LeavesOne CheckedOver (known (Some files) before) (known (Some now) after) r
      → now ≡ files
  check_keeps now before after (Ok a) leads =
      let its = checked (with_first leads.first (reply_of a)) leads.reply in
      unwritten files now leads.first (none_first leads.first (reply_of a).writes (ap (λ (r : Reply). r.writes) its.reply)) leads.files
  check_keeps now before after (Err (halt.Input text)) leads =
      let its = checked (with_first leads.first (refusal text.items)) leads.reply in
      unwritten files now leads.first (none_first leads.first [] (ap (λ (r : Reply). r.writes) its.reply)) leads.files
  check_keeps now before after (Err halt.Fault) leads = cc (leads.0)
  check_keeps now before after (Err halt.Memory) leads = cc (leads.0)

  pub check_sure : (old new : Known) (r : Result Answer Halt) → (IsErrOf r halt.Fault → ⊥) → LeavesOne CheckedOver old new r → IsSure r
  check_sure old new (Ok a) fault leads = tt
  check_sure old new (Err (halt.Input text)) fault leads =
      let its = checked (with_first leads.first (refusal text.items)) leads.reply in
      absurd (no_input_told its.verdict (ap (λ (r : Reply). r.outcome) its.reply))
  check_sure old new (Err halt.Fault) fault leads = absurd (fault refl)
  check_sure old new (Err halt.Memory) fault leads = tt

  pub check_told : Judges → (old new : Known) (r : Result Answer Halt) (a : Answer) → r ≡ Ok a → LeavesOne CheckedOver old new r
      → a.text.items ≡ verdict_of x.night x.certificate (verdict.Accepted x.certificate.bound)
  check_told law old new r a ok leads =
      let led : HasFirst CheckedOver old new (reply_of a) = subst (λ (y : Result Answer Halt). LeavesOne CheckedOver old new y) ok leads in
      let its = checked (with_first led.first (reply_of a)) led.reply in
      let accepts = (law x.night [] x.plan x.certificate its.verdict is.formed is.in_range (keeps_none x.plan.blocks) is.statable (λ e. usable_none x.night) its.told).1
      is.proved in
      ap (λ (q : Reply). q.text) its.reply ∙ ap (verdict_of x.night x.certificate) (bound_told x its.verdict its.told accepts)

-- ---- one step after another

-- what is stated in a store whose files are as they were
pub still_proved : (s t p k : List ℕ) (files now : Files) (x : Checkable) → now ≡ files → IsProvedIn s t p k files x → IsProvedIn s t p k now x
still_proved s t p k files now x same is = subst (λ (f : Files). IsProvedIn s t p k f x) (sym same) is

-- one text behind another
pub both_told : (a b piece text x y : List ℕ) → a ≡ x → b ≡ y → piece ≡ b → text ≡ a ++ piece → text ≡ x ++ y
both_told a b piece text x y e f same is = is ∙ ap (λ l. l ++ piece) e ∙ ap (λ l. x ++ l) (same ∙ f)

pub joined : (line told piece text : List ℕ) → piece ≡ told → text ≡ line ++ piece → text ≡ line ++ told
joined line told piece text same is = is ∙ ap (λ l. line ++ l) same

-- the writes of an answer, as a slice has them
pub put_them : (ws slice : List FileText) (mid after : Files) → slice ≡ ws → after ≡ written (map pair_of slice) mid → after ≡ written (map pair_of ws) mid
put_them ws slice mid after same is = is ∙ ap (λ (l : List FileText). written (map pair_of l) mid) same
