-- When each status of `check-pinned` comes.
use Rattle.std.proofs.Common.{◌≡◌, ◌≤◌, sym, subst, ap, inl, inr, refl, Result, Ok, Err, List, [], ◌∷◌, ◌++◌, ◌∙◌, ℕ}
use Rattle.std.specs.Prelude.{◌↔◌, All}
use Rattle.std.proofs.lemmas.List.Elements.{All-head, All-tail}
use Rattle.shunt_store.specs.defs.Files.{Files, content}
use Rattle.shunt_rows.specs.defs.Records.{records_of}
use Rattle.shunt_instance.specs.defs.Instance.{Night, IsInstance}
use Rattle.shunt_blocks.specs.declared.records.Block.{Block}
use Rattle.shunt_blocks.specs.defs.Lists.{AreInRange, IsFeasible, total_cost}
use Rattle.shunt_blocks.specs.defs.Pins.{AreUsable, IsKept, Keeps}
use Rattle.shunt_plan.specs.defs.PlanFormat.{plan_format}
use Rattle.shunt_plan.specs.defs.Plans.{IsPlanInRange, IsFirstLost}
use Rattle.shunt_plan.proofs.Formed.{plan_formed}
use Rattle.shunt_audit.specs.defs.Pins.{pin_findings}
use Rattle.shunt_proof.specs.defs.CertificateFormat.{certificate_format}
use Rattle.shunt_proof.specs.defs.Certificates.{IsCertificate}
use Rattle.shunt_proof.specs.defs.Accepted.{IsAccepted}
use Rattle.shunt_proof.proofs.Formed.{certificate_formed}
use Rattle.shunt_checker.specs.declared.verdict.Verdict.{Verdict}
use Rattle.shunt_checker.specs.declared.verdict.Verdict.TheVariants as verdict
use Rattle.shunt_checker.specs.defs.Verdicts.{IsVerdict, Accepts}
use Rattle.shunt_rows.specs.declared.words.FileWord.TheVariants as word
use Rattle.shunt_report.specs.defs.VerdictTexts.{verdict_of}
use Rattle.shunt_inputs.specs.declared.answers.Outcome.TheVariants as outcome
use Rattle.shunt_inputs.specs.defs.Inputs.{Agrees, stated_plan, stated_pinned, stated_certificate}
use Rattle.shunt_inputs.specs.defs.Replies.{Reply, Decided, says}
use Rattle.shunt_inputs.proofs.Stated.{parted, pins_stated, stated_value}
use Rattle.shunt_judging.specs.defs.Checked.{check_outcome}
use Rattle.shunt_judging.specs.defs.Pinned.{BoundsKept, IsPinChecked, IsPinProved, IsPinVerdict, PinChecked, pin_check_in, stated_pin_check}
use Rattle.shunt.specs.declared.status.Status.TheVariants as status
use Rattle.shunt.specs.defs.Calls.{CheckPinned}
use Rattle.shunt.specs.defs.Ends.{Seen, Ends, IsWhole}
use Rattle.shunt.proofs.Checked.{Judges, Bounds, bound_told, done_accepts}
use Rattle.shunt.proofs.Either.{Parts}
use Rattle.shunt.proofs.Exactly.{has_reply, kept_outcome, lost_outcome, unusable_outcome}

-- ---- what the files state

record IsFormed (y : PinChecked) : Type 0 where
  night : IsInstance y.night
  pins : AreInRange y.night y.pins
  plan : IsPlanInRange y.night y.plan
  certificate : IsCertificate y.night y.certificate

formed : (s t i p k : List ℕ) (y : PinChecked) → stated_pin_check s t i p k ≡ Ok y → IsFormed y
unfolding stated_pin_check
formed s t i p k y is =
    let first = parted (stated_pinned s t i) _ y is in
    let night = first.0.instance in
    let second = parted (stated_plan night p) _ y first.2 in
    let third = parted (stated_certificate night k) _ y second.2 in
    let made : record { night = night; pins = first.0.pins; plan = second.0; certificate = third.0 } ≡ y = cc (third.2) in
    let of_pins = pins_stated s t i first.0 first.1 in
    subst IsFormed made (record {
      night = of_pins.0;
      pins = of_pins.1;
      plan = plan_formed night (records_of p) second.0 (stated_value word.Plan (plan_format night) p second.0 second.1);
      certificate = certificate_formed night (records_of k) third.0 (stated_value word.Certificate (certificate_format night) k third.0 third.1);
    })

-- ---- what each answer shows

-- that pins are usable exactly when they have no finding
abbrev pub Usable : Type 0
Usable = (night : Night) (pins : List Block) → IsInstance night → AreInRange night pins → (pin_findings night pins ≡ []) ↔ AreUsable night pins

of_all : (P : Block → Type 0) (before : List Block) (b : Block) (after : List Block) → All P (before ++ b ∷ after) → P b
of_all P [] b after h = All-head P b after h
of_all P (c ∷ before) b after h = of_all P before b after (All-tail P c (before ++ b ∷ after) h)

-- a pin that is lost isn't kept
pub lost_kept : (blocks pins : List Block) (id : ℕ) → IsFirstLost blocks pins id → Keeps blocks pins → ⊥
lost_kept blocks pins id l keeps =
    l.lost (of_all (IsKept blocks) l.before l.pin l.after (subst (Keeps blocks) l.place keeps))

by_verdict : (y : PinChecked) (v : Verdict) → AreUsable y.night y.pins → Accepts v ↔ IsAccepted y.night y.pins y.plan.blocks y.plan.cost y.certificate
    → Parts (IsPinProved y) (check_outcome v)
by_verdict y (verdict.Accepted bound) usable h = inl (record { usable = usable; accepted = h.0 tt }, refl)
by_verdict y (verdict.Rejected row r) usable h = inr (λ proved. h.1 proved.accepted, refl)

module _ (usables : Usable) (judges : Judges) (s t i p k : List ℕ) where
  pub parts : (files : Files) (y : PinChecked) (r : Reply) → pin_check_in s t i p k files ≡ Ok y → IsPinChecked y r → Parts (IsPinProved y) r.outcome
  parts files y r ok (inl u) =
      let is = formed (content files s) (content files t) (content files i) (content files p) (content files k) y ok in
      inr (λ proved. u.some ((usables y.night y.pins is.night is.pins).1 proved.usable), unusable_outcome y.night y.pins r u)
  parts files y r ok (inr (usable, inl l)) = inr (λ proved. lost_kept y.plan.blocks y.pins l.id l.first proved.accepted.keeps, lost_outcome y r l)
  parts files y r ok (inr (usable, inr v)) =
      let is = formed (content files s) (content files t) (content files i) (content files p) (content files k) y ok in
      subst (Parts (IsPinProved y)) (sym (kept_outcome y r v))
      (by_verdict y v.verdict usable (judges y.night y.pins y.plan y.certificate v.verdict is.night is.plan v.keeps is.certificate (λ e. usable) v.told))

-- ---- what a good end shows

-- an outcome of accepted files is that of the answer on what they state
answered : (x : Result PinChecked (List ℕ)) (r : Reply) → r.outcome ≡ outcome.Done → Decided x IsPinChecked r → (y : PinChecked) × (x ≡ Ok y) × IsPinChecked y r
answered (Err text) r done is = absurd (let no : outcome.Input ≡ outcome.Done = sym (ap (λ (q : Reply). q.outcome) is) ∙ done in cc)
answered (Ok y) r done is = (y, refl, is)

own : (y : PinChecked) (r : Reply) → r.outcome ≡ outcome.Done → IsPinChecked y r → AreUsable y.night y.pins × IsPinVerdict y r
own y r done (inl u) = absurd (let no : outcome.Findings ≡ outcome.Done = sym (unusable_outcome y.night y.pins r u) ∙ done in cc)
own y r done (inr (usable, inl l)) = absurd (let no : outcome.Findings ≡ outcome.Done = sym (lost_outcome y r l) ∙ done in cc)
own y r done (inr (usable, inr v)) = (usable, v)

bounds_kept : (judges : Judges) (bounds : Bounds) (y : PinChecked) (r : Reply) (v : IsPinVerdict y r) → IsFormed y → AreUsable y.night y.pins → Accepts v.verdict → BoundsKept y
bounds_kept judges bounds y r v is usable accepts =
    let accepted = (judges y.night y.pins y.plan y.certificate v.verdict is.night is.plan v.keeps is.certificate (λ e. usable) v.told).0 accepts in
    let with_bound : IsVerdict y.night y.pins y.plan y.certificate (verdict.Accepted y.certificate.bound) =
    subst (IsVerdict y.night y.pins y.plan y.certificate) (bound_told y.night y.pins y.plan y.certificate v.verdict v.told accepts) v.told in
    record {
      usable = usable;
      feasible = accepted.feasible;
      keeps = v.keeps;
      states = accepted.states;
      cost = accepted.cost ∙ sym accepted.states;
      least = λ other sound keeps. bounds y.night y.pins y.plan y.certificate y.certificate.bound other is.night is.plan v.keeps is.certificate usable with_bound sound keeps;
    }

pub done_bounds : (judges : Judges) (bounds : Bounds) (s t i p k : List ℕ) (old new : Seen) → Ends (CheckPinned s t i p k) old new status.Done
    → (files : Files) × Agrees old.files files × ((y : PinChecked) × (pin_check_in s t i p k files ≡ Ok y) × BoundsKept y
    × IsWhole (says outcome.Done (verdict_of y.night y.certificate (verdict.Accepted y.certificate.bound))) old new)
done_bounds judges bounds s t i p k old new ends =
    let h = has_reply (CheckPinned s t i p k) outcome.Done old new ends in
    let files = h.1.0 in
    let at = answered (pin_check_in s t i p k files) h.0 h.2 h.1.2 in
    let y = at.0 in
    let v = own y h.0 h.2 at.2 in
    let accepts = done_accepts v.1.verdict (sym (kept_outcome y h.0 v.1) ∙ h.2) in
    let told : h.0 ≡ says outcome.Done (verdict_of y.night y.certificate (verdict.Accepted y.certificate.bound)) =
    v.1.reply ∙ ap (λ (w : Verdict). says (check_outcome w) (verdict_of y.night y.certificate w)) (bound_told y.night y.pins y.plan y.certificate v.1.verdict v.1.told accepts) in (
      files,
      h.1.1,
      (
        y,
        at.1,
        bounds_kept judges bounds y h.0 v.1 (formed (content files s) (content files t) (content files i) (content files p) (content files k) y at.1) v.0 accepts,
        subst (λ r. IsWhole r old new) told h.3,
      ),
    )
