-- When each status of `compare` comes.
use Rattle.std.proofs.Common.{◌≡◌, ◌⊎◌, Some, sym, subst, ap, inl, inr, refl, ⊎_elim, Result, Ok, Err, List, [], ◌∷◌, ◌∙◌, ℕ}
use Rattle.std.specs.Prelude.{◌↔◌}
use Rattle.shunt_store.specs.defs.Files.{Files, content}
use Rattle.shunt_store.specs.defs.Causes.{Rose}
use Rattle.shunt_rows.specs.defs.Records.{records_of}
use Rattle.shunt_instance.specs.defs.Instance.{Night, IsInstance}
use Rattle.shunt_blocks.specs.declared.records.Block.{Block}
use Rattle.shunt_blocks.specs.defs.Lists.{IsFeasible}
use Rattle.shunt_blocks.specs.defs.Pins.{Keeps}
use Rattle.shunt_plan.specs.declared.records.Plan.{Plan}
use Rattle.shunt_plan.specs.defs.PlanFormat.{plan_format}
use Rattle.shunt_plan.specs.defs.Plans.{IsPlanInRange}
use Rattle.shunt_plan.proofs.Formed.{plan_formed}
use Rattle.shunt_audit.specs.declared.types.Finding.{Finding}
use Rattle.shunt_audit.specs.defs.Plans.{ArePlanFindings, plan_findings}
use Rattle.shunt_audit.proofs.Stated.{only_plan}
use Rattle.shunt_compare.specs.declared.records.Change.{Change}
use Rattle.shunt_compare.specs.declared.records.Comparison.{Comparison}
use Rattle.shunt_compare.specs.defs.Changes.{IsComparison}
use Rattle.shunt_rows.specs.declared.words.FileWord.TheVariants as word
use Rattle.shunt_inputs.specs.declared.answers.Outcome.{Outcome}
use Rattle.shunt_inputs.specs.declared.answers.Outcome.TheVariants as outcome
use Rattle.shunt_inputs.specs.defs.Inputs.{Agrees, stated_plans, stated_other}
use Rattle.shunt_inputs.specs.defs.Replies.{Reply, Decided}
use Rattle.shunt_inputs.proofs.Stated.{parted, plan_stated, stated_value}
use Rattle.shunt_judging.specs.defs.Audited.{IsClean, IsFaulty}
use Rattle.shunt_dispatch.specs.defs.Compared.{Comparable, stated_comparison, comparison_in, AreAlike, compared_outcome, IsOtherFaulty, HasComparison, IsCompared}
use Rattle.shunt.specs.declared.status.Status.{Status}
use Rattle.shunt.specs.declared.status.Status.TheVariants as status
use Rattle.shunt.specs.defs.Calls.{Compare}
use Rattle.shunt.specs.defs.Ends.{Seen, Ends, Yields, the_status}
use Rattle.shunt.proofs.Exactly.{decides, has_reply, completes, reply_at, faulty_outcome, EndsAs}
use Rattle.shunt.proofs.Audits.{FoundNone, EndsWell}

-- ---- what the files state

compared : (x : Result Comparable (List ℕ)) (y : Comparable) (r : Reply) → x ≡ Ok y → Decided x IsCompared r → IsCompared y r
compared x y r e is = subst (λ x. Decided x IsCompared r) e is

record IsFormed (y : Comparable) : Type 0 where
  night : IsInstance y.night
  plan : IsPlanInRange y.night y.plan
  other : IsPlanInRange y.night y.other

formed : (s t p o : List ℕ) (y : Comparable) → stated_comparison s t p o ≡ Ok y → IsFormed y
unfolding stated_comparison
formed s t p o y is =
    let first = parted (stated_plans s t p) _ y is in
    let second = parted (stated_other first.0.0 o) _ y first.2 in
    let made : record { night = first.0.0; plan = first.0.1; other = second.0 } ≡ y = cc (second.2) in
    let of_plan = plan_stated s t p first.0 first.1 in
    subst IsFormed made (record {
      night = of_plan.0;
      plan = of_plan.1;
      other = plan_formed first.0.0 (records_of o) second.0 (stated_value word.Other (plan_format first.0.0) o second.0 second.1);
    })

-- ---- what an answer tells

-- what the two plans have in common decides whether nothing is otherwise
abbrev pub Compares : Type 0
Compares = (night : Night) (was now : List Block) (c : Comparison) → IsInstance night → IsFeasible night was → IsFeasible night now → IsComparison night was now c
    → ((c.changes ≡ []) × (c.regrouped ≡ [])) ↔ (Keeps was now × Keeps now was)

nothing_done : (changes : List Change) (regrouped : List Block) → changes ≡ [] → regrouped ≡ [] → compared_outcome changes regrouped ≡ outcome.Done
nothing_done [] [] e f = refl
nothing_done (c ∷ changes) regrouped e f = absurd (let h : (c ∷ changes) ≡ [] = e in cc)
nothing_done [] (b ∷ regrouped) e f = absurd (let h : (b ∷ regrouped) ≡ [] = f in cc)

done_nothing : (changes : List Change) (regrouped : List Block) → compared_outcome changes regrouped ≡ outcome.Done → (changes ≡ []) × (regrouped ≡ [])
done_nothing [] [] e = (refl, refl)
done_nothing (c ∷ changes) regrouped e = absurd (let h : outcome.Findings ≡ outcome.Done = e in cc)
done_nothing [] (b ∷ regrouped) e = absurd (let h : outcome.Findings ≡ outcome.Done = e in cc)

either : (changes : List Change) (regrouped : List Block) → (compared_outcome changes regrouped ≡ outcome.Done) ⊎ (compared_outcome changes regrouped ≡ outcome.Findings)
either [] [] = inl refl
either (c ∷ changes) regrouped = inr refl
either [] (b ∷ regrouped) = inr refl

compared_is : (y : Comparable) (r : Reply) (d : HasComparison y r) → r.outcome ≡ compared_outcome d.comparison.changes d.comparison.regrouped
compared_is y r d = ap (λ (r : Reply). r.outcome) d.reply

module _ (none : FoundNone) (compares : Compares) (y : Comparable) (f : IsFormed y) where
  clean : (plan : Plan) → IsPlanInRange y.night plan → ArePlanFindings y.night plan [] → IsClean (y.night, plan)
  clean plan range told = (none y.night plan f.night range.blocks).0 (sym (only_plan y.night plan [] range.blocks told.in_order told.exactly))

  -- a plan with findings isn't clean
  found : (plan : Plan) (r : Reply) → IsPlanInRange y.night plan → IsFaulty (y.night, plan) r → IsClean (y.night, plan) → ⊥
  found plan r range faulty sound = faulty.some (only_plan y.night plan faulty.findings range.blocks faulty.told.in_order faulty.told.exactly
      ∙ (none y.night plan f.night range.blocks).1 sound)

  -- how the answer ends, and what that tells of the two plans
  ends_as : (r : Reply) → IsCompared y r → ((r.outcome ≡ outcome.Done) × AreAlike y) ⊎ ((r.outcome ≡ outcome.Findings) × (AreAlike y → ⊥))
  ends_as r (inl faulty) = inr (faulty_outcome (y.night, y.plan) r faulty, λ alike. found y.plan r f.plan faulty alike.clean)
  ends_as r (inr (inl h)) = inr (faulty_outcome (y.night, y.other) r h.faulty, λ alike. found y.other r f.other h.faulty alike.other_clean)
  ends_as r (inr (inr d)) = ⊎_elim
      (λ e. inl (
        compared_is y r d ∙ e,
        let same = law.0 (done_nothing d.comparison.changes d.comparison.regrouped e) in
            record { clean = of_plan; other_clean = of_other; keeps = same.0; kept = same.1 },
      ))
      (λ e. inr (
        compared_is y r d ∙ e,
        λ alike. let nothing = law.1 (alike.keeps, alike.kept) in
            let no : outcome.Done ≡ outcome.Findings = sym (nothing_done d.comparison.changes d.comparison.regrouped nothing.0 nothing.1) ∙ e in cc,
      ))
      (either d.comparison.changes d.comparison.regrouped)
    where
      of_plan : IsClean (y.night, y.plan)
      of_plan = clean y.plan f.plan d.none

      of_other : IsClean (y.night, y.other)
      of_other = clean y.other f.other d.other_none

      law : ((d.comparison.changes ≡ []) × (d.comparison.regrouped ≡ [])) ↔ (Keeps y.plan.blocks y.other.blocks × Keeps y.other.blocks y.plan.blocks)
      law = compares y.night y.plan.blocks y.other.blocks d.comparison f.night of_plan.0 of_other.0 d.told

-- what the files state where there is an answer that isn't that one of them isn't accepted
record Tells (x : Result Comparable (List ℕ)) (r : Reply) : Type 0 where
  value : Comparable
  ok : x ≡ Ok value
  is : IsCompared value r

tells : (x : Result Comparable (List ℕ)) (r : Reply) (out : Outcome) → (out ≡ outcome.Input → ⊥) → Decided x IsCompared r → r.outcome ≡ out → Tells x r
tells (Err text) r out other is e = absurd (other (sym e ∙ ap (λ (r : Reply). r.outcome) is))
tells (Ok y) r out other is e = record { value = y; ok = refl; is = is }

-- ---- exactly when each comes

module _ (none : FoundNone) (compares : Compares) (s t p o : List ℕ) (old new : Seen) where
  at_files : (files : Files) (y : Comparable) → comparison_in s t p o files ≡ Ok y → IsFormed y
  at_files files y ok = formed (content files s) (content files t) (content files p) (content files o) y ok

  pub done_there : (x : Status) (files : Files) (y : Comparable) → old.files ≡ Some files → comparison_in s t p o files ≡ Ok y → AreAlike y → Ends (Compare s t p o) old new x
      → (x ≡ status.Done) ⊎ Yields x
  done_there x files y known ok alike ends = decides (Compare s t p o) outcome.Done old new x files known
      (λ r is. ⊎_elim (λ h. h.0) (λ h. absurd (h.1 alike)) (ends_as none compares y (at_files files y ok) r (compared (comparison_in s t p o files) y r ok is))) ends

  pub findings_there : (x : Status) (files : Files) (y : Comparable) → old.files ≡ Some files → comparison_in s t p o files ≡ Ok y → (AreAlike y → ⊥)
      → Ends (Compare s t p o) old new x → (x ≡ status.Findings) ⊎ Yields x
  findings_there x files y known ok never ends = decides (Compare s t p o) outcome.Findings old new x files known
      (λ r is. ⊎_elim (λ h. absurd (never h.1)) (λ h. h.0) (ends_as none compares y (at_files files y ok) r (compared (comparison_in s t p o files) y r ok is))) ends

  pub done_only : Ends (Compare s t p o) old new status.Done → (files : Files) × Agrees old.files files × ((y : Comparable) × (comparison_in s t p o files ≡ Ok y) × AreAlike y)
  done_only ends =
      let h = has_reply (Compare s t p o) outcome.Done old new ends in
      let at = tells (comparison_in s t p o h.1.0) h.0 outcome.Done (λ e. cc) h.1.2 h.2 in (
        h.1.0,
        h.1.1,
        (
          at.value,
          at.ok,
          ⊎_elim (λ a. a.1) (λ a. absurd (let no : outcome.Findings ≡ outcome.Done = sym a.0 ∙ h.2 in cc))
              (ends_as none compares at.value (at_files h.1.0 at.value at.ok) h.0 at.is),
        ),
      )

  pub findings_only : Ends (Compare s t p o) old new status.Findings → (files : Files) × Agrees old.files files
      × ((y : Comparable) × (comparison_in s t p o files ≡ Ok y) × (AreAlike y → ⊥))
  findings_only ends =
      let h = has_reply (Compare s t p o) outcome.Findings old new ends in
      let at = tells (comparison_in s t p o h.1.0) h.0 outcome.Findings (λ e. cc) h.1.2 h.2 in (
        h.1.0,
        h.1.1,
        (
          at.value,
          at.ok,
          ⊎_elim (λ a. absurd (let no : outcome.Done ≡ outcome.Findings = sym a.0 ∙ h.2 in cc)) (λ a. a.1)
              (ends_as none compares at.value (at_files h.1.0 at.value at.ok) h.0 at.is),
        ),
      )

  never : (out : Outcome) → (out ≡ outcome.Done → ⊥) → (out ≡ outcome.Findings → ⊥) → (out ≡ outcome.Input → ⊥) → Ends (Compare s t p o) old new (the_status out) → ⊥
  never out a b d ends =
      let h = has_reply (Compare s t p o) out old new ends in
      let at = tells (comparison_in s t p o h.1.0) h.0 out d h.1.2 h.2 in
      ⊎_elim (λ k. a (sym h.2 ∙ k.0)) (λ k. b (sym h.2 ∙ k.0)) (ends_as none compares at.value (at_files h.1.0 at.value at.ok) h.0 at.is)

  pub no_matching : Ends (Compare s t p o) old new status.NoMatching → ⊥
  no_matching ends = never outcome.NoMatching (λ e. cc) (λ e. cc) (λ e. cc) ends

  pub no_unfinished : Ends (Compare s t p o) old new status.Unfinished → ⊥
  no_unfinished ends = never outcome.Unfinished (λ e. cc) (λ e. cc) (λ e. cc) ends

  -- ---- completeness

  pub ends_well : (x : Status) (files : Files) (y : Comparable) → old.files ≡ Some files → comparison_in s t p o files ≡ Ok y → (Rose old.store_faults new.store_faults → ⊥)
      → (Rose old.sink_faults new.sink_faults → ⊥) → Ends (Compare s t p o) old new x → EndsWell x
  ends_well x files y known ok ns nk ends = at (completes (Compare s t p o) old new x ns nk ends)
    where
      at : EndsAs (Compare s t p o) old x → EndsWell x
      at (inl m) = inr (inr m)
      at (inr h) = ⊎_elim
          (λ k. inl (h.2 ∙ ap the_status k.0))
          (λ k. inr (inl (h.2 ∙ ap the_status k.0)))
          (ends_as none compares y (at_files files y ok) h.0 (compared (comparison_in s t p o files) y h.0 ok (reply_at (Compare s t p o) old.files files h.0 known h.1)))
