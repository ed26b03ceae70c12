-- What `improve` searches for.
use Rattle.std.proofs.Common.{◌≡◌, ◌<◌, ◌≤◌, Some, sym, subst, ap, inl, inr, refl, ⊎_elim, Result, Ok, Err, List, [], ◌∙◌, ℕ, arith}
use Rattle.std.specs.Prelude.{◌⊎◌}
use Rattle.shunt_store.specs.defs.Files.{Files, content}
use Rattle.shunt_store.specs.defs.Causes.{Rose}
use Rattle.shunt_rows.specs.defs.Records.{records_of}
use Rattle.shunt_instance.specs.defs.Instance.{Night, IsInstance}
use Rattle.shunt_matching.specs.defs.Nights.{HasMatching}
use Rattle.shunt_blocks.specs.declared.records.Block.{Block}
use Rattle.shunt_blocks.specs.defs.Lists.{AreInRange, IsFeasible, total_cost, units_taken, positions_taken}
use Rattle.shunt_blocks.specs.defs.Pins.{AreUsable, Keeps}
use Rattle.shunt_choices.specs.defs.Choices.{partial_plans}
use Rattle.shunt_plan.specs.declared.records.Plan.{Plan}
use Rattle.shunt_plan.specs.defs.Plans.{IsPlanInRange}
use Rattle.shunt_plan.specs.defs.PlanFormat.{plan_format}
use Rattle.shunt_plan.proofs.Formed.{plan_formed}
use Rattle.shunt_proof.specs.declared.records.Certificate.{Certificate}
use Rattle.shunt_audit.specs.defs.Plans.{ArePlanFindings}
use Rattle.shunt_audit.proofs.Stated.{only_plan}
use Rattle.shunt_rows.specs.declared.words.FileWord.TheVariants as word
use Rattle.shunt_inputs.specs.declared.answers.Outcome.{Outcome}
use Rattle.shunt_inputs.specs.declared.answers.Outcome.TheVariants as outcome
use Rattle.shunt_inputs.specs.declared.pins.Pinned.{Pinned}
use Rattle.shunt_inputs.specs.defs.Inputs.{Agrees, stated_plan, pinned_in}
use Rattle.shunt_inputs.specs.defs.Replies.{Reply, Decided}
use Rattle.shunt_inputs.proofs.Stated.{parted, pins_stated, stated_value}
use Rattle.shunt_judging.specs.defs.Audited.{IsClean}
use Rattle.shunt_planning.specs.defs.Planned.{planned, search_outcome}
use Rattle.shunt_planning.specs.defs.Improved.{IsFit, IsImproved, IsInHand, IsUnfit, in_hand_in}
use Rattle.shunt_planning.specs.defs.Found.{AreStated}
use Rattle.shunt.specs.declared.status.Status.{Status}
use Rattle.shunt.specs.declared.status.Status.TheVariants as status
use Rattle.shunt.specs.defs.Calls.{Improve}
use Rattle.shunt.specs.defs.Ends.{Seen, Ends, IsWhole, Yields, the_status}
use Rattle.shunt.proofs.Audits.{FoundNone}
use Rattle.shunt.proofs.Exactly.{has_reply, unfit_outcome, unusable_outcome}
use Rattle.shunt.proofs.PinChecks.{lost_kept}
use Rattle.shunt.proofs.Planned.{UsableLaw}
use Rattle.shunt.proofs.Searched as searched

-- ---- what the files state

record IsFormed (x : Pinned × Plan) : Type 0 where
  night : IsInstance x.0.instance
  pins : AreInRange x.0.instance x.0.pins
  plan : IsPlanInRange x.0.instance x.1

formed : (s t i h : List ℕ) (files : Files) (x : Pinned × Plan) → in_hand_in s t i h files ≡ Ok x → IsFormed x
formed s t i h files x is =
    let first = parted (pinned_in s t i files) _ x is in
    let night = first.0.instance in
    let second = parted (stated_plan night (content files h)) _ x first.2 in
    let made : (first.0, second.0) ≡ x = cc (second.2) in
    let of_pins = pins_stated (content files s) (content files t) (content files i) first.0 first.1 in
    subst IsFormed made (record {
      night = of_pins.0;
      pins = of_pins.1;
      plan = plan_formed night (records_of (content files h)) second.0 (stated_value word.Plan (plan_format night) (content files h) second.0 second.1);
    })

-- the night and the pins are those that the first three files state
pub pins_in : (s t i h : List ℕ) (files : Files) (x : Pinned × Plan) → in_hand_in s t i h files ≡ Ok x → pinned_in s t i files ≡ Ok x.0
pins_in s t i h files x is =
    let first = parted (pinned_in s t i files) _ x is in
    let second = parted (stated_plan first.0.instance (content files h)) _ x first.2 in
    let made : (first.0, second.0) ≡ x = cc (second.2) in
    subst (λ (y : Pinned × Plan). pinned_in s t i files ≡ Ok y.0) made first.1

-- ---- which plans in hand are fit

-- what the laws of the crates below say
pub record ImproveLaws : Type 0 where
  pub usable : UsableLaw
  pub none : FoundNone
  pub matching : (night : Night) (pins blocks : List Block) → IsFeasible night blocks → Keeps blocks pins → HasMatching night (units_taken night pins) (positions_taken night pins)

module _ (laws : ImproveLaws) (x : Pinned × Plan) (is : IsFormed x) where
  clean : ArePlanFindings x.0.instance x.1 [] → IsClean (x.0.instance, x.1)
  clean told = (laws.none x.0.instance x.1 is.night is.plan.blocks).0 (sym (only_plan x.0.instance x.1 [] is.plan.blocks told.in_order told.exactly))

  ready : AreUsable x.0.instance x.0.pins → IsFit x.0.instance x.0.pins x.1 → IsInHand x
  ready usable fit = record { usable = usable; clean = clean fit.none; keeps = fit.keeps }

  unready : (r : Reply) → IsUnfit x.0.instance x.0.pins x.1 r → IsInHand x → ⊥
  unready r (inl f) ok = f.some (only_plan x.0.instance x.1 f.findings is.plan.blocks f.told.in_order f.told.exactly
      ∙ (laws.none x.0.instance x.1 is.night is.plan.blocks).1 ok.clean)
  unready r (inr (none, l)) ok = lost_kept x.1.blocks x.0.pins l.id l.first ok.keeps

-- ---- the search

abbrev pub improve_search : (s t i h : List ℕ) (m : ℕ) (p k : List ℕ) → searched.Search (Improve s t i h m p k)
improve_search s t i h m p k = record {
  night = λ x. x.0.instance;
  pins = λ x. x.0.pins;
  units = λ x. units_taken x.0.instance x.0.pins;
  places = λ x.
      positions_taken x.0.instance x.0.pins;
  most = m;
  plan = p;
  certificate = k;
  ready = IsInHand;
}

module _ (laws : ImproveLaws) (s t i h : List ℕ) (m : ℕ) (p k : List ℕ) where
  seeks : (files : Files) (x : Pinned × Plan) (r : Reply) → in_hand_in s t i h files ≡ Ok x → IsImproved m p k x r
      → searched.Seeks (Improve s t i h m p k) (improve_search s t i h m p k) x r
  seeks files x r ok (inl f) =
      let is = formed s t i h files x ok in
      inl (λ ready. f.some ((laws.usable x.0.instance x.0.pins is.night is.pins).1 ready.usable), unusable_outcome x.0.instance x.0.pins r f)
  seeks files x r ok (inr (usable, inl unfit)) = inl (unready laws x (formed s t i h files x ok) r unfit, unfit_outcome x.0.instance x.0.pins x.1 r unfit)
  seeks files x r ok (inr (usable, inr (fit, is))) = inr (
    ready laws x (formed s t i h files x ok) usable fit,
    inl (laws.matching x.0.instance x.0.pins x.1.blocks fit.feasible fit.keeps, is.planned),
  )

  pub improve_answers : searched.Answers (Improve s t i h m p k) (improve_search s t i h m p k)
  improve_answers = record {
    seeks = seeks;
    formed = λ files x ok. (formed s t i h files x ok).night;
    usable = λ x ready. ready.usable;
  }

  -- a matching exists wherever it searches
  matched : (x : Pinned × Plan) → IsInHand x → HasMatching x.0.instance (units_taken x.0.instance x.0.pins) (positions_taken x.0.instance x.0.pins)
  matched x ready = laws.matching x.0.instance x.0.pins x.1.blocks ready.clean.0 ready.keeps

  pub never_no_matching : (old new : Seen) → Ends (Improve s t i h m p k) old new status.NoMatching → ⊥
  never_no_matching old new e =
      let f = searched.no_matching_only (Improve s t i h m p k) (improve_search s t i h m p k) improve_answers old new e in
      let some = matched f.2.0 f.2.2 in
      f.2.3 some.0 some.1

  pub improve_done : (old new : Seen) (x : Status) (files : Files) (v : Pinned × Plan) → old.files ≡ Some files → in_hand_in s t i h files ≡ Ok v
      → IsInHand v → partial_plans v.0.instance v.0.pins < m → Ends (Improve s t i h m p k) old new x → (x ≡ status.Done) ⊎ Yields x
  improve_done old new x files v known ok good fewer e = searched.done_there (Improve s t i h m p k) (improve_search s t i h m p k) improve_answers old new x files v known ok good
      (matched v good) fewer e

  pub improve_ends : (old new : Seen) (x : Status) (files : Files) (v : Pinned × Plan) → old.files ≡ Some files → in_hand_in s t i h files ≡ Ok v
      → (Rose old.store_faults new.store_faults → ⊥) → (Rose old.sink_faults new.sink_faults → ⊥) → Ends (Improve s t i h m p k) old new x
      → (x ≡ status.Findings) ⊎ ((x ≡ status.Done) ⊎ ((x ≡ status.Unfinished) ⊎ (x ≡ status.Memory)))
  improve_ends old new x files v known ok ns nk e = ⊎_elim inl
      (λ well. inr (⊎_elim inl (λ rest. inr (⊎_elim (λ is. absurd (never_no_matching old new (subst (Ends (Improve s t i h m p k) old new) is e))) (λ left. left) rest)) well))
      (searched.ends_well (Improve s t i h m p k) (improve_search s t i h m p k) improve_answers old new x files v known ok ns nk e)

  -- ---- never worse

  record Improves (o : Outcome) (old new : Seen) : Type 0 where
    files : Files
    agrees : Agrees old.files files
    value : Pinned × Plan
    ok : in_hand_in s t i h files ≡ Ok value
    plan : Plan
    certificate : Certificate
    stated : AreStated value.0.instance value.0.pins plan certificate
    ready : IsInHand value
    cheap : total_cost value.0.instance plan.blocks ≤ total_cost value.0.instance value.1.blocks
    whole : IsWhole (planned o p k value.0.instance plan certificate) old new

  -- an outcome of accepted files is that of the answer on what they state
  answered : (o : Outcome) (x : Result (Pinned × Plan) (List ℕ)) (r : Reply) → (o ≡ outcome.Input → ⊥) → r.outcome ≡ o → Decided x (IsImproved m p k) r
      → (v : Pinned × Plan) × (x ≡ Ok v) × IsImproved m p k v r
  answered o (Err text) r other e is = absurd (other (sym e ∙ ap (λ (q : Reply). q.outcome) is))
  answered o (Ok v) r other e is = (v, refl, is)

  improves : (o : Outcome) (old new : Seen) (files : Files) (agrees : Agrees old.files files) (v : Pinned × Plan) (r : Reply) → (o ≡ outcome.Findings → ⊥)
      → in_hand_in s t i h files ≡ Ok v → r.outcome ≡ o → IsWhole r old new → IsImproved m p k v r → Improves o old new
  improves o old new files agrees v r other ok e whole (inl f) = absurd (other (sym e ∙ unusable_outcome v.0.instance v.0.pins r f))
  improves o old new files agrees v r other ok e whole (inr (usable, inl unfit)) = absurd (other (sym e ∙ unfit_outcome v.0.instance v.0.pins v.1 r unfit))
  improves o old new files agrees v r other ok e whole (inr (usable, inr (fit, is))) =
      let found = is.planned in
      let end : search_outcome found.certificate.cost found.certificate.bound ≡ o = sym (ap (λ (q : Reply). q.outcome) found.reply) ∙ e in
      let states = found.meet.plan_for.states in
      let cost = is.cost in
      record {
        files = files;
        agrees = agrees;
        value = v;
        ok = ok;
        plan = found.plan;
        certificate = found.certificate;
        stated = record { in_range = found.in_range; statable = found.statable; accepted = found.meet.accepted; above_root = found.meet.above_root; steady = found.meet.steady };
        ready = ready laws v (formed s t i h files v ok) usable fit;
        cheap = omega (arith, states, cost);
        whole = subst (λ q. IsWhole q old new) (found.reply ∙ ap (λ (y : Outcome). planned y p k v.0.instance found.plan found.certificate) end) whole;
      }

  pub never_worse : (o : Outcome) (old new : Seen) → (o ≡ outcome.Input → ⊥) → (o ≡ outcome.Findings → ⊥) → Ends (Improve s t i h m p k) old new (the_status o)
      → (files : Files) × Agrees old.files files × ((x : Pinned × Plan) × (in_hand_in s t i h files ≡ Ok x)
      × IsInHand x × ((plan : Plan) × (c : Certificate) × AreStated x.0.instance x.0.pins plan c × (total_cost x.0.instance plan.blocks ≤ total_cost x.0.instance x.1.blocks)
      × IsWhole (planned o p k x.0.instance plan c) old new))
  never_worse o old new input other e =
      let had = has_reply (Improve s t i h m p k) o old new e in
      let at = answered o (in_hand_in s t i h had.1.0) had.0 input had.2 had.1.2 in
      let f = improves o old new had.1.0 had.1.1 at.0 had.0 other at.1 had.2 had.3 at.2 in
      (f.files, f.agrees, (f.value, f.ok, f.ready, (f.plan, f.certificate, f.stated, f.cheap, f.whole)))
