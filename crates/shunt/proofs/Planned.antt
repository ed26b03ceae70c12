-- What `plan` and `pinned` search for.
use Rattle.std.proofs.Common.{◌≡◌, Some, inl, inr, ⊎_elim, subst, Ok, List, [], ap, ℕ}
use Rattle.std.specs.Prelude.{◌↔◌, ◌⊎◌}
use Rattle.shunt_store.specs.defs.Files.{Files, content}
use Rattle.shunt_store.specs.defs.Causes.{Rose}
use Rattle.shunt_instance.specs.defs.Instance.{Night, IsInstance}
use Rattle.shunt_blocks.specs.declared.records.Block.{Block}
use Rattle.shunt_blocks.specs.defs.Lists.{AreInRange, units_taken, positions_taken}
use Rattle.shunt_blocks.specs.defs.Pins.{AreUsable}
use Rattle.shunt_audit.specs.defs.Pins.{pin_findings}
use Rattle.shunt_inputs.specs.declared.pins.Pinned.{Pinned}
use Rattle.shunt_inputs.specs.defs.Inputs.{Agrees, pinned_in, stated_night}
use Rattle.shunt_inputs.specs.defs.Replies.{Reply}
use Rattle.shunt_inputs.proofs.Stated.{night_stated, pins_stated}
use Rattle.shunt_planning.specs.defs.Planned.{IsPinned, IsSought}
use Rattle.shunt_planning.proofs.Sought.{usable_none}
use Rattle.shunt.specs.declared.status.Status.{Status}
use Rattle.shunt.specs.declared.status.Status.TheVariants as status
use Rattle.shunt.specs.defs.Calls.{MakePlan, MakePinned}
use Rattle.shunt.specs.defs.Ends.{Seen, Ends, Yields}
use Rattle.shunt.proofs.Exactly.{unusable_outcome}
use Rattle.shunt.proofs.Searched as searched

-- ---- `plan`, which has no pins

module _ (s t : List ℕ) (m : ℕ) (p k : List ℕ) where
  abbrev pub plan_search : searched.Search (MakePlan s t m p k)
  plan_search = record {
    night = λ night. night;
    pins = λ night. [];
    units = λ night. [];
    places = λ night. [];
    most = m;
    plan = p;
    certificate = k;
    ready = λ night.
        AreUsable night [];
  }

  pub plan_answers : searched.Answers (MakePlan s t m p k) plan_search
  plan_answers = record {
    seeks = λ files night r ok is. inr (usable_none night, is);
    formed = λ files night ok. night_stated (content files s) (content files t) night ok;
    usable = λ night ready. ready;
  }

  pub no_findings : (old new : Seen) → Ends (MakePlan s t m p k) old new status.Findings → ⊥
  no_findings old new e = let f = searched.findings_only (MakePlan s t m p k) plan_search plan_answers old new e in f.2.2 (usable_none f.2.0)

  pub ends_well : (old new : Seen) (x : Status) (files : Files) (night : Night) → old.files ≡ Some files → stated_night (content files s) (content files t) ≡ Ok night
      → (Rose old.store_faults new.store_faults → ⊥) → (Rose old.sink_faults new.sink_faults → ⊥) → Ends (MakePlan s t m p k) old new x → searched.EndsSearch x
  ends_well old new x files night known ok ns nk e =
      ⊎_elim (λ is. absurd (no_findings old new (subst (Ends (MakePlan s t m p k) old new) is e))) (λ well. well)
      (searched.ends_well (MakePlan s t m p k) plan_search plan_answers old new x files night known ok ns nk e)

-- ---- `pinned`

-- that pins have no finding exactly when they are usable
abbrev pub UsableLaw : Type 0
UsableLaw = (night : Night) (pins : List Block) → IsInstance night → AreInRange night pins → (pin_findings night pins ≡ []) ↔ AreUsable night pins

abbrev pub pinned_search : (s t i : List ℕ) (m : ℕ) (p k : List ℕ) → searched.Search (MakePinned s t i m p k)
pinned_search s t i m p k = record {
  night = λ x. x.instance;
  pins = λ x. x.pins;
  units = λ x. units_taken x.instance x.pins;
  places = λ x.
      positions_taken x.instance x.pins;
  most = m;
  plan = p;
  certificate = k;
  ready = λ x. AreUsable x.instance x.pins;
}

module _ (law : UsableLaw) (s t i : List ℕ) (m : ℕ) (p k : List ℕ) where
  pinned_seeks : (files : Files) (x : Pinned) (r : Reply) → pinned_in s t i files ≡ Ok x → IsPinned m p k x r
      → searched.Seeks (MakePinned s t i m p k) (pinned_search s t i m p k) x r
  pinned_seeks files x r ok (inl f) =
      let formed = pins_stated (content files s) (content files t) (content files i) x ok in
      inl (λ usable. f.some ((law x.instance x.pins formed.0 formed.1).1 usable), unusable_outcome x.instance x.pins r f)
  pinned_seeks files x r ok (inr is) = inr is

  pub pinned_answers : searched.Answers (MakePinned s t i m p k) (pinned_search s t i m p k)
  pinned_answers = record {
    seeks = pinned_seeks;
    formed = λ files x ok. (pins_stated (content files s) (content files t) (content files i) x ok).0;
    usable = λ x ready. ready;
  }
