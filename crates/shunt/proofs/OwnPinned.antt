-- The files that `pinned` and `improve` leave are accepted by `check-pinned`.
use Rattle.std.proofs.Common.{◌≡◌, Some, subst, ap, inl, inr, refl, Ok, List, [], ◌∷◌, ◌++◌, ◌∙◌, ℕ}
use Rattle.std.specs.Prelude.{◌⊎◌}
use Rattle.shunt_lists.specs.defs.Members.{In}
use Rattle.shunt_store.specs.defs.Files.{Files, content}
use Rattle.shunt_instance.specs.defs.Instance.{Night, IsInstance}
use Rattle.shunt_blocks.specs.declared.records.Block.{Block}
use Rattle.shunt_blocks.specs.defs.Pins.{AreUsable}
use Rattle.shunt_plan.specs.declared.records.Plan.{Plan}
use Rattle.shunt_plan.specs.defs.Plans.{IsPlanInRange}
use Rattle.shunt_proof.specs.declared.records.Certificate.{Certificate}
use Rattle.shunt_proof.specs.defs.Certificates.{IsCertificate}
use Rattle.shunt_inputs.specs.declared.answers.Outcome.{Outcome}
use Rattle.shunt_inputs.specs.declared.answers.Outcome.TheVariants as outcome
use Rattle.shunt_inputs.specs.declared.pins.Pinned.{Pinned}
use Rattle.shunt_inputs.specs.defs.Inputs.{pinned_in, stated_certificate, stated_pinned, stated_plan, then_stated}
use Rattle.shunt_inputs.specs.defs.Names.{AreNames}
use Rattle.shunt_inputs.specs.defs.Replies.{Reply}
use Rattle.shunt_judging.specs.defs.Pinned.{IsPinProved, PinChecked, pin_check_in, stated_over_pins, stated_pin_check}
use Rattle.shunt_planning.specs.defs.Planned.{IsPlanned, certificate_file, plan_file}
use Rattle.shunt.specs.declared.status.Status.{Status}
use Rattle.shunt.specs.declared.status.Status.TheVariants as status
use Rattle.shunt.specs.defs.Calls.{Call, CheckPinned, MakePinned, Improve}
use Rattle.shunt.specs.defs.Words.{IsUsable}
use Rattle.shunt.specs.defs.Ends.{Seen, Ends, Yields}
use Rattle.shunt.proofs.Asked.{pin_checkable}
use Rattle.shunt.proofs.Checked.{Judges}
use Rattle.shunt.proofs.Either.{done_there}
use Rattle.shunt_trial.proofs.Left.{TextLaws, plan_back, certificate_back, left, input_kept, plan_there, certificate_there}
use Rattle.shunt.proofs.OwnPlans.{both_known}
use Rattle.shunt.proofs.PinChecks.{parts}
use Rattle.shunt.proofs.Planned.{UsableLaw, pinned_search, pinned_answers}
use Rattle.shunt.proofs.Improved.{ImproveLaws, improve_search, improve_answers, pins_in}
use Rattle.shunt.proofs.Searched.{Answers, Finds, Search, finds}

abbrev stated_for : Night → List Block → Plan → Certificate → PinChecked
stated_for night pins plan certificate = record { night = night; pins = pins; plan = plan; certificate = certificate }

over_is : (night : Night) (pins : List Block) (p k : List ℕ) (plan : Plan) (certificate : Certificate) → stated_plan night p ≡ Ok plan → stated_certificate night k ≡ Ok certificate
    → stated_over_pins night pins p k ≡ Ok (stated_for night pins plan certificate)
over_is night pins p k plan certificate a b =
    ap (λ r. then_stated r (λ (q : Plan). then_stated (stated_certificate night k) (λ c. Ok (stated_for night pins q c)))) a
    ∙ ap (λ r. then_stated r (λ c. Ok (stated_for night pins plan c))) b

checked_over : (s t i p k : List ℕ) (x : Pinned) (y : PinChecked) → stated_pinned s t i ≡ Ok x → stated_over_pins x.instance x.pins p k ≡ Ok y → stated_pin_check s t i p k ≡ Ok y
unfolding stated_pin_check
checked_over s t i p k x y a b = ap (λ r. then_stated r (λ z. stated_over_pins z.instance z.pins p k)) a ∙ b

-- ---- a plan and a certificate that were written beside the files of a night and its pins

module _ (laws : TextLaws) (ns : List (List ℕ)) (s t i p k : List ℕ) (names : AreNames (ns ++ p ∷ k ∷ [])) (of_station : In s ns) (of_timetable : In t ns) (of_pins : In i ns)
    (files : Files) (x : Pinned) (plan : Plan) (c : Certificate) where
  abbrev here : Files
  here = left ns p k names files (plan_file x.instance plan) (certificate_file x.instance c)

  value_left : pinned_in s t i files ≡ Ok x → IsInstance x.instance → IsPlanInRange x.instance plan → IsCertificate x.instance c
      → pin_check_in s t i p k here ≡ Ok (pin_checkable x plan c)
  value_left ok of_night in_range statable =
      let night = x.instance in
      let station = input_kept ns p k names files (plan_file night plan) (certificate_file night c) s of_station in
      let timetable = input_kept ns p k names files (plan_file night plan) (certificate_file night c) t of_timetable in
      let pins = input_kept ns p k names files (plan_file night plan) (certificate_file night c) i of_pins in
      let its_plan = plan_there ns p k names files (plan_file night plan) (certificate_file night c) in
      let its_certificate = certificate_there ns p k names files (plan_file night plan) (certificate_file night c) in
      checked_over (content here s) (content here t) (content here i) (content here p) (content here k) x (pin_checkable x plan c)
      (ap (λ a. stated_pinned a (content here t) (content here i)) station ∙ ap (λ a. stated_pinned (content files s) a (content here i)) timetable
      ∙ ap (stated_pinned (content files s) (content files t)) pins ∙ ok)
      (over_is night x.pins (content here p) (content here k) plan c
      (ap (stated_plan night) its_plan ∙ plan_back laws night of_night plan in_range)
      (ap (stated_certificate night) its_certificate ∙ certificate_back laws night of_night c statable))

-- ---- a search over pins that left them

-- what a search found that ended so
found : (c : Call) (q : Search c) (answers : Answers c q) (old mid : Seen) (first : Status) → Ends c old mid first
    → (first ≡ status.Done) ⊎ (first ≡ status.Unfinished) → (o : Outcome) × Finds c q o old mid
found c q answers old mid first made (inl e) = (outcome.Done, finds c q answers outcome.Done old mid (λ e. cc) (λ e. cc) (λ e. cc) (subst (Ends c old mid) e made))
found c q answers old mid first made (inr e) = (outcome.Unfinished, finds c q answers outcome.Unfinished old mid (λ e. cc) (λ e. cc) (λ e. cc) (subst (Ends c old mid) e made))

module _ (usables : UsableLaw) (judges : Judges) (laws : TextLaws) (ns : List (List ℕ)) (s t i : List ℕ) (m : ℕ) (p k : List ℕ) (names : AreNames (ns ++ p ∷ k ∷ []))
    (of_station : In s ns) (of_timetable : In t ns) (of_pins : In i ns) where
  accepted_left : (files known : Files) (x : Pinned) (r : Reply) (is : IsPlanned x.pins m p k x.instance r) → pinned_in s t i files ≡ Ok x → IsInstance x.instance
      → AreUsable x.instance x.pins
      → known ≡ left ns p k names files (plan_file x.instance is.plan) (certificate_file x.instance is.certificate)
      → (before new : Seen) (y : Status) → before.files ≡ Some known → Ends (CheckPinned s t i p k) before new y → (y ≡ status.Done) ⊎ Yields y
  accepted_left files known x r is ok of_night usable wrote before new y told ends =
      let value = value_left laws ns s t i p k names of_station of_timetable of_pins files x is.plan is.certificate ok of_night is.in_range is.statable in
      let proved : IsPinProved (pin_checkable x is.plan is.certificate) = record { usable = usable; accepted = is.meet.accepted } in
      done_there (CheckPinned s t i p k) IsPinProved (parts usables judges s t i p k) before new y known (pin_checkable x is.plan is.certificate) told
      (ap (pin_check_in s t i p k) wrote ∙ value) proved ends

module _ (usables : UsableLaw) (judges : Judges) (laws : TextLaws) (s t i : List ℕ) (m : ℕ) (p k : List ℕ) (usable : IsUsable (MakePinned s t i m p k)) (old mid : Seen)
    (files : Files) (told : mid.files ≡ Some files) where
  pub accepted : (before new : Seen) (first x : Status) → Ends (MakePinned s t i m p k) old mid first
      → (first ≡ status.Done) ⊎ (first ≡ status.Unfinished) → before.files ≡ Some files → Ends (CheckPinned s t i p k) before new x
      → (x ≡ status.Done) ⊎ Yields x
  accepted before new first x made is known ends =
      let f = (found (MakePinned s t i m p k) (pinned_search s t i m p k) (pinned_answers usables s t i m p k) old mid first made is).1 in
      accepted_left usables judges laws (s ∷ t ∷ i ∷ []) s t i m p k usable.0 (inl refl) (inr (inl refl))
      (inr (inr (inl refl))) f.files files f.value f.reply f.is f.ok f.formed f.usable
      (both_known _ old.files mid.files f.files files f.whole.files f.agrees told) before new x known ends

module _ (improves : ImproveLaws) (judges : Judges) (laws : TextLaws) (s t i h : List ℕ) (m : ℕ) (p k : List ℕ) (usable : IsUsable (Improve s t i h m p k)) (old mid : Seen)
    (files : Files) (told : mid.files ≡ Some files) where
  pub improved_accepted : (before new : Seen) (first x : Status) → Ends (Improve s t i h m p k) old mid first
      → (first ≡ status.Done) ⊎ (first ≡ status.Unfinished) → before.files ≡ Some files → Ends (CheckPinned s t i p k) before new x
      → (x ≡ status.Done) ⊎ Yields x
  improved_accepted before new first x made is known ends =
      let f = (found (Improve s t i h m p k) (improve_search s t i h m p k) (improve_answers improves s t i h m p k) old mid first made is).1 in
      accepted_left improves.usable judges laws (s ∷ t ∷ i ∷ h ∷ []) s t i m p k usable.0 (inl refl) (inr (inl refl)) (inr (inr (inl refl))) f.files files f.value.0 f.reply f.is
      (pins_in s t i h f.files f.value f.ok) f.formed f.usable
      (both_known _ old.files mid.files f.files files f.whole.files f.agrees told) before new x known ends
