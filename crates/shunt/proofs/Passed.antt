-- When each status of `zones` comes.
use Rattle.std.proofs.Common.{◌≡◌, Some, sym, subst, ap, inl, inr, refl, ⊎_elim, Result, Ok, Err, List, [], ◌∷◌, ◌∙◌, ℕ}
use Rattle.std.specs.Prelude.{◌↔◌, ◌⊎◌}
use Rattle.shunt_lists.specs.defs.Members.{In}
use Rattle.shunt_store.specs.defs.Files.{Files}
use Rattle.shunt_store.specs.defs.Causes.{Rose}
use Rattle.shunt_tracks.specs.declared.run.Event.{Event}
use Rattle.shunt_zones.specs.declared.records.Meet.{Meet}
use Rattle.shunt_zones.specs.defs.Meetings.{meets_in}
use Rattle.shunt_zones.proofs.InWords.{all_meets}
use Rattle.shunt_inputs.specs.declared.answers.Outcome.{Outcome}
use Rattle.shunt_inputs.specs.declared.answers.Outcome.TheVariants as outcome
use Rattle.shunt.specs.declared.status.Status.{Status}
use Rattle.shunt.specs.declared.status.Status.TheVariants as status
use Rattle.shunt.specs.defs.Calls.{Zones}
use Rattle.shunt_inputs.specs.defs.Inputs.{Agrees}
use Rattle.shunt_throat.specs.defs.Passed.{Passable, passing_in, IsPassed, NoneMeet, meets_outcome}
use Rattle.shunt_inputs.specs.defs.Replies.{Reply, Decided}
use Rattle.shunt.specs.defs.Ends.{Seen, Ends, Yields, the_status}
use Rattle.shunt.proofs.Exactly.{decides, has_reply, completes, reply_at, EndsAs}
use Rattle.shunt.proofs.Audits.{EndsWell}
use Rattle.shunt_lists.proofs.Members.{no_member}

-- ---- that nothing meets

never_in : {X : Type 0} (xs : List X) (x : X) → xs ≡ [] → In x xs → ⊥
never_in xs x e i = subst (In x) e i

abbrev meet_with : Event → Event → ℕ → Meet
meet_with e f zone = record { first = e; second = f; zone = zone }

none_where : (x : Passable) → (meets_in x.night x.zones x.plan ≡ []) ↔ NoneMeet x
none_where x = (
  λ none e f zone before meet. never_in (meets_in x.night x.zones x.plan) (meet_with e f zone) none ((all_meets x.night x.zones x.plan (meet_with e f zone)).1 (before, meet)),
  λ never. no_member (meets_in x.night x.zones x.plan) (λ m i. let h = (all_meets x.night x.zones x.plan m).0 i in never m.first m.second m.zone h.0 h.1),
)

some_met : (ms : List Meet) → (ms ≡ [] → ⊥) → meets_outcome ms ≡ outcome.Findings
some_met [] never_nil = absurd (never_nil refl)
some_met (m ∷ ms) never_nil = refl

none_met : (ms : List Meet) → meets_outcome ms ≡ outcome.Done → ms ≡ []
none_met [] e = refl
none_met (m ∷ ms) e = absurd (let h : outcome.Findings ≡ outcome.Done = e in cc)

met_some : (ms : List Meet) → meets_outcome ms ≡ outcome.Findings → ms ≡ [] → ⊥
met_some [] e nil = absurd (let h : outcome.Done ≡ outcome.Findings = e in cc)
met_some (m ∷ ms) e nil = absurd (let h : (m ∷ ms) ≡ [] = nil in cc)

-- ---- exactly when each comes

passed : (x : Result Passable (List ℕ)) (y : Passable) (r : Reply) → x ≡ Ok y → Decided x IsPassed r → IsPassed y r
passed x y r e is = subst (λ x. Decided x IsPassed r) e is

told_outcome : (y : Passable) (r : Reply) → IsPassed y r → r.outcome ≡ meets_outcome (meets_in y.night y.zones y.plan)
told_outcome y r a = ap (λ (r : Reply). r.outcome) a

pub done_there : (s t p z : List ℕ) (old new : Seen) (x : Status) (files : Files) (y : Passable) → old.files ≡ Some files → passing_in s t p z files ≡ Ok y → NoneMeet y
    → Ends (Zones s t p z) old new x → (x ≡ status.Done) ⊎ Yields x
done_there s t p z old new x files y known ok none ends =
    decides (Zones s t p z) outcome.Done old new x files known (λ r is.
    told_outcome y r (passed (passing_in s t p z files) y r ok is) ∙ ap meets_outcome ((none_where y).1 none)) ends

pub findings_there : (s t p z : List ℕ) (old new : Seen) (x : Status) (files : Files) (y : Passable) → old.files ≡ Some files → passing_in s t p z files ≡ Ok y → (NoneMeet y → ⊥)
    → Ends (Zones s t p z) old new x → (x ≡ status.Findings) ⊎ Yields x
findings_there s t p z old new x files y known ok never ends =
    decides (Zones s t p z) outcome.Findings old new x files known (λ r is.
    told_outcome y r (passed (passing_in s t p z files) y r ok is) ∙ some_met (meets_in y.night y.zones y.plan) (λ nil. never ((none_where y).0 nil))) ends

-- an outcome of accepted files is that of the meets of what they state
record Tells (x : Result Passable (List ℕ)) (o : Outcome) : Type 0 where
  value : Passable
  ok : x ≡ Ok value
  outcome : meets_outcome (meets_in value.night value.zones value.plan) ≡ o

tells : (x : Result Passable (List ℕ)) (r : Reply) (o : Outcome) → (o ≡ outcome.Input → ⊥) → Decided x IsPassed r → r.outcome ≡ o → Tells x o
tells (Err text) r o other is e = absurd (other (sym e ∙ ap (λ (r : Reply). r.outcome) is))
tells (Ok y) r o other is e = record { value = y; ok = refl; outcome = sym (told_outcome y r is) ∙ e }

pub done_only : (s t p z : List ℕ) (old new : Seen) → Ends (Zones s t p z) old new status.Done
    → (files : Files) × Agrees old.files files × ((y : Passable) × (passing_in s t p z files ≡ Ok y) × NoneMeet y)
done_only s t p z old new ends =
    let h = has_reply (Zones s t p z) outcome.Done old new ends in
    let files = h.1.0 in
    let at = tells (passing_in s t p z files) h.0 outcome.Done (λ e. cc) h.1.2 h.2 in
    (files, h.1.1, (at.value, at.ok, (none_where at.value).0 (none_met (meets_in at.value.night at.value.zones at.value.plan) at.outcome)))

pub findings_only : (s t p z : List ℕ) (old new : Seen) → Ends (Zones s t p z) old new status.Findings
    → (files : Files) × Agrees old.files files × ((y : Passable) × (passing_in s t p z files ≡ Ok y) × (NoneMeet y → ⊥))
findings_only s t p z old new ends =
    let h = has_reply (Zones s t p z) outcome.Findings old new ends in
    let files = h.1.0 in
    let at = tells (passing_in s t p z files) h.0 outcome.Findings (λ e. cc) h.1.2 h.2 in
    (files, h.1.1, (at.value, at.ok, λ none. met_some (meets_in at.value.night at.value.zones at.value.plan) at.outcome ((none_where at.value).1 none)))

neither : (ms : List Meet) (o : Outcome) → meets_outcome ms ≡ o → (o ≡ outcome.Done) ⊎ (o ≡ outcome.Findings)
neither [] o e = inl (sym e)
neither (m ∷ ms) o e = inr (sym e)

never : (s t p z : List ℕ) (o : Outcome) (old new : Seen) → (o ≡ outcome.Done → ⊥) → (o ≡ outcome.Findings → ⊥) → (o ≡ outcome.Input → ⊥)
    → Ends (Zones s t p z) old new (the_status o) → ⊥
never s t p z o old new a b d ends =
    let h = has_reply (Zones s t p z) o old new ends in
    let at = tells (passing_in s t p z h.1.0) h.0 o d h.1.2 h.2 in
    ⊎_elim a b (neither (meets_in at.value.night at.value.zones at.value.plan) o at.outcome)

pub no_matching : (s t p z : List ℕ) (old new : Seen) → Ends (Zones s t p z) old new status.NoMatching → ⊥
no_matching s t p z old new ends = never s t p z outcome.NoMatching old new (λ e. cc) (λ e. cc) (λ e. cc) ends

pub no_unfinished : (s t p z : List ℕ) (old new : Seen) → Ends (Zones s t p z) old new status.Unfinished → ⊥
no_unfinished s t p z old new ends = never s t p z outcome.Unfinished old new (λ e. cc) (λ e. cc) (λ e. cc) ends

-- ---- completeness

well : (x : Status) (ms : List Meet) → x ≡ the_status (meets_outcome ms) → EndsWell x
well x [] e = inl e
well x (m ∷ ms) e = inr (inl e)

pub ends_well : (s t p z : List ℕ) (old new : Seen) (x : Status) (files : Files) (y : Passable) → old.files ≡ Some files → passing_in s t p z files ≡ Ok y
    → (Rose old.store_faults new.store_faults → ⊥) → (Rose old.sink_faults new.sink_faults → ⊥) → Ends (Zones s t p z) old new x → EndsWell x
ends_well s t p z old new x files y known ok ns nk ends = at (completes (Zones s t p z) old new x ns nk ends)
  where
    at : EndsAs (Zones s t p z) old x → EndsWell x
    at (inl m) = inr (inr m)
    at (inr h) =
        let a = passed (passing_in s t p z files) y h.0 ok (reply_at (Zones s t p z) old.files files h.0 known h.1) in
        well x (meets_in y.night y.zones y.plan) (h.2 ∙ ap the_status (told_outcome y h.0 a))
