-- When each status of `trial` comes, and what its files then say.
use Rattle.std.proofs.Common.{◌≡◌, ◌≤◌, ◌∙◌, ℕ, List, [], subst, sym, ap, inl, inr, refl}
use Rattle.std.specs.Prelude.{◌⊎◌}
use Rattle.shunt_store.specs.defs.Causes.{Rose}
use Rattle.shunt_instance.specs.declared.records.Station.{Station}
use Rattle.shunt_instance.specs.declared.records.Timetable.{Timetable}
use Rattle.shunt_instance.specs.defs.Wellformed.{IsStation, IsTimetable}
use Rattle.shunt_instance.specs.defs.Instance.{IsInstance}
use Rattle.shunt_instance.proofs.Orders.{night_is, closed}
use Rattle.shunt_make.specs.defs.Made.{station_of, after_station, timetable_of}
use Rattle.shunt_plan.specs.declared.records.Plan.{Plan}
use Rattle.shunt_proof.specs.declared.records.Certificate.{Certificate}
use Rattle.shunt_inputs.specs.declared.answers.Outcome.{Outcome}
use Rattle.shunt_inputs.specs.declared.answers.Outcome.TheVariants as outcome
use Rattle.shunt_inputs.specs.defs.Replies.{Reply}
use Rattle.shunt_planning.specs.defs.Found.{IsBounded}
use Rattle.shunt_planning.specs.defs.Planned.{planned, search_outcome}
use Rattle.shunt_planning.proofs.Sought.{usable_none}
use Rattle.shunt_trial.specs.defs.Tried.{made_night, made_timetable, tried, IsTried}
use Rattle.shunt.specs.declared.status.Status.{Status}
use Rattle.shunt.specs.declared.status.Status.TheVariants as status
use Rattle.shunt.specs.defs.Calls.{Trial}
use Rattle.shunt.specs.defs.Words.{IsUsable}
use Rattle.shunt.specs.defs.Ends.{Seen, Ends, IsWhole, Yields, the_status}
use Rattle.shunt.proofs.Exactly.{early, has_reply, its_own, completes, EndsAs}
use Rattle.shunt.proofs.Searched.{Bounds, bounded}

-- what the laws of made nights say
pub record MadeLaws : Type 0 where
  pub station : (x units : ℕ) → units ≤ 160 → IsStation (station_of x units)
  pub timetable : (x y units : ℕ) → units ≤ 160 → IsTimetable (station_of x units) (timetable_of y units)

module _ (n u m : ℕ) (s t p k : List ℕ) where
  good : (r : Reply) → IsTried n u m s t p k r → r.outcome ≡ outcome.Done
  good r is = ap (λ (q : Reply). q.outcome) is.reply

  pub done_there : (old new : Seen) (x : Status) → Ends (Trial n u m s t p k) old new x → (x ≡ status.Done) ⊎ Yields x
  done_there old new x (inl stopped) = inr (early (Trial n u m s t p k) old new x stopped)
  done_there old new x (inr h) = at (its_own h.0 old new x h.2)
    where
      at : ((x ≡ the_status h.0.outcome) × IsWhole h.0 old new) ⊎ Yields x → (x ≡ status.Done) ⊎ Yields x
      at (inl e) = inl (e.0 ∙ ap the_status (good h.0 h.1.2))
      at (inr y) = inr y

  never : (o : Outcome) (old new : Seen) → (outcome.Done ≡ o → ⊥) → Ends (Trial n u m s t p k) old new (the_status o) → ⊥
  never o old new other ends = let h = has_reply (Trial n u m s t p k) o old new ends in other (sym (good h.0 h.1.2) ∙ h.2)

  pub no_findings : (old new : Seen) → Ends (Trial n u m s t p k) old new status.Findings → ⊥
  no_findings old new ends = never outcome.Findings old new (λ e. cc) ends

  pub no_input : (old new : Seen) → Ends (Trial n u m s t p k) old new status.Input → ⊥
  no_input old new ends = never outcome.Input old new (λ e. cc) ends

  pub no_matching : (old new : Seen) → Ends (Trial n u m s t p k) old new status.NoMatching → ⊥
  no_matching old new ends = never outcome.NoMatching old new (λ e. cc) ends

  pub no_unfinished : (old new : Seen) → Ends (Trial n u m s t p k) old new status.Unfinished → ⊥
  no_unfinished old new ends = never outcome.Unfinished old new (λ e. cc) ends

  pub ends_well : (old new : Seen) (x : Status) → (Rose old.store_faults new.store_faults → ⊥) → (Rose old.sink_faults new.sink_faults → ⊥) → Ends (Trial n u m s t p k) old new x
      → (x ≡ status.Done) ⊎ (x ≡ status.Memory)
  ends_well old new x ns nk ends = at (completes (Trial n u m s t p k) old new x ns nk ends)
    where
      at : EndsAs (Trial n u m s t p k) old x → (x ≡ status.Done) ⊎ (x ≡ status.Memory)
      at (inl memory) = inr memory
      at (inr h) = inl (h.2 ∙ ap the_status (good h.0 h.1.2))

  pub done_bounded : Bounds → MadeLaws → (old new : Seen) → IsUsable (Trial n u m s t p k) → Ends (Trial n u m s t p k) old new status.Done
      → (plan : Plan) × (c : Certificate) × IsBounded (made_night n u) [] plan c.bound × IsWhole (tried n u s t p k plan c) old new
  done_bounded bounds laws old new usable ends =
      let h = has_reply (Trial n u m s t p k) outcome.Done old new ends in
      let is : IsTried n u m s t p k h.0 = h.1.2 in
      let few = usable.1.1.0 in
      let night = made_night n u in
      let formed : IsInstance night = closed night (night_is (station_of n u) (made_timetable n u) (laws.station n u few) (laws.timetable n (after_station n u) u few)) in
      let found = planned (search_outcome is.certificate.cost is.certificate.bound) p k night is.plan is.certificate in (
        is.plan,
        is.certificate,
        bounded bounds [] m p k night found formed (usable_none night) (record {
          plan = is.plan;
          certificate = is.certificate;
          in_range = is.in_range;
          statable = is.statable;
          meet = is.meet;
          few = is.few;
          reply = refl;
        }),
        subst (λ r. IsWhole r old new) is.reply h.3,
      )
