-- When each status comes, and what then stands, of every command.
use Rattle.std.proofs.Common.{◌≡◌, Some, None, sym, subst, ap, inl, inr, refl, Result, Ok, Err, List, [], ◌∷◌, ◌++◌, ◌∙◌, Option, ℕ, arith, length, take, take_all, Bool, true, false}
use Rattle.std.specs.Prelude.{IfSome, ◌⊎◌, ◌==◌, if◌then◌else◌}
use Rattle.std.specs.Result.{result_err}
use Rattle.std.specs.FinMap as map
use Rattle.shunt_lists.specs.defs.Members.{In}
use Rattle.shunt_store.specs.defs.Files.{Files, BothTold}
use Rattle.shunt_store.specs.defs.Causes.{Rose}
use Rattle.shunt_store.specs.defs.Notes.{Entries}
use Rattle.shunt_store.proofs.Texts.{both_map, both_same}
use Rattle.shunt_store.proofs.TableLaws.{same_elsewhere}
use Rattle.shunt_audit.specs.declared.types.Finding.{Finding}
use Rattle.shunt_instance.specs.defs.Instance.{Night}
use Rattle.shunt_blocks.specs.defs.Lists.{units_taken, positions_taken}
use Rattle.shunt_checker.specs.declared.verdict.Verdict.{Verdict}
use Rattle.shunt_checker.specs.declared.verdict.Verdict.TheVariants as verdict
use Rattle.shunt_drivers.specs.declared.records.RosterFault.{RosterFault}
use Rattle.shunt_drivers.specs.defs.RosterFaults.{fault_in}
use Rattle.shunt_zones.specs.declared.records.Meet.{Meet}
use Rattle.shunt_zones.specs.defs.Meetings.{meets_in}
use Rattle.shunt_inputs.specs.declared.answers.Outcome.{Outcome}
use Rattle.shunt_inputs.specs.declared.answers.Outcome.TheVariants as outcome
use Rattle.shunt.specs.declared.status.Status.{Status}
use Rattle.shunt.specs.declared.status.Status.TheVariants as status
use Rattle.shunt.specs.defs.Calls.{Call, Match, Follow, Audit, Delay, Report, Check, Compare, Zones, Sheet, Draw, Page, Upgrade, Trial, Drivers, Roster, CheckPinned, Replay, Resume, MakePlan, MakePinned, Improve}
use Rattle.shunt.specs.defs.Words.{outputs_of}
use Rattle.shunt.proofs.Writes.{in_some}
use Rattle.shunt_inputs.specs.defs.Inputs.{Agrees}
use Rattle.shunt.specs.defs.Replies.{Value, stated_in, refused, IsReply, IsReplyOver, IsAnswer}
use Rattle.shunt_inputs.specs.defs.Replies.{Reply, Decided, refusal}
use Rattle.shunt_planning.specs.defs.Matched.{IsPaired, IsShortBeside}
use Rattle.shunt_judging.specs.defs.Audited.{IsFaulty, audit_outcome}
use Rattle.shunt_judging.specs.defs.Checked.{check_outcome}
use Rattle.shunt_judging.specs.defs.Pinned.{PinChecked, IsLost, IsPinVerdict}
use Rattle.shunt_judging.specs.defs.Pins.{IsUnusable}
use Rattle.shunt_dispatch.specs.defs.Delayed.{HasDelays}
use Rattle.shunt_compare.specs.declared.records.Change.{Change}
use Rattle.shunt_dispatch.specs.defs.Compared.{compared_outcome}
use Rattle.shunt_dispatch.specs.defs.Followed.{followed_outcome}
use Rattle.shunt_blocks.specs.declared.records.Block.{Block}
use Rattle.shunt_plan.specs.declared.records.Plan.{Plan}
use Rattle.shunt_sheet.specs.declared.records.Followed.{Followed}
use Rattle.shunt_sheet.specs.declared.records.Followed.TheVariants as answers
use Rattle.shunt_sheet.specs.defs.FollowedOrders.{followed}
use Rattle.shunt_exchange.specs.defs.Reported.{HasReport}
use Rattle.shunt_throat.specs.defs.Passed.{meets_outcome}
use Rattle.shunt_throat.specs.defs.Rostered.{roster_outcome}
use Rattle.shunt_inputs.specs.defs.Writes.{written, Stays, WritesSome}
use Rattle.shunt_planning.specs.defs.Planned.{IsSoughtOver, search_outcome}
use Rattle.shunt_planning.specs.defs.Improved.{IsUnfit}
use Rattle.shunt.specs.defs.Ends.{Seen, known_of, CutInFiles, CutInText, Delivers, StopsEarly, Ends, IsWhole, Yields, the_status}

-- ---- the status of a delivery

outcome_of : Status → Outcome
outcome_of status.Done = outcome.Done
outcome_of status.Findings = outcome.Findings
outcome_of status.NoMatching = outcome.NoMatching
outcome_of status.Unfinished = outcome.Unfinished
outcome_of s = outcome.Input

back : (o : Outcome) → outcome_of (the_status o) ≡ o
unfolding outcome_of
back outcome.Done = refl
back outcome.Findings = refl
back outcome.Input = refl
back outcome.NoMatching = refl
back outcome.Unfinished = refl

same_outcome : (o p : Outcome) → the_status o ≡ the_status p → o ≡ p
same_outcome o p e = sym (back o) ∙ ap outcome_of e ∙ back p

-- a delivered reply has its own status and is whole, or yields
pub its_own : (r : Reply) (old new : Seen) (s : Status) → Delivers r old new s → ((s ≡ the_status r.outcome) × IsWhole r old new) ⊎ Yields s
its_own r old new status.Done h = inl h
its_own r old new status.Findings h = inl h
its_own r old new status.Words h = inl h
its_own r old new status.Input h = inl h
its_own r old new status.Store h = inr (inl refl)
its_own r old new status.Memory h = inr (inr (inl refl))
its_own r old new status.NoMatching h = inl h
its_own r old new status.Unfinished h = inl h
its_own r old new status.Sink h = inr (inr (inr refl))

pub early : (c : Call) (old new : Seen) (s : Status) → StopsEarly old new s → Yields s
early c old new status.Done h = absurd h
early c old new status.Findings h = absurd h
early c old new status.Words h = absurd h
early c old new status.Input h = absurd h
early c old new status.Store h = inl refl
early c old new status.Memory h = inr (inl refl)
early c old new status.NoMatching h = absurd h
early c old new status.Unfinished h = absurd h
early c old new status.Sink h = absurd h

-- where the files are told, the reply is the defined answer over them
pub reply_at : (c : Call) (told : Option Files) (files : Files) (r : Reply) → told ≡ Some files → IsReplyOver c told r → IsReply c files r
reply_at c told files r known h =
    let same : files ≡ h.0 = subst (λ t. IfSome t (λ k. k ≡ h.0)) known h.1 in
    subst (λ f. IsReply c f r) (sym same) h.2

-- what all defined replies have decides the status
pub decides : (c : Call) (o : Outcome) (old new : Seen) (s : Status) (files : Files) → old.files ≡ Some files → ((r : Reply) → IsReply c files r → r.outcome ≡ o) → Ends c old new s
    → (s ≡ the_status o) ⊎ Yields s
decides c o old new s files told all (inl e) = inr (early c old new s e)
decides c o old new s files told all (inr h) = at (its_own h.0 old new s h.2)
  where
    at : ((s ≡ the_status h.0.outcome) × IsWhole h.0 old new) ⊎ Yields s → (s ≡ the_status o) ⊎ Yields s
    at (inl e) = inl (e.0 ∙ ap the_status (all h.0 (reply_at c old.files files h.0 told h.1)))
    at (inr y) = inr y

-- a status that doesn't yield is that of a defined reply, which is whole
abbrev pub HasReply : Call → Outcome → Seen → Seen → Type 0
HasReply c o old new = (r : Reply) × IsReplyOver c old.files r × (r.outcome ≡ o) × IsWhole r old new

pub has_reply : (c : Call) (o : Outcome) (old new : Seen) → Ends c old new (the_status o) → HasReply c o old new
has_reply c outcome.Done old new (inl e) = absurd e
has_reply c outcome.Done old new (inr h) = (h.0, h.1, sym (same_outcome outcome.Done h.0.outcome h.2.0), h.2.1)
has_reply c outcome.Findings old new (inl e) = absurd e
has_reply c outcome.Findings old new (inr h) = (h.0, h.1, sym (same_outcome outcome.Findings h.0.outcome h.2.0), h.2.1)
has_reply c outcome.Input old new (inl e) = absurd e
has_reply c outcome.Input old new (inr h) = (h.0, h.1, sym (same_outcome outcome.Input h.0.outcome h.2.0), h.2.1)
has_reply c outcome.NoMatching old new (inl e) = absurd e
has_reply c outcome.NoMatching old new (inr h) = (h.0, h.1, sym (same_outcome outcome.NoMatching h.0.outcome h.2.0), h.2.1)
has_reply c outcome.Unfinished old new (inl e) = absurd e
has_reply c outcome.Unfinished old new (inr h) = (h.0, h.1, sym (same_outcome outcome.Unfinished h.0.outcome h.2.0), h.2.1)

abbrev pub EndsAs : Call → Seen → Status → Type 0
EndsAs c old s = (s ≡ status.Memory) ⊎ ((r : Reply) × IsReplyOver c old.files r × (s ≡ the_status r.outcome))

pub completes : (c : Call) (old new : Seen) (s : Status) → (Rose old.store_faults new.store_faults → ⊥) → (Rose old.sink_faults new.sink_faults → ⊥) → Ends c old new s
    → EndsAs c old s
completes c old new status.Store ns nk (inl e) = absurd (ns e.0)
completes c old new status.Store ns nk (inr h) = absurd (ns h.2.0)
completes c old new status.Memory ns nk e = inl refl
completes c old new status.Sink ns nk (inl e) = absurd e
completes c old new status.Sink ns nk (inr h) = absurd (nk h.2.0)
completes c old new s ns nk (inl e) = absurd e
completes c old new s ns nk (inr h) = inr (h.0, h.1, h.2.0)

-- ---- the causes

pub store_rose : (c : Call) (old new : Seen) → Ends c old new status.Store → Rose old.store_faults new.store_faults
store_rose c old new (inl e) = e.0
store_rose c old new (inr h) = h.2.0

pub sink_rose : (c : Call) (old new : Seen) → Ends c old new status.Sink → Rose old.sink_faults new.sink_faults
sink_rose c old new (inl e) = absurd e
sink_rose c old new (inr h) = h.2.0

no_words : (o : Outcome) → status.Words ≡ the_status o → ⊥
no_words outcome.Done e = cc
no_words outcome.Findings e = cc
no_words outcome.Input e = cc
no_words outcome.NoMatching e = cc
no_words outcome.Unfinished e = cc

pub never_words : (c : Call) (old new : Seen) → Ends c old new status.Words → ⊥
never_words c old new (inl e) = e
never_words c old new (inr h) = no_words h.0.outcome h.2.0

never_rose : (before now : ℕ) → now ≡ 0 → Rose before now → ⊥
never_rose before now e (inl h) = omega (arith, e, h)
never_rose before now e (inr h) = omega (arith, e, h)

pub store_never : (c : Call) (old new : Seen) → new.store_faults ≡ 0 → Ends c old new status.Store → ⊥
store_never c old new e h = never_rose _ _ e (store_rose c old new h)

pub sink_never : (c : Call) (old new : Seen) → new.sink_faults ≡ 0 → Ends c old new status.Sink → ⊥
sink_never c old new e h = never_rose _ _ e (sink_rose c old new h)

-- ---- what each command's answers have

pub paired_outcome : (night : Night) (r : Reply) → IsPaired night r → r.outcome ≡ outcome.Done
paired_outcome night r p = ap (λ (r : Reply). r.outcome) p.reply

pub short_outcome : {units places : List Bool} (night : Night) (r : Reply) → IsShortBeside units places night r → r.outcome ≡ outcome.NoMatching
short_outcome night r p = ap (λ (r : Reply). r.outcome) p.reply.2

pub faulty_outcome : (x : Night × Plan) (r : Reply) → IsFaulty x r → r.outcome ≡ outcome.Findings
faulty_outcome x r f = ap (λ (r : Reply). r.outcome) f.reply

pub delays_outcome : (x : Night × Plan) (r : Reply) → HasDelays x r → r.outcome ≡ outcome.Done
delays_outcome x r d = ap (λ (r : Reply). r.outcome) d.reply

pub unusable_outcome : (night : Night) (pins : List Block) (r : Reply) → IsUnusable night pins r → r.outcome ≡ outcome.Findings
unusable_outcome night pins r u = ap (λ (r : Reply). r.outcome) u.reply

pub unfit_outcome : (night : Night) (pins : List Block) (plan : Plan) (r : Reply) → IsUnfit night pins plan r → r.outcome ≡ outcome.Findings
unfit_outcome night pins plan r (inl f) = faulty_outcome (night, plan) r f
unfit_outcome night pins plan r (inr (none, l)) = ap (λ (r : Reply). r.outcome) l.reply

pub lost_outcome : (x : PinChecked) (r : Reply) → IsLost x r → r.outcome ≡ outcome.Findings
lost_outcome x r l = ap (λ (r : Reply). r.outcome) l.reply

pub kept_outcome : (x : PinChecked) (r : Reply) (v : IsPinVerdict x r) → r.outcome ≡ check_outcome v.verdict
kept_outcome x r v = ap (λ (r : Reply). r.outcome) v.reply

no_input_found : (fs : List Finding) → audit_outcome fs ≡ outcome.Input → ⊥
no_input_found [] e = let h : outcome.Done ≡ outcome.Input = e in cc
no_input_found (f ∷ fs) e = let h : outcome.Findings ≡ outcome.Input = e in cc

no_input_told : (v : Verdict) → check_outcome v ≡ outcome.Input → ⊥
no_input_told (verdict.Accepted bound) e = let h : outcome.Done ≡ outcome.Input = e in cc
no_input_told (verdict.Rejected row reason) e = let h : outcome.Findings ≡ outcome.Input = e in cc

no_input_met : (ms : List Meet) → meets_outcome ms ≡ outcome.Input → ⊥
no_input_met [] e = let h : outcome.Done ≡ outcome.Input = e in cc
no_input_met (m ∷ ms) e = let h : outcome.Findings ≡ outcome.Input = e in cc

no_input_fault : (f : Option RosterFault) → roster_outcome f ≡ outcome.Input → ⊥
no_input_fault None e = let h : outcome.Done ≡ outcome.Input = e in cc
no_input_fault (Some f) e = let h : outcome.Findings ≡ outcome.Input = e in cc

no_input_sought : (cost bound : ℕ) → search_outcome cost bound ≡ outcome.Input → ⊥
no_input_sought cost bound e = at (bound == cost) e
  where
    at : (same : Bool) → (if same then outcome.Done else outcome.Unfinished) ≡ outcome.Input → ⊥
    at true e = let h : outcome.Done ≡ outcome.Input = e in cc
    at false e = let h : outcome.Unfinished ≡ outcome.Input = e in cc

no_input_compared : (changes : List Change) (regrouped : List Block) → compared_outcome changes regrouped ≡ outcome.Input → ⊥
no_input_compared [] [] e = let h : outcome.Done ≡ outcome.Input = e in cc
no_input_compared (c ∷ changes) regrouped e = let h : outcome.Findings ≡ outcome.Input = e in cc
no_input_compared [] (b ∷ regrouped) e = let h : outcome.Findings ≡ outcome.Input = e in cc

no_input_followed : (f : Followed) → followed_outcome f ≡ outcome.Input → ⊥
no_input_followed (answers.Through left) e = let h : outcome.Done ≡ outcome.Input = e in cc
no_input_followed (answers.Blocked number) e = let h : outcome.Findings ≡ outcome.Input = e in cc
no_input_followed (answers.Over number load) e = let h : outcome.Findings ≡ outcome.Input = e in cc

pub report_outcome : (x : Night × Plan) (r : Reply) → HasReport x r → r.outcome ≡ outcome.Done
report_outcome x r d = ap (λ (r : Reply). r.outcome) d.reply

no_input_searched : (pins : List Block) (units places : List Bool) (m : ℕ) (p k : List ℕ) (night : Night) (r : Reply) → IsSoughtOver pins units places m p k night r
    → r.outcome ≡ outcome.Input → ⊥
no_input_searched pins units places m p k night r (inl is) o = no_input_sought is.1.certificate.cost is.1.certificate.bound (sym (ap (λ (r : Reply). r.outcome) is.1.reply) ∙ o)
no_input_searched pins units places m p k night r (inr is) o = let e : outcome.NoMatching ≡ outcome.Input = sym (short_outcome night r is) ∙ o in cc

-- an answer is never that an input isn't accepted
no_input : (c : Call) (v : Value c) (r : Reply) → IsAnswer c v r → r.outcome ≡ outcome.Input → ⊥
no_input (Match s t) night r (inl p) o = let e : outcome.Done ≡ outcome.Input = sym (paired_outcome night r p) ∙ o in cc
no_input (Match s t) night r (inr p) o = let e : outcome.NoMatching ≡ outcome.Input = sym (short_outcome night r p) ∙ o in cc
no_input (Audit s t p) x r is o = no_input_found is.findings (sym (ap (λ (r : Reply). r.outcome) is.reply) ∙ o)
no_input (Check s t p k) x r is o = no_input_told is.verdict (sym (ap (λ (r : Reply). r.outcome) is.reply) ∙ o)
no_input (Compare s t p o) x r (inl f) e = let h : outcome.Findings ≡ outcome.Input = sym (faulty_outcome (x.night, x.plan) r f) ∙ e in cc
no_input (Compare s t p o) x r (inr (inl f)) e = let h : outcome.Findings ≡ outcome.Input = sym (faulty_outcome (x.night, x.other) r f.faulty) ∙ e in cc
no_input (Compare s t p o) x r (inr (inr d)) e = no_input_compared d.comparison.changes d.comparison.regrouped (sym (ap (λ (r : Reply). r.outcome) d.reply) ∙ e)
no_input (Zones s t p z) x r is o = no_input_met (meets_in x.night x.zones x.plan) (sym (ap (λ (r : Reply). r.outcome) is) ∙ o)
no_input (Drivers s t p c d) x r is o = let e : outcome.Done ≡ outcome.Input = sym (ap (λ (r : Reply). r.outcome) is.reply) ∙ o in cc
no_input (Roster s t p c d) x r is o = no_input_fault (fault_in x.night x.crew x.plan x.duties) (sym (ap (λ (r : Reply). r.outcome) is) ∙ o)
no_input (CheckPinned s t i p k) x r (inl u) o = let e : outcome.Findings ≡ outcome.Input = sym (unusable_outcome x.night x.pins r u) ∙ o in cc
no_input (CheckPinned s t i p k) x r (inr (usable, inl l)) o = let e : outcome.Findings ≡ outcome.Input = sym (lost_outcome x r l) ∙ o in cc
no_input (CheckPinned s t i p k) x r (inr (usable, inr v)) o = no_input_told v.verdict (sym (kept_outcome x r v) ∙ o)
no_input (Replay s t p e n) x r is o = no_input_found is.findings (sym is.outcome ∙ o)
no_input (Resume s t p m n i) x r (inl f) o = let e : outcome.Findings ≡ outcome.Input = sym (faulty_outcome (x.night, x.plan) r f) ∙ o in cc
no_input (Resume s t p m n i) x r (inr d) o = let e : outcome.Done ≡ outcome.Input = sym d.outcome ∙ o in cc
no_input (MakePlan s t m p k) night r is o = no_input_searched [] [] [] m p k night r is o
no_input (MakePinned s t i m p k) x r (inl f) o = let e : outcome.Findings ≡ outcome.Input = sym (unusable_outcome x.instance x.pins r f) ∙ o in cc
no_input (MakePinned s t i m p k) x r (inr is) o = no_input_searched x.pins (units_taken x.instance x.pins) (positions_taken x.instance x.pins) m p k x.instance r is.1 o
no_input (Improve s t i h m p k) x r (inl f) o = let e : outcome.Findings ≡ outcome.Input = sym (unusable_outcome x.0.instance x.0.pins r f) ∙ o in cc
no_input (Improve s t i h m p k) x r (inr (usable, inl f)) o = let e : outcome.Findings ≡ outcome.Input = sym (unfit_outcome x.0.instance x.0.pins x.1 r f) ∙ o in cc
no_input (Improve s t i h m p k) x r (inr (usable, inr is)) o = no_input_sought is.1.planned.certificate.cost is.1.planned.certificate.bound
    (sym (ap (λ (r : Reply). r.outcome) is.1.planned.reply) ∙ o)
no_input (Follow s n) x r is o = no_input_followed (followed x.station x.orders) (sym (ap (λ (r : Reply). r.outcome) is) ∙ o)
no_input (Delay s t p) x r (inl f) o = let e : outcome.Findings ≡ outcome.Input = sym (faulty_outcome x r f) ∙ o in cc
no_input (Delay s t p) x r (inr d) o = let e : outcome.Done ≡ outcome.Input = sym (delays_outcome x r d) ∙ o in cc
no_input (Sheet s t p n) x r (inl f) o = let e : outcome.Findings ≡ outcome.Input = sym (faulty_outcome x r f) ∙ o in cc
no_input (Sheet s t p n) x r (inr d) o = let e : outcome.Done ≡ outcome.Input = sym d.outcome ∙ o in cc
no_input (Draw s t p n) x r is o = no_input_found is.findings (sym is.outcome ∙ o)
no_input (Page s t p n) x r is o = no_input_found is.findings (sym is.outcome ∙ o)
no_input (Report s t p) x r (inl f) o = let e : outcome.Findings ≡ outcome.Input = sym (faulty_outcome x r f) ∙ o in cc
no_input (Report s t p) x r (inr d) o = let e : outcome.Done ≡ outcome.Input = sym (report_outcome x r d) ∙ o in cc
no_input (Trial n u m s t p k) x r is o = let e : outcome.Done ≡ outcome.Input = sym (ap (λ (r : Reply). r.outcome) is.reply) ∙ o in cc
no_input (Upgrade s t n m) x r is o = let e : outcome.Done ≡ outcome.Input = sym (ap (λ (r : Reply). r.outcome) is) ∙ o in cc

-- a name of one write is the one that is written
one_write : (n content name text : List ℕ) → In {X = List ℕ × List ℕ} (name, text) ((n, content) ∷ []) → In name (n ∷ [])
one_write n content name text (inl e) = inl (ap (λ (w : List ℕ × List ℕ). w.0) e)
one_write n content name text (inr h) = absurd h

two_writes : (p k plan certificate name text : List ℕ) → In {X = List ℕ × List ℕ} (name, text) ((k, certificate) ∷ (p, plan) ∷ []) → In name (p ∷ k ∷ [])
two_writes p k plan certificate name text (inl e) = inr (inl (ap (λ (w : List ℕ × List ℕ). w.0) e))
two_writes p k plan certificate name text (inr (inl e)) = inl (ap (λ (w : List ℕ × List ℕ). w.0) e)
two_writes p k plan certificate name text (inr (inr h)) = absurd h

in_both : (n m station timetable name text : List ℕ) → In {X = List ℕ × List ℕ} (name, text) ((n, station) ∷ (m, timetable) ∷ []) → In name (n ∷ m ∷ [])
in_both n m station timetable name text (inl e) = inl (ap (λ (w : List ℕ × List ℕ). w.0) e)
in_both n m station timetable name text (inr (inl e)) = inr (inl (ap (λ (w : List ℕ × List ℕ). w.0) e))
in_both n m station timetable name text (inr (inr h)) = absurd h

in_four : (s t p k station timetable plan certificate name text : List ℕ) → In {X = List ℕ × List ℕ} (name, text)
    ((s, station) ∷ (t, timetable) ∷ (p, plan) ∷ (k, certificate) ∷ []) → In name (s ∷ t ∷ p ∷ k ∷ [])
in_four s t p k station timetable plan certificate name text (inl e) = inl (ap (λ (w : List ℕ × List ℕ). w.0) e)
in_four s t p k station timetable plan certificate name text (inr (inl e)) = inr (inl (ap (λ (w : List ℕ × List ℕ). w.0) e))
in_four s t p k station timetable plan certificate name text (inr (inr h)) = inr (inr (in_both p k plan certificate name text h))

-- a search writes a plan and its certificate
search_writes : (pins : List Block) (units places : List Bool) (m : ℕ) (p k : List ℕ) (night : Night) (r : Reply) (name text : List ℕ)
    → IsSoughtOver pins units places m p k night r → In (name, text) r.writes → In name (p ∷ k ∷ [])
search_writes pins units places m p k night r name text (inl is) w = two_writes p k _ _ name text
    (subst (λ (q : Reply). In {X = List ℕ × List ℕ} (name, text) q.writes) is.1.reply w)
search_writes pins units places m p k night r name text (inr is) w = absurd (subst (λ (q : Reply). In (name, text) q.writes) is.reply.2 w)

-- an answer writes no file but the command's own
own_writes : (c : Call) (v : Value c) (r : Reply) (name text : List ℕ) → IsAnswer c v r → In (name, text) r.writes → In name (outputs_of c)
own_writes (Match s t) night r name text (inl p) w = subst (λ (q : Reply). In (name, text) q.writes) p.reply w
own_writes (Match s t) night r name text (inr p) w = subst (λ (q : Reply). In (name, text) q.writes) p.reply.2 w
own_writes (Audit s t p) x r name text is w = subst (λ (q : Reply). In (name, text) q.writes) is.reply w
own_writes (Check s t p k) x r name text is w = subst (λ (q : Reply). In (name, text) q.writes) is.reply w
own_writes (Compare s t p o) x r name text (inl f) w = subst (λ (q : Reply). In (name, text) q.writes) f.reply w
own_writes (Compare s t p o) x r name text (inr (inl f)) w = subst (λ (q : Reply). In (name, text) q.writes) f.faulty.reply w
own_writes (Compare s t p o) x r name text (inr (inr d)) w = subst (λ (q : Reply). In (name, text) q.writes) d.reply w
own_writes (Zones s t p z) x r name text is w = subst (λ (q : Reply). In (name, text) q.writes) is w
own_writes (Drivers s t p c d) x r name text is w = one_write d _ name text (subst (λ (q : Reply). In {X = List ℕ × List ℕ} (name, text) q.writes) is.reply w)
own_writes (Roster s t p c d) x r name text is w = subst (λ (q : Reply). In (name, text) q.writes) is w
own_writes (CheckPinned s t i p k) x r name text (inl u) w = subst (λ (q : Reply). In (name, text) q.writes) u.reply w
own_writes (CheckPinned s t i p k) x r name text (inr (usable, inl l)) w = subst (λ (q : Reply). In (name, text) q.writes) l.reply w
own_writes (CheckPinned s t i p k) x r name text (inr (usable, inr v)) w = subst (λ (q : Reply). In (name, text) q.writes) v.reply w
own_writes (Replay s t p e n) x r name text is w = one_write n _ name text (subst (λ (ws : List (List ℕ × List ℕ)). In {X = List ℕ × List ℕ} (name, text) ws) is.writes w)
own_writes (Resume s t p m n i) x r name text (inl f) w = absurd (subst (λ (q : Reply). In (name, text) q.writes) f.reply w)
own_writes (Resume s t p m n i) x r name text (inr d) w = in_both n i _ _ name text (subst (λ (ws : List (List ℕ × List ℕ)). In {X = List ℕ × List ℕ} (name, text) ws) d.writes w)
own_writes (MakePlan s t m p k) night r name text is w = search_writes [] [] [] m p k night r name text is w
own_writes (MakePinned s t i m p k) x r name text (inl f) w = absurd (subst (λ (q : Reply). In (name, text) q.writes) f.reply w)
own_writes (MakePinned s t i m p k) x r name text (inr is) w = search_writes x.pins (units_taken x.instance x.pins)
    (positions_taken x.instance x.pins) m p k x.instance r name text is.1 w
own_writes (Improve s t i h m p k) x r name text (inl f) w = absurd (subst (λ (q : Reply). In (name, text) q.writes) f.reply w)
own_writes (Improve s t i h m p k) x r name text (inr (usable, inl (inl f))) w = absurd (subst (λ (q : Reply). In (name, text) q.writes) f.reply w)
own_writes (Improve s t i h m p k) x r name text (inr (usable, inl (inr l))) w = absurd (subst (λ (q : Reply). In (name, text) q.writes) l.1.reply w)
own_writes (Improve s t i h m p k) x r name text (inr (usable, inr is)) w = two_writes p k _ _ name text
    (subst (λ (q : Reply). In {X = List ℕ × List ℕ} (name, text) q.writes) is.1.planned.reply w)
own_writes (Follow s o) x r name text is w = subst (λ (q : Reply). In (name, text) q.writes) is w
own_writes (Delay s t p) x r name text (inl f) w = subst (λ (q : Reply). In (name, text) q.writes) f.reply w
own_writes (Delay s t p) x r name text (inr d) w = subst (λ (q : Reply). In (name, text) q.writes) d.reply w
own_writes (Sheet s t p n) x r name text (inl f) w = absurd (subst (λ (q : Reply). In (name, text) q.writes) f.reply w)
own_writes (Sheet s t p n) x r name text (inr d) w = one_write n _ name text (subst (λ (ws : List (List ℕ × List ℕ)). In {X = List ℕ × List ℕ} (name, text) ws) d.writes w)
own_writes (Draw s t p n) x r name text is w = one_write n _ name text (subst (λ (ws : List (List ℕ × List ℕ)). In {X = List ℕ × List ℕ} (name, text) ws) is.writes w)
own_writes (Page s t p n) x r name text is w = one_write n _ name text (subst (λ (ws : List (List ℕ × List ℕ)). In {X = List ℕ × List ℕ} (name, text) ws) is.writes w)
own_writes (Report s t p) x r name text (inl f) w = subst (λ (q : Reply). In (name, text) q.writes) f.reply w
own_writes (Report s t p) x r name text (inr d) w = subst (λ (q : Reply). In (name, text) q.writes) d.reply w
own_writes (Trial n u m s t p k) x r name text is w = in_four s t p k _ _ _ _ name text (subst (λ (q : Reply). In {X = List ℕ × List ℕ} (name, text) q.writes) is.reply w)
own_writes (Upgrade s t n m) x r name text is w = in_both n m _ _ name text (subst (λ (q : Reply). In {X = List ℕ × List ℕ} (name, text) q.writes) is w)

-- ---- the first input that isn't accepted

refused_reply : {X : Type 0} (x : Result X (List ℕ)) (P : X → Reply → Type 0) (text : List ℕ) (r : Reply) → result_err x ≡ Some text → Decided x P r → r ≡ refusal text
refused_reply (Ok y) P text r e is = absurd (let h : None ≡ Some text = e in cc)
refused_reply (Err line) P text r e is = is ∙ ap refusal (let h : Some line ≡ Some text = e in cc)

pub input_there : (c : Call) (old new : Seen) (s : Status) (files : Files) (text : List ℕ) → old.files ≡ Some files → refused c files ≡ Some text → Ends c old new s
    → ((s ≡ status.Input) × IsWhole (refusal text) old new) ⊎ Yields s
input_there c old new s files text told e (inl h) = inr (early c old new s h)
input_there c old new s files text told e (inr h) = at (its_own h.0 old new s h.2)
  where
    is : h.0 ≡ refusal text
    is = refused_reply (stated_in c files) (IsAnswer c) text h.0 e (reply_at c old.files files h.0 told h.1)

    at : ((s ≡ the_status h.0.outcome) × IsWhole h.0 old new) ⊎ Yields s → ((s ≡ status.Input) × IsWhole (refusal text) old new) ⊎ Yields s
    at (inl w) = inl (w.0 ∙ ap (λ (r : Reply). the_status r.outcome) is, subst (λ r. IsWhole r old new) is w.1)
    at (inr y) = inr y

Refused : {X : Type 0} → Result X (List ℕ) → Reply → Type 0
Refused x r = (text : List ℕ) × (result_err x ≡ Some text) × (r ≡ refusal text)

input_tells : (c : Call) (x : Result (Value c) (List ℕ)) (r : Reply) → Decided x (IsAnswer c) r → r.outcome ≡ outcome.Input → Refused x r
unfolding Refused
input_tells c (Err text) r is o = (text, refl, is)
input_tells c (Ok v) r is o = absurd (no_input c v r is o)

pub input_only : (c : Call) (old new : Seen) → Ends c old new status.Input → (files : Files) × Agrees old.files files
    × ((text : List ℕ) × (refused c files ≡ Some text) × IsWhole (refusal text) old new)
unfolding Refused
input_only c old new e =
    let h = has_reply c outcome.Input old new e in
    let told = input_tells c (stated_in c h.1.0) h.0 h.1.2 h.2 in
    (h.1.0, h.1.1, (told.0, told.1, subst (λ r. IsWhole r old new) told.2 h.3))

-- ---- what stands

written_same : (ws : List (List ℕ × List ℕ)) (a : Files) (name : List ℕ) → ((text : List ℕ) → In (name, text) ws → ⊥) → map.get (written ws a) name ≡ map.get a name
written_same [] a name other = refl
written_same (w ∷ ws) a name other =
    written_same ws (map.insert a w.0 w.1) name (λ text is. other text (inr is))
    ∙ same_elsewhere a w.0 w.1 name (λ e. other w.1 (inl (ap (λ n. (n, w.1)) e)))

reply_writes : (c : Call) (x : Result (Value c) (List ℕ)) (r : Reply) (name text : List ℕ) → Decided x (IsAnswer c) r → In (name, text) r.writes → In name (outputs_of c)
reply_writes c (Ok v) r name text is w = own_writes c v r name text is w
reply_writes c (Err line) r name text is w = absurd (subst (λ (q : Reply). In (name, text) q.writes) is w)

module _ (c : Call) (old new : Seen) (r : Reply) (name : List ℕ) (is : IsReplyOver c old.files r) (other : In name (outputs_of c) → ⊥) where
  not_written : (text : List ℕ) → In (name, text) r.writes → ⊥
  not_written text w = other (reply_writes c (stated_in c is.0) r name text is.2 w)

  abbrev Kept : Files → Files → Type 0
  Kept a b = map.get b name ≡ map.get a name

  after_whole : BothTold old.files new.files (λ a b. b ≡ written r.writes a) → BothTold old.files new.files Kept
  after_whole h = both_map _ Kept old.files new.files h (λ a b e. ap (λ f. map.get f name) e ∙ written_same r.writes a name not_written)

  after_cut : CutInFiles r old new → BothTold old.files new.files Kept
  after_cut h = both_map _ Kept old.files new.files h.some.files (λ a b e. ap (λ f. map.get f name) e
      ∙ written_same (take h.some.many r.writes) a name (λ text is. not_written text (in_some h.some.many r.writes (name, text) is)))

  after_delivery : (s : Status) → Delivers r old new s → BothTold old.files new.files Kept
  after_delivery status.Store h = after_cut h.1
  after_delivery status.Memory (inl h) = after_cut h
  after_delivery status.Memory (inr h) = after_whole h.files
  after_delivery status.Sink h = after_whole h.1.files
  after_delivery status.Done h = after_whole h.1.files
  after_delivery status.Findings h = after_whole h.1.files
  after_delivery status.Words h = after_whole h.1.files
  after_delivery status.Input h = after_whole h.1.files
  after_delivery status.NoMatching h = after_whole h.1.files
  after_delivery status.Unfinished h = after_whole h.1.files

after_early : (c : Call) (old new : Seen) (s : Status) (name : List ℕ) → StopsEarly old new s → BothTold old.files new.files (λ a b. map.get b name ≡ map.get a name)
after_early c old new status.Store name h = both_same _ old.files new.files h.2 (λ a. refl)
after_early c old new status.Memory name h = both_same _ old.files new.files h.1 (λ a. refl)
after_early c old new status.Done name h = absurd h
after_early c old new status.Findings name h = absurd h
after_early c old new status.Words name h = absurd h
after_early c old new status.Input name h = absurd h
after_early c old new status.NoMatching name h = absurd h
after_early c old new status.Unfinished name h = absurd h
after_early c old new status.Sink name h = absurd h

pub others : (c : Call) (old new : Seen) (s : Status) (name : List ℕ) → (In name (outputs_of c) → ⊥) → Ends c old new s
    → BothTold old.files new.files (λ a b. map.get b name ≡ map.get a name)
others c old new s name other (inl h) = after_early c old new s name h
others c old new s name other (inr h) = after_delivery c old new h.0 name h.1 other s h.2

pub after_store : (c : Call) (old new : Seen) → Ends c old new status.Store → new.output ≡ old.output
after_store c old new (inl h) = h.1
after_store c old new (inr h) = h.2.1.output

pub after_memory : (c : Call) (old new : Seen) → Ends c old new status.Memory → (new.output ≡ old.output) ⊎ ((r : Reply) × IsReplyOver c old.files r × CutInText r old new)
after_memory c old new (inl h) = inl h.0
after_memory c old new (inr (r, is, inl h)) = inl h.output
after_memory c old new (inr (r, is, inr h)) = inr (r, is, h)

-- all of the files were written, so some of them were
whole_some : (ws : Entries) (old new : Seen) → BothTold old.files new.files (λ a b. b ≡ written ws a) → BothTold old.stored new.stored (λ a b. b ≡ a ++ ws)
    → WritesSome ws (known_of old) (known_of new)
whole_some ws old new files stored =
    let all : ws ≡ take (length ws) ws = sym (take_all (length ws) ws (omega arith)) in
    record {
      many = length ws;
      files = subst (λ (vs : Entries). BothTold old.files new.files (λ a b. b ≡ written vs a)) all files;
      stored = subst (λ (vs : Entries). BothTold old.stored new.stored (λ a b. b ≡ a ++ vs)) all stored;
    }

-- nothing was written, or some files of a defined reply were
abbrev Broken : Call → Seen → Seen → Type 0
Broken c old new = Stays (known_of old) (known_of new) ⊎ ((r : Reply) × IsReplyOver c old.files r × WritesSome r.writes (known_of old) (known_of new))

pub after_failure : (c : Call) (old new : Seen) (s : Status) → (s ≡ status.Store) ⊎ (s ≡ status.Memory) → Ends c old new s
    → Stays (known_of old) (known_of new) ⊎ ((r : Reply) × IsReplyOver c old.files r × WritesSome r.writes (known_of old) (known_of new))
after_failure c old new s (inl is) ends = at (subst (Ends c old new) is ends)
  where
    at : Ends c old new status.Store → Broken c old new
    at (inl h) = inl (h.2, h.3)
    at (inr (r, over, h)) = inr (r, over, h.1.some)
after_failure c old new s (inr is) ends = at (subst (Ends c old new) is ends)
  where
    at : Ends c old new status.Memory → Broken c old new
    at (inl h) = inl (h.1, h.2)
    at (inr (r, over, inl h)) = inr (r, over, h.some)
    at (inr (r, over, inr h)) = inr (r, over, whole_some r.writes old new h.files h.stored)

pub after_sink : (c : Call) (old new : Seen) → Ends c old new status.Sink → (r : Reply) × IsReplyOver c old.files r × CutInText r old new
after_sink c old new (inl h) = absurd h
after_sink c old new (inr h) = (h.0, h.1, h.2.1)
