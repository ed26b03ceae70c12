-- When each status of `resume` comes, and the night that its files then state.
use Rattle.std.proofs.Common.{◌≡◌, ◌≢◌, ◌≤◌, Some, sym, ap, inl, inr, refl, Result, Ok, Err, List, [], ◌∷◌, length, map, ◌∙◌, ℕ, arith}
use Rattle.std.specs.Prelude.{◌⊎◌, IsTrue, codes, decimal, unwrap_or, slice_index_or}
use Rattle.std.specs.FinMap as finmap
use Rattle.shunt_lists.specs.defs.Members.{In}
use Rattle.shunt_store.specs.defs.Files.{Files, content}
use Rattle.shunt_store.proofs.TableLaws.{get_here, same_elsewhere}
use Rattle.shunt_rows.specs.defs.Formats.{reading}
use Rattle.shunt_rows.specs.defs.Records.{records_of, text_of_rows}
use Rattle.shunt_rows.proofs.Again.{again}
use Rattle.shunt_instance.specs.declared.records.PlacedRun.{PlacedRun}
use Rattle.shunt_instance.specs.declared.records.Station.{Station}
use Rattle.shunt_instance.specs.declared.records.Timetable.{Timetable}
use Rattle.shunt_instance.specs.declared.records.Train.{Train}
use Rattle.shunt_instance.specs.defs.Words.{names_of}
use Rattle.shunt_instance.specs.defs.Wellformed.{IsStation, IsTimetable}
use Rattle.shunt_instance.specs.defs.Instance.{sort_by_minute, Night, IsInstance, night_of}
use Rattle.shunt_instance.proofs.Orders.{night_is, closed}
use Rattle.shunt_station.specs.defs.StatedStations.{station_format}
use Rattle.shunt_station.proofs.Formed.{station_formed}
use Rattle.shunt_timetable.specs.defs.TimetableFormat.{timetable_format}
use Rattle.shunt_timetable.specs.defs.WrittenRows.{rows_of}
use Rattle.shunt_timetable.proofs.Formed.{timetable_formed}
use Rattle.shunt_timetable.proofs.Plain.{rows_read}
use Rattle.shunt_blocks.specs.declared.records.Block.{Block}
use Rattle.shunt_blocks.specs.declared.records.Park.{Park}
use Rattle.shunt_blocks.specs.defs.Shapes.{shape_of}
use Rattle.shunt_blocks.specs.defs.Ways.{has_placed}
use Rattle.shunt_blocks.specs.defs.Lists.{AreInRange, IsFeasible, total_cost}
use Rattle.shunt_blocks.specs.defs.Pins.{AreUsable, Keeps}
use Rattle.shunt_plan.specs.declared.records.Plan.{Plan}
use Rattle.shunt_plan.specs.defs.Plans.{IsPlanInRange}
use Rattle.shunt_plan.specs.defs.PlanFormat.{plan_format}
use Rattle.shunt_plan.specs.defs.PlanRows.{dep_name, option_fields}
use Rattle.shunt_plan.specs.defs.PinsFormat.{pins_format}
use Rattle.shunt_plan.specs.defs.PinsRows.{pins_head, rows_of_pins, ReadsAsPins}
use Rattle.shunt_plan.proofs.Formed.{plan_formed}
use Rattle.shunt_audit.proofs.Stated.{only_plan}
use Rattle.shunt_resume.specs.defs.Resumed.{train_runs, with_runs, resumed, next_night, has_gone_by, gone, IsPlacedAsItIs, LeaveAsItCame}
use Rattle.shunt_resume.proofs.Timetables.{sort_stays, names_stay}
use Rattle.shunt_rows.specs.declared.words.FileWord.TheVariants as word
use Rattle.shunt_inputs.specs.declared.nights.WholeNight.{WholeNight}
use Rattle.shunt_inputs.specs.declared.pins.Pinned.{Pinned}
use Rattle.shunt_inputs.specs.declared.answers.Outcome.TheVariants as outcome
use Rattle.shunt_inputs.specs.defs.Inputs.{pinned_in, plans_in, stated_night, stated_pinned, stated_pins, stated_plan, stated_station, stated_timetable, then_stated}
use Rattle.shunt_inputs.specs.defs.Names.{AreNames}
use Rattle.shunt_inputs.specs.defs.Replies.{Reply, Decided, refusal}
use Rattle.shunt_inputs.specs.defs.Writes.{written}
use Rattle.shunt_inputs.proofs.Stated.{stated_again, stated_value, pinned_of}
use Rattle.shunt_judging.specs.defs.Audited.{IsClean, IsFaulty}
use Rattle.shunt_dispatch.specs.defs.Resumed.{Resumable, stated_resumption, resumption_in, HasRest, IsResumed, GoesOn}
use Rattle.shunt_trial.proofs.Left.{names_apart}
use Rattle.shunt.specs.declared.status.Status.TheVariants as status
use Rattle.shunt.specs.defs.Calls.{Resume}
use Rattle.shunt.specs.defs.Words.{IsUsable}
use Rattle.shunt.specs.defs.Ends.{Seen, Ends}
use Rattle.shunt.proofs.Audits.{FoundNone}
use Rattle.shunt.proofs.Exactly.{has_reply, reply_at}
use Rattle.shunt.proofs.RosterAccepted.{both_here}
use Rattle.shunt.proofs.Sound.{Answers}

-- ---- the answer on a plan

abbrev resumable : Timetable → Night × Plan → Resumable
resumable table x = record { timetable = table; night = x.0; plan = x.1 }

abbrev pub whole : Timetable → Night → WholeNight
whole table night = record { timetable = table; instance = night }

-- the rest of the night of a plan, of which the timetable states the night
abbrev pub Rest : ℕ → List ℕ → List ℕ → Night × Plan → Reply → Type 0
Rest m n i x r = (table : Timetable) × HasRest m n i (resumable table x) r

abbrev Either : ℕ → List ℕ → List ℕ → Night × Plan → Reply → Type 0
Either m n i x r = IsFaulty x r ⊎ Rest m n i x r

module _ (m : ℕ) (n i : List ℕ) (r : Reply) where
  of_plan : (night : Night) (table : Timetable) (plan : Result Plan (List ℕ)) → Decided (then_stated plan (λ p. Ok (resumable table (night, p)))) (IsResumed m n i) r
      → Decided (then_stated plan (λ p. Ok (night, p))) (Either m n i) r
  of_plan night table (Err text) is = is
  of_plan night table (Ok p) (inl f) = inl f
  of_plan night table (Ok p) (inr d) = inr (table, d)

  of_table : (s : Station) (table : Result Timetable (List ℕ)) (plan : Night → Result Plan (List ℕ))
      → Decided (then_stated (then_stated table (λ t. Ok (whole t (night_of s t)))) (λ x. then_stated (plan x.instance) (λ p. Ok (resumable x.timetable (x.instance, p)))))
      (IsResumed m n i) r
      → Decided (then_stated (then_stated table (λ t. Ok (night_of s t))) (λ night. then_stated (plan night) (λ p. Ok (night, p)))) (Either m n i) r
  of_table s (Err text) plan is = is
  of_table s (Ok t) plan is = of_plan (night_of s t) t (plan (night_of s t)) is

  of_station : (station : Result Station (List ℕ)) (table : Station → Result Timetable (List ℕ)) (plan : Night → Result Plan (List ℕ))
      → Decided (then_stated (then_stated station (λ s. then_stated (table s) (λ t. Ok (whole t (night_of s t)))))
      (λ x. then_stated (plan x.instance) (λ p. Ok (resumable x.timetable (x.instance, p))))) (IsResumed m n i) r
      → Decided (then_stated (then_stated station (λ s. then_stated (table s) (λ t. Ok (night_of s t)))) (λ night. then_stated (plan night) (λ p. Ok (night, p)))) (Either m n i) r
  of_station (Err text) table plan is = is
  of_station (Ok s) table plan is = of_table s (table s) plan is

resumed_either : (s t p : List ℕ) (m : ℕ) (n i : List ℕ) (files : Files) (r : Reply) → Decided (resumption_in s t p files) (IsResumed m n i) r
    → Decided (plans_in s t p files) (Either m n i) r
unfolding stated_resumption
resumed_either s t p m n i files r is = of_station m n i r (stated_station (content files s)) (λ station. stated_timetable station (content files t))
    (λ night. stated_plan night (content files p)) is

pub resume_answers : (s t p : List ℕ) (m : ℕ) (n i : List ℕ) → Answers (Resume s t p m n i) s t p (Rest m n i)
resume_answers s t p m n i = record { either = resumed_either s t p m n i; done = λ x r d. d.1.outcome; none = λ x r d. d.1.none }

-- ---- the night that the files then state

-- what the laws of the rest of a night say, and those of the texts of timetables and pins
pub record RestLaws : Type 0 where
  pub formed : (s : Station) (t : Timetable) (m : ℕ) (blocks : List Block) → IsStation s → IsTimetable s t → IsFeasible (night_of s t) blocks
      → IsTimetable s (resumed (night_of s t) m blocks t)
  pub feasible : (s : Station) (t : Timetable) (m : ℕ) (blocks : List Block) → IsStation s → IsTimetable s t → IsFeasible (night_of s t) blocks
      → IsFeasible (next_night s t m blocks) blocks
  pub cost : (s : Station) (t : Timetable) (m : ℕ) (blocks : List Block) → IsStation s → IsTimetable s t → IsFeasible (night_of s t) blocks
      → total_cost (next_night s t m blocks) blocks ≡ total_cost (night_of s t) blocks
  pub keeps : (s : Station) (t : Timetable) (m : ℕ) (blocks : List Block) → Keeps blocks (gone (night_of s t) m blocks)
  pub usable : (s : Station) (t : Timetable) (m : ℕ) (blocks : List Block) → IsStation s → IsTimetable s t → IsFeasible (night_of s t) blocks
      → AreUsable (next_night s t m blocks) (gone (night_of s t) m blocks)
  pub was_feasible : (s : Station) (t : Timetable) (m : ℕ) (blocks others : List Block) → IsStation s → IsTimetable s t → IsFeasible (night_of s t) blocks
      → IsFeasible (next_night s t m blocks) others → IsFeasible (night_of s t) others
  pub cost_before : (s : Station) (t : Timetable) (m : ℕ) (blocks others : List Block) → IsStation s → IsTimetable s t → IsFeasible (night_of s t) blocks
      → IsFeasible (next_night s t m blocks) others → total_cost (next_night s t m blocks) others ≡ total_cost (night_of s t) others
  pub gone_from : (night : Night) (m : ℕ) (blocks : List Block) (b : Block) → In b (gone night m blocks) → In b blocks × IsTrue (has_gone_by night m b)
  pub gone_to : (night : Night) (m : ℕ) (blocks : List Block) (b : Block) → In b blocks → IsTrue (has_gone_by night m b) → In b (gone night m blocks)
  pub leave : (s : Station) (t : Timetable) (m : ℕ) (blocks others : List Block) → IsStation s → IsTimetable s t → IsFeasible (night_of s t) blocks
      → IsFeasible (next_night s t m blocks) others → LeaveAsItCame (night_of s t) m blocks others
  pub all : (s : Station) (t : Timetable) (m : ℕ) (blocks others : List Block) → IsStation s → IsTimetable s t → IsFeasible (night_of s t) blocks
      → IsFeasible (night_of s t) others → LeaveAsItCame (night_of s t) m blocks others → IsFeasible (next_night s t m blocks) others
  pub stays : (night : Night) (blocks : List Block) (b : Block) (k : Park) → IsFeasible night blocks → In b blocks → b.park ≡ Some k → IsTrue (has_placed night (shape_of b))
      → IsPlacedAsItIs night b k
  pub table_again : (s : Station) (t : Timetable) → IsStation s → IsTimetable s t → reading (timetable_format s) (rows_of s t) ≡ Ok t
  pub table_short : (s : Station) (t : Timetable) → IsStation s → IsTimetable s t → length (text_of_rows (rows_of s t)) ≤ 23172
  pub pins_again : (night : Night) (pins : List Block) → IsInstance night → AreInRange night pins → ReadsAsPins night pins (text_of_rows (rows_of_pins night pins))
  pub pins_short : (night : Night) (pins : List Block) → IsInstance night → AreInRange night pins → length (text_of_rows (rows_of_pins night pins)) ≤ 32007

-- two files that were written, and the others
module _ (n i one two : List ℕ) (files : Files) where
  abbrev both : Files
  both = written ((n, one) ∷ (i, two) ∷ []) files

  first_there : n ≢ i → content both n ≡ one
  first_there ne = ap (λ o. unwrap_or o []) (same_elsewhere (finmap.insert files n one) i two n ne) ∙ ap (λ o. unwrap_or o []) (get_here files n one)

  second_there : content both i ≡ two
  second_there = ap (λ o. unwrap_or o []) (get_here (finmap.insert files n one) i two)

  other_there : (s : List ℕ) → s ≢ n → s ≢ i → content both s ≡ content files s
  other_there s a b = ap (λ o. unwrap_or o []) (same_elsewhere (finmap.insert files n one) i two s b) ∙ ap (λ o. unwrap_or o []) (same_elsewhere files n one s a)

-- pins are written with the names of trains, which are the same from the minute on
names_on : (s : Station) (t : Timetable) (m : ℕ) (blocks : List Block) → names_of (next_night s t m blocks).arrive ≡ names_of (night_of s t).arrive
names_on s t m blocks =
    let come : Train → List PlacedRun = λ u. with_runs (train_runs (night_of s t) m blocks u.name) u.placed in
    ap names_of (sort_stays come t.arrive) ∙ names_stay come (sort_by_minute t.arrive)

pins_on : (s : Station) (t : Timetable) (m : ℕ) (blocks pins : List Block) → rows_of_pins (night_of s t) pins ≡ rows_of_pins (next_night s t m blocks) pins
pins_on s t m blocks pins =
    ap (λ (names : List (List ℕ)). pins_head ∷ map (λ (b : Block). codes "block" ∷ decimal b.id ∷ slice_index_or names b.arr.0 [] ∷ decimal b.p ∷ decimal b.n ∷ dep_name
    (night_of s t) b.dep
    ∷ decimal b.q ∷ option_fields s b.park) pins) (sym (names_on s t m blocks))

-- what three files state where there is an answer on a plan without findings
record Found (s t p : List ℕ) (m : ℕ) (n i : List ℕ) (r : Reply) : Type 0 where
  station : Station
  table : Timetable
  plan : Plan
  station_is : stated_station s ≡ Ok station
  table_is : stated_timetable station t ≡ Ok table
  plan_is : stated_plan (night_of station table) p ≡ Ok plan
  rest : HasRest m n i (resumable table (night_of station table, plan)) r

module _ (s t p : List ℕ) (m : ℕ) (n i : List ℕ) (r : Reply) (done : r.outcome ≡ outcome.Done) where
  refused_here : (text : List ℕ) → r ≡ refusal text → Found s t p m n i r
  refused_here text is = absurd (let no : outcome.Input ≡ outcome.Done = sym (ap (λ (q : Reply). q.outcome) is) ∙ done in cc)

  found_plan : (station : Station) (table : Timetable) → stated_station s ≡ Ok station → stated_timetable station t ≡ Ok table → (plan : Result Plan (List ℕ))
      → stated_plan (night_of station table) p ≡ plan → Decided (then_stated plan (λ q. Ok (resumable table (night_of station table, q)))) (IsResumed m n i) r → Found s t p m n i r
  found_plan station table a b (Err text) e is = refused_here text is
  found_plan station table a b (Ok q) e (inl f) = absurd (let no : outcome.Findings ≡ outcome.Done = sym (ap (λ (q : Reply). q.outcome) f.reply) ∙ done in cc)
  found_plan station table a b (Ok q) e (inr d) = record { station = station; table = table; plan = q; station_is = a; table_is = b; plan_is = e; rest = d }

  found_table : (station : Station) → stated_station s ≡ Ok station → (table : Result Timetable (List ℕ)) → stated_timetable station t ≡ table
      → Decided (then_stated (then_stated table (λ x. Ok (whole x (night_of station x))))
      (λ x. then_stated (stated_plan x.instance p) (λ q. Ok (resumable x.timetable (x.instance, q)))))
      (IsResumed m n i) r → Found s t p m n i r
  found_table station a (Err text) e is = refused_here text is
  found_table station a (Ok table) e is = found_plan station table a e (stated_plan (night_of station table) p) refl is

  found_station : (station : Result Station (List ℕ)) → stated_station s ≡ station
      → Decided (then_stated (then_stated station (λ x. then_stated (stated_timetable x t) (λ y. Ok (whole y (night_of x y)))))
      (λ x. then_stated (stated_plan x.instance p) (λ q. Ok (resumable x.timetable (x.instance, q))))) (IsResumed m n i) r → Found s t p m n i r
  found_station (Err text) e is = refused_here text is
  found_station (Ok station) e is = found_table station e (stated_timetable station t) refl is

found : (s t p : List ℕ) (m : ℕ) (n i : List ℕ) (r : Reply) → r.outcome ≡ outcome.Done → Decided (stated_resumption s t p) (IsResumed m n i) r → Found s t p m n i r
unfolding stated_resumption
found s t p m n i r done is = found_station s t p m n i r done (stated_station s) refl is

-- a name among others differs from two behind them
apart_of : (s t p n i : List ℕ) → AreNames (s ∷ t ∷ p ∷ n ∷ i ∷ []) → (s ≢ n) × (s ≢ i) × (n ≢ i)
apart_of s t p n i names = (
  names_apart (s ∷ t ∷ p ∷ []) (n ∷ i ∷ []) s n names (inl refl) (inl refl),
  names_apart (s ∷ t ∷ p ∷ []) (n ∷ i ∷ []) s i names (inl refl) (inr (inl refl)),
  names_apart (s ∷ t ∷ p ∷ n ∷ []) (i ∷ []) n i names (inr (inr (inr (inl refl)))) (inl refl),
)

-- the text of a timetable is read as its records
text_again : (s : Station) (t : Timetable) → IsStation s → IsTimetable s t → records_of (text_of_rows (rows_of s t)) ≡ rows_of s t
text_again s t f g = rows_read s t (text_of_rows (rows_of s t)) (text_of_rows (rows_of s t)) f g refl (λ rows plain e. ap records_of e ∙ again rows plain)

module _ (none : FoundNone) (laws : RestLaws) (s t p : List ℕ) (m : ℕ) (n i : List ℕ) (files after : Files) (names : AreNames (s ∷ t ∷ p ∷ n ∷ i ∷ [])) (r : Reply)
    (f : Found (content files s) (content files t) (content files p) m n i r) (left : after ≡ written r.writes files) where
  abbrev night : Night
  night = night_of f.station f.table

  abbrev blocks : List Block
  blocks = f.plan.blocks

  abbrev next : Night
  next = next_night f.station f.table m blocks

  abbrev pins : List Block
  pins = gone night m blocks

  abbrev table_text : List ℕ
  table_text = text_of_rows (rows_of f.station (resumed night m blocks f.table))

  abbrev pins_text : List ℕ
  pins_text = text_of_rows (rows_of_pins night pins)

  station : IsStation f.station
  station = station_formed (records_of (content files s)) f.station (stated_value word.Station station_format (content files s) f.station f.station_is)

  table : IsTimetable f.station f.table
  table = timetable_formed f.station (records_of (content files t)) f.table (stated_value word.Timetable (timetable_format f.station) (content files t) f.table f.table_is)

  of_night : IsInstance night
  of_night = closed night (night_is f.station f.table station table)

  in_range : IsPlanInRange night f.plan
  in_range = plan_formed night (records_of (content files p)) f.plan (stated_value word.Plan (plan_format night) (content files p) f.plan f.plan_is)

  clean : IsClean (night, f.plan)
  clean = (none night f.plan of_night in_range.blocks).0 (sym (only_plan night f.plan [] in_range.blocks f.rest.none.in_order f.rest.none.exactly))

  next_table : IsTimetable f.station (resumed night m blocks f.table)
  next_table = laws.formed f.station f.table m blocks station table clean.0

  of_next : IsInstance next
  of_next = closed next (night_is f.station (resumed night m blocks f.table) station next_table)

  usable : AreUsable next pins
  usable = laws.usable f.station f.table m blocks station table clean.0

  after_is : after ≡ written ((n, table_text) ∷ (i, pins_text) ∷ []) files
  after_is = left ∙ ap (λ (ws : List (List ℕ × List ℕ)). written ws files) f.rest.writes

  apart : (s ≢ n) × (s ≢ i) × (n ≢ i)
  apart = apart_of s t p n i names

  night_states : stated_night (content files s) table_text ≡ Ok next
  night_states =
      ap (λ x. then_stated x (λ station. then_stated (stated_timetable station table_text) (λ timetable. Ok (night_of station timetable)))) f.station_is
      ∙ ap (λ x. then_stated x (λ timetable. Ok (night_of f.station timetable)))
      (stated_again word.Timetable (timetable_format f.station) table_text (resumed night m blocks f.table)
      (let le = laws.table_short f.station (resumed night m blocks f.table) station next_table in omega (arith, le))
      (ap (reading (timetable_format f.station)) (text_again f.station (resumed night m blocks f.table) station next_table)
      ∙ laws.table_again f.station (resumed night m blocks f.table) station next_table))

  pins_state : stated_pins next pins_text ≡ Ok pins
  pins_state =
      ap (λ (rows : List (List (List ℕ))). stated_pins next (text_of_rows rows)) (pins_on f.station f.table m blocks pins)
      ∙ stated_again word.Pins (pins_format next) (text_of_rows (rows_of_pins next pins)) pins (let le = laws.pins_short next pins of_next usable.in_range in omega (arith, le))
      (laws.pins_again next pins of_next usable.in_range).value

  pinned_states : pinned_in s n i after ≡ Ok (pinned_of next pins)
  pinned_states =
      ap (pinned_in s n i) after_is
      ∙ ap (λ x. stated_pinned x (content (both n i table_text pins_text files) n) (content (both n i table_text pins_text files) i))
      (other_there n i table_text pins_text files s apart.0 apart.1)
      ∙ ap (λ x. stated_pinned (content files s) x (content (both n i table_text pins_text files) i)) (first_there n i table_text pins_text files apart.2)
      ∙ ap (stated_pinned (content files s) table_text) (second_there n i table_text pins_text files)
      ∙ ap (λ x. then_stated x (λ night. then_stated (stated_pins night pins_text) (λ ps. Ok (pinned_of night ps)))) night_states
      ∙ ap (λ x. then_stated x (λ ps. Ok (pinned_of next ps))) pins_state

  plans_state : plans_in s t p files ≡ Ok (night, f.plan)
  plans_state =
      ap (λ x. then_stated (then_stated x (λ station. then_stated (stated_timetable station (content files t)) (λ timetable. Ok (night_of station timetable))))
      (λ night. then_stated (stated_plan night (content files p)) (λ plan. Ok (night, plan)))) f.station_is
      ∙ ap (λ x. then_stated (then_stated x (λ timetable. Ok (night_of f.station timetable)))
      (λ night. then_stated (stated_plan night (content files p)) (λ plan. Ok (night, plan)))) f.table_is
      ∙ ap (λ x. then_stated x (λ plan. Ok (night, plan))) f.plan_is

  goes_on : GoesOn m (night, f.plan) (pinned_of next pins)
  goes_on = record {
    clean = (laws.feasible f.station f.table m blocks station table clean.0, clean.1 ∙ sym (laws.cost f.station f.table m blocks station table clean.0));
    usable = usable;
    keeps = laws.keeps f.station f.table m blocks;
    feasible = λ others is. laws.was_feasible f.station f.table m blocks others station table clean.0 is;
    cost = λ others is. sym (laws.cost_before f.station f.table m blocks others station table clean.0 is);
    pins = λ b. (laws.gone_from night m blocks b, λ h. laws.gone_to night m blocks b h.0 h.1);
    leave = λ others is. laws.leave f.station f.table m blocks others station table clean.0 is;
    all = λ others is leave. laws.all f.station f.table m blocks others station table clean.0 is leave;
    stays = λ others b k is there park placed. laws.stays next others b k is there park placed;
  }

  goes : (x : Night × Plan) × (plans_in s t p files ≡ Ok x) × ((y : Pinned) × (pinned_in s n i after ≡ Ok y) × GoesOn m x y)
  goes = ((night, f.plan), plans_state, (pinned_of next pins, pinned_states, goes_on))

pub nights_go_on : FoundNone → RestLaws → (s t p : List ℕ) (m : ℕ) (n i : List ℕ) (old new : Seen) (files after : Files) → IsUsable (Resume s t p m n i) → old.files ≡ Some files
    → new.files ≡ Some after → Ends (Resume s t p m n i) old new status.Done
    → (x : Night × Plan) × (plans_in s t p files ≡ Ok x) × ((y : Pinned) × (pinned_in s n i after ≡ Ok y) × GoesOn m x y)
nights_go_on none laws s t p m n i old new files after usable before left ends =
    let h = has_reply (Resume s t p m n i) outcome.Done old new ends in
    let is = reply_at (Resume s t p m n i) old.files files h.0 before h.1 in
    let wrote : after ≡ written h.0.writes files = both_here old.files new.files files after (λ u v. v ≡ written h.0.writes u) before left h.3.files in
    goes none laws s t p m n i files after usable.0 h.0 (found (content files s) (content files t) (content files p) m n i h.0 h.2 is) wrote
