-- From the values of input files that were read one after the other to the defined answer of a command.
use Rattle.std.proofs.Common.{◌≡◌, ◌<◌, ℕ, List, [], ◌∷◌, Option, Result, Ok, subst, sym}
use Rattle.shunt_store.specs.defs.Files.{Files, content}
use Rattle.shunt_instance.specs.defs.Instance.{Night}
use Rattle.shunt_instance.specs.declared.records.Station.{Station}
use Rattle.shunt_instance.specs.declared.records.Timetable.{Timetable}
use Rattle.shunt_plan.specs.declared.records.Plan.{Plan}
use Rattle.shunt_plan.specs.declared.edits.Turn.{Turn}
use Rattle.shunt_proof.specs.declared.records.Certificate.{Certificate}
use Rattle.shunt_zones.specs.declared.records.Zones.{Zones as ThroatZones}
use Rattle.shunt_drivers.specs.declared.records.Crew.{Crew}
use Rattle.shunt_drivers.specs.declared.records.Duty.{Duty}
use Rattle.shunt_sheet.specs.declared.records.Order.{Order}
use Rattle.shunt_inputs.specs.declared.answers.Answer.{Answer}
use Rattle.shunt_inputs.specs.declared.file_loader.Halt.{Halt}
use Rattle.shunt_inputs.specs.declared.nights.WholeNight.{WholeNight}
use Rattle.shunt_inputs.specs.declared.pins.Pinned.{Pinned}
use Rattle.shunt_inputs.specs.defs.Inputs.{pinned_in, plans_in, stated_certificate, stated_crew, stated_edits, stated_other, stated_plan, stated_roster, stated_sheet, stated_station, stated_timetable, stated_whole, stated_zones, then_stated}
use Rattle.shunt_inputs.specs.defs.Names.{AreNames}
use Rattle.shunt_inputs.specs.defs.Replies.{Reply, Decided}
use Rattle.shunt_inputs.specs.defs.Writes.{Known, LeavesOne}
use Rattle.shunt_inputs.proofs.Held.{decided_behind, decided_last, decided_over}
use Rattle.shunt_inputs.proofs.FirstFiles.{leads_with}
use Rattle.shunt_inputs.proofs.SeenFiles.{front_names}
use Rattle.shunt_judging.specs.defs.Checked.{Checkable, stated_check, IsChecked}
use Rattle.shunt_judging.specs.defs.Pinned.{PinChecked, stated_pin_check, IsPinChecked}
use Rattle.shunt_judging.specs.defs.Replayed.{Replayable, stated_turns, IsReplayed}
use Rattle.shunt_throat.specs.defs.Passed.{Passable, stated_passing, IsPassed}
use Rattle.shunt_throat.specs.defs.Rostered.{Rosterable, stated_rostering, IsRostered}
use Rattle.shunt_throat.specs.defs.Shared.{Sharable, stated_sharing, IsShared}
use Rattle.shunt_dispatch.specs.defs.Compared.{Comparable, stated_comparison, IsCompared}
use Rattle.shunt_dispatch.specs.defs.Followed.{Followable, IsFollowed}
use Rattle.shunt_dispatch.specs.defs.Resumed.{Resumable, stated_resumption, IsResumed}
use Rattle.shunt_exchange.specs.defs.Upgraded.{Upgradable, IsUpgraded}
use Rattle.shunt.specs.defs.Calls.{Call, Follow, Check, Compare, Zones, Upgrade, Drivers, Roster, CheckPinned, Replay, Resume}
use Rattle.shunt.specs.defs.Words.{IsUsable, inputs_of, outputs_of}
use Rattle.shunt.specs.defs.Replies.{IsReply, IsReplyOver}

-- what leads to an answer over the files leads to one of the command
pub asked : (P : Reply → Type 0) (c d : Call) (view : Option Files) (old new : Known) (r : Result Answer Halt) → c ≡ d → LeavesOne P old new r
    → ((reply : Reply) → P reply → IsReplyOver d view reply) → LeavesOne (IsReplyOver c view) old new r
asked P c d view old new r is h step = subst (λ (x : Call). LeavesOne (IsReplyOver x view) old new r) (sym is) (leads_with P (IsReplyOver d view) old new r step h)

-- the names of its input files can be used
inputs_usable : (c : Call) → IsUsable c → AreNames (inputs_of c)
inputs_usable c u = front_names (inputs_of c) (outputs_of c) u.0

pub inputs_named : (c d : Call) → c ≡ d → IsUsable c → AreNames (inputs_of d)
inputs_named c d is u = subst (λ x. AreNames (inputs_of x)) is (inputs_usable c u)

-- ---- the values as one record

-- what one file states over what was read before it, beside that
abbrev Beside : {X Y : Type 0} → Result X (List ℕ) → (X → Result Y (List ℕ)) → (X × Y → Reply → Type 0) → Reply → Type 0
Beside {X = X} {Y = Y} first next P r = Decided (then_stated first (λ x. then_stated (next x) (λ y. Ok (x, y)))) P r

abbrev checkable : Night × Plan → Certificate → Checkable
checkable x certificate = record { night = x.0; plan = x.1; certificate = certificate }

pub checked_over : (files : Files) (s t p k : List ℕ) (r : Reply) → Beside (plans_in s t p files) (λ x. stated_certificate x.0 (content files k))
    (λ (v : (Night × Plan) × Certificate). IsChecked (checkable v.0 v.1)) r → IsReply (Check s t p k) files r
unfolding stated_check
checked_over files s t p k r h = decided_over (plans_in s t p files) (λ x. stated_certificate x.0 (content files k)) checkable IsChecked r h

abbrev comparable : Night × Plan → Plan → Comparable
comparable x other = record { night = x.0; plan = x.1; other = other }

pub compared_over : (files : Files) (s t p o : List ℕ) (r : Reply) → Beside (plans_in s t p files) (λ x. stated_other x.0 (content files o))
    (λ (v : (Night × Plan) × Plan). IsCompared (comparable v.0 v.1)) r → IsReply (Compare s t p o) files r
unfolding stated_comparison
compared_over files s t p o r h = decided_over (plans_in s t p files) (λ x. stated_other x.0 (content files o)) comparable IsCompared r h

abbrev passable : Night × Plan → ThroatZones → Passable
passable x zones = record { night = x.0; plan = x.1; zones = zones }

pub passed_over : (files : Files) (s t p z : List ℕ) (r : Reply) → Beside (plans_in s t p files) (λ x. stated_zones x.0 (content files z))
    (λ (v : (Night × Plan) × ThroatZones). IsPassed (passable v.0 v.1)) r → IsReply (Zones s t p z) files r
unfolding stated_passing
passed_over files s t p z r h = decided_over (plans_in s t p files) (λ x. stated_zones x.0 (content files z)) passable IsPassed r h

abbrev replayable : Night × Plan → List Turn → Replayable
replayable x turns = record { night = x.0; plan = x.1; turns = turns }

pub replayed_over : (files : Files) (s t p e n : List ℕ) (r : Reply) → Beside (plans_in s t p files) (λ x. stated_edits x.0 (content files e))
    (λ (v : (Night × Plan) × List Turn). IsReplayed n (replayable v.0 v.1)) r → IsReply (Replay s t p e n) files r
unfolding stated_turns
replayed_over files s t p e n r h = decided_over (plans_in s t p files) (λ x. stated_edits x.0 (content files e)) replayable (IsReplayed n) r h

abbrev sharable : Night × Plan → Crew → Sharable
sharable x crew = record { night = x.0; plan = x.1; crew = crew }

pub shared_over : (files : Files) (s t p c d : List ℕ) (r : Reply) → Beside (plans_in s t p files) (λ x. stated_crew x.0 (content files c))
    (λ (v : (Night × Plan) × Crew). IsShared d (sharable v.0 v.1)) r → IsReply (Drivers s t p c d) files r
unfolding stated_sharing
shared_over files s t p c d r h = decided_over (plans_in s t p files) (λ x. stated_crew x.0 (content files c)) sharable (IsShared d) r h

abbrev pub rosterable : Sharable → List Duty → Rosterable
rosterable x duties = record { night = x.night; plan = x.plan; crew = x.crew; duties = duties }

pub rostered_over : (files : Files) (s t p c d : List ℕ) (r : Reply)
    → Beside (then_stated (plans_in s t p files) (λ x. then_stated (stated_crew x.0 (content files c)) (λ y. Ok (x, y))))
    (λ (v : (Night × Plan) × Crew). stated_roster v.0.0 v.0.1 (content files d))
    (λ (v : ((Night × Plan) × Crew) × List Duty). IsRostered (rosterable (sharable v.0.0 v.0.1) v.1)) r
    → IsReply (Roster s t p c d) files r
unfolding stated_rostering stated_sharing
rostered_over files s t p c d r h = decided_behind (plans_in s t p files) (λ x. stated_crew x.0 (content files c)) sharable
    (λ u. stated_roster u.night u.plan (content files d)) rosterable IsRostered r h

abbrev pub pin_checkable : Pinned → Plan → Certificate → PinChecked
pin_checkable x plan certificate = record { night = x.instance; pins = x.pins; plan = plan; certificate = certificate }

pub pin_checked_over : (files : Files) (s t i p k : List ℕ) (r : Reply)
    → Beside (then_stated (pinned_in s t i files) (λ x. then_stated (stated_plan x.instance (content files p)) (λ y. Ok (x, y))))
    (λ (v : Pinned × Plan). stated_certificate v.0.instance (content files k)) (λ (v : (Pinned × Plan) × Certificate). IsPinChecked (pin_checkable v.0.0 v.0.1 v.1)) r
    → IsReply (CheckPinned s t i p k) files r
unfolding stated_pin_check
pin_checked_over files s t i p k r h = decided_last (pinned_in s t i files) (λ x. stated_plan x.instance (content files p))
    (λ x plan. stated_certificate x.instance (content files k)) pin_checkable IsPinChecked r h

abbrev resumable : WholeNight → Plan → Resumable
resumable x plan = record { timetable = x.timetable; night = x.instance; plan = plan }

resumed_at : (files : Files) (s t p : List ℕ) (m : ℕ) (n i : List ℕ) (r : Reply)
    → Beside (stated_whole (content files s) (content files t)) (λ x. stated_plan x.instance (content files p))
    (λ (v : WholeNight × Plan). IsResumed m n i (resumable v.0 v.1)) r → IsReply (Resume s t p m n i) files r
unfolding stated_resumption
resumed_at files s t p m n i r h = decided_over (stated_whole (content files s) (content files t)) (λ x. stated_plan x.instance (content files p)) resumable (IsResumed m n i) r h

-- the same by a number of that minute
pub resumed_over : (files : Files) (s t p : List ℕ) (k m : ℕ) (n i : List ℕ) → k ≡ m → (r : Reply)
    → Beside (stated_whole (content files s) (content files t)) (λ x. stated_plan x.instance (content files p))
    (λ (v : WholeNight × Plan). IsResumed k n i (resumable v.0 v.1)) r → IsReply (Resume s t p m n i) files r
resumed_over files s t p k m n i same r h = subst (λ (x : ℕ). IsReply (Resume s t p x n i) files r) same (resumed_at files s t p k n i r h)

-- the minute is one of two days
pub resumed_minute : (c : Call) (s t p : List ℕ) (m : ℕ) (n i : List ℕ) → c ≡ Resume s t p m n i → IsUsable c → m < 2880
resumed_minute c s t p m n i is u = (subst IsUsable is u).1.0

abbrev pub followable : Station → List Order → Followable
followable station orders = record { station = station; orders = orders }

pub followed_over : (files : Files) (s o : List ℕ) (r : Reply) → Beside (stated_station (content files s)) (λ x. stated_sheet x (content files o))
    (λ (v : Station × List Order). IsFollowed (followable v.0 v.1)) r → IsReply (Follow s o) files r
followed_over files s o r h = decided_over (stated_station (content files s)) (λ x. stated_sheet x (content files o)) followable IsFollowed r h

abbrev upgradable : Station → Timetable → Upgradable
upgradable station timetable = record { station = station; timetable = timetable }

pub upgraded_over : (files : Files) (s t n m : List ℕ) (r : Reply) → Beside (stated_station (content files s)) (λ x. stated_timetable x (content files t))
    (λ (v : Station × Timetable). IsUpgraded n m (upgradable v.0 v.1)) r → IsReply (Upgrade s t n m) files r
upgraded_over files s t n m r h = decided_over (stated_station (content files s)) (λ x. stated_timetable x (content files t)) upgradable (IsUpgraded n m) r h
