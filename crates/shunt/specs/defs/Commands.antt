-- The commands: of each its word, what stands behind it, and its answer.
use Rattle.std.specs.Prelude.{ℕ, List, [], ◌∷◌, codes, Result, Ok}
use Rattle.shunt_dispatch.specs.defs.Compared.{Comparable, comparison_in, IsCompared}
use Rattle.shunt_dispatch.specs.defs.Delayed.{IsDelayed}
use Rattle.shunt_dispatch.specs.defs.Followed.{Followable, following_in, IsFollowed}
use Rattle.shunt_dispatch.specs.defs.Ordered.{IsOrdered}
use Rattle.shunt_dispatch.specs.defs.Resumed.{resumption_in, IsResumed}
use Rattle.shunt_drawing.specs.defs.Drawn.{IsDrawn}
use Rattle.shunt_drawing.specs.defs.Paged.{IsPaged}
use Rattle.shunt_exchange.specs.defs.Reported.{IsReported}
use Rattle.shunt_exchange.specs.defs.Upgraded.{IsUpgraded, Upgradable, upgrade_in}
use Rattle.shunt_inputs.specs.declared.pins.Pinned.{Pinned}
use Rattle.shunt_inputs.specs.defs.Inputs.{Agrees, stated_night, plans_in, pinned_in}
use Rattle.shunt_inputs.specs.defs.Replies.{Reply, Decided}
use Rattle.shunt_instance.specs.defs.Instance.{Night}
use Rattle.shunt_judging.specs.defs.Audited.{IsAudited}
use Rattle.shunt_judging.specs.defs.Checked.{Checkable, check_in, IsChecked}
use Rattle.shunt_judging.specs.defs.Pinned.{IsPinChecked, PinChecked, pin_check_in}
use Rattle.shunt_judging.specs.defs.Replayed.{IsReplayed, Replayable, turns_in}
use Rattle.shunt_plan.specs.declared.records.Plan.{Plan}
use Rattle.shunt_planning.specs.defs.Improved.{IsImproved, in_hand_in}
use Rattle.shunt_planning.specs.defs.Matched.{IsMatched}
use Rattle.shunt_planning.specs.defs.Planned.{IsPinned, IsSought}
use Rattle.shunt_store.specs.defs.Files.{Files, content}
use Rattle.shunt_throat.specs.defs.Passed.{IsPassed, Passable, passing_in}
use Rattle.shunt_throat.specs.defs.Rostered.{IsRostered, Rosterable, rostering_in}
use Rattle.shunt_throat.specs.defs.Shared.{IsShared, Sharable, sharing_in}
use Rattle.shunt_trial.specs.defs.Tried.{IsTried}
use Rattle.shunt.specs.defs.Calls.{Call, Match, Follow, Audit, Delay, Report, Check, Compare, Zones, Sheet, Draw, Page, Upgrade, Trial, Drivers, Roster, CheckPinned, Replay, Resume, MakePlan, MakePinned, Improve}

-- What stands in a place behind the word of a command: the name of a file that is read or written, how many nodes a search may note, the number
-- or the units of a night that is made, or a minute.
pub data Slot : Type 0 where
  Reads : List ℕ → Slot
  Writes : List ℕ → Slot
  Nodes : ℕ → Slot
  Number : ℕ → Slot
  Units : ℕ → Slot
  Minute : ℕ → Slot

-- what a command is: its word and what stands behind it in order; what its input files state together, judged in the order of the words, or the line
-- for the first of them that isn't accepted; and which replies answer it
pub record Row : Type 1 where
  pub word : List ℕ
  pub slots : List Slot
  pub Value : Type 0
  pub stated : Files → Result Value (List ℕ)
  pub IsAnswer : Value → Reply → Type 0

abbrev row : List ℕ → List Slot → {V : Type 0} → (Files → Result V (List ℕ)) → (V → Reply → Type 0) → Row
row word slots {V} stated answers = record { word = word; slots = slots; Value = V; stated = stated; IsAnswer = answers }

abbrev pub row_of : Call → Row
row_of (Match s t) =
    row (codes "match") (Reads s ∷ Reads t ∷ [])
    (λ files. stated_night (content files s) (content files t)) IsMatched
row_of (Follow s o) = row (codes "follow") (Reads s ∷ Reads o ∷ []) (following_in s o) IsFollowed
row_of (Audit s t p) = row (codes "audit") (Reads s ∷ Reads t ∷ Reads p ∷ []) (plans_in s t p) IsAudited
row_of (Delay s t p) = row (codes "delay") (Reads s ∷ Reads t ∷ Reads p ∷ []) (plans_in s t p) IsDelayed
row_of (Report s t p) = row (codes "report") (Reads s ∷ Reads t ∷ Reads p ∷ []) (plans_in s t p) IsReported
row_of (Check s t p k) =
    row (codes "check") (Reads s ∷ Reads t ∷ Reads p ∷ Reads k ∷ [])
    (check_in s t p k) IsChecked
row_of (Compare s t p o) =
    row (codes "compare") (Reads s ∷ Reads t ∷ Reads p ∷ Reads o ∷ [])
    (comparison_in s t p o) IsCompared
row_of (Zones s t p z) =
    row (codes "zones") (Reads s ∷ Reads t ∷ Reads p ∷ Reads z ∷ [])
    (passing_in s t p z) IsPassed
row_of (Sheet s t p n) =
    row (codes "sheet") (Reads s ∷ Reads t ∷ Reads p ∷ Writes n ∷ [])
    (plans_in s t p) (IsOrdered n)
row_of (Draw s t p n) =
    row (codes "draw") (Reads s ∷ Reads t ∷ Reads p ∷ Writes n ∷ [])
    (plans_in s t p) (IsDrawn n)
row_of (Page s t p n) =
    row (codes "page") (Reads s ∷ Reads t ∷ Reads p ∷ Writes n ∷ [])
    (plans_in s t p) (IsPaged n)
row_of (Upgrade s t n m) =
    row (codes "upgrade") (Reads s ∷ Reads t ∷ Writes n ∷ Writes m ∷ [])
    (upgrade_in s t) (IsUpgraded n m)
row_of (Trial n u m s t p k) =
    row (codes "trial") (Number n ∷ Units u ∷ Nodes m ∷ Writes s ∷ Writes t ∷ Writes p ∷ Writes k ∷ [])
    (λ files. Ok tt) (λ (x : Unit {0}). IsTried n u m s t p k)
row_of (Drivers s t p c d) =
    row (codes "drivers") (Reads s ∷ Reads t ∷ Reads p ∷ Reads c ∷ Writes d ∷ [])
    (sharing_in s t p c) (IsShared d)
row_of (Roster s t p c d) =
    row (codes "roster") (Reads s ∷ Reads t ∷ Reads p ∷ Reads c ∷ Reads d ∷ [])
    (rostering_in s t p c d) IsRostered
row_of (CheckPinned s t i p k) =
    row (codes "check-pinned") (Reads s ∷ Reads t ∷ Reads i ∷ Reads p ∷ Reads k ∷ [])
    (pin_check_in s t i p k) IsPinChecked
row_of (Replay s t p e n) =
    row (codes "replay") (Reads s ∷ Reads t ∷ Reads p ∷ Reads e ∷ Writes n ∷ [])
    (turns_in s t p e) (IsReplayed n)
row_of (Resume s t p m n i) =
    row (codes "resume") (Reads s ∷ Reads t ∷ Reads p ∷ Minute m ∷ Writes n ∷ Writes i ∷ [])
    (resumption_in s t p) (IsResumed m n i)
row_of (MakePlan s t m p k) =
    row (codes "plan") (Reads s ∷ Reads t ∷ Nodes m ∷ Writes p ∷ Writes k ∷ [])
    (λ files. stated_night (content files s) (content files t)) (IsSought m p k)
row_of (MakePinned s t i m p k) =
    row (codes "pinned") (Reads s ∷ Reads t ∷ Reads i ∷ Nodes m ∷ Writes p ∷ Writes k ∷ [])
    (pinned_in s t i) (IsPinned m p k)
row_of (Improve s t i h m p k) =
    row (codes "improve") (Reads s ∷ Reads t ∷ Reads i ∷ Reads h ∷ Nodes m ∷ Writes p ∷ Writes k ∷ [])
    (in_hand_in s t i h) (IsImproved m p k)
