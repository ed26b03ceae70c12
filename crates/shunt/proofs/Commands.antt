-- From what the files of a command hold to its defined answer.
use Rattle.std.proofs.Common.{arith, ◌≡◌, ℕ, List, [], ◌∷◌, get_or, Option, Some, sym, subst, ap, ◌∙◌, refl, Result}
use Rattle.std.specs.Prelude.{None, unwrap_or, if◌then◌else◌, bytes_eq, codes}
use Rattle.std.specs.FinMap as finmap
use Rattle.std.specs.Fmt.{decimal}
use Rattle.std.specs.Str.Parse.{digits_value}
use Rattle.shunt_base.specs.defs.Spelling.{minute_of}
use Rattle.shunt_base.proofs.Decimal.{value_again}
use Rattle.shunt_base.proofs.Minutes.{read_again}
use Rattle.shunt_store.specs.defs.Files.{Files}
use Rattle.shunt.specs.defs.Calls.{Call, Match, Follow, Audit, Delay, Report, Check, Compare, Zones, Sheet, Draw, Page, Upgrade, Trial, Drivers, Roster, CheckPinned, Replay, Resume, MakePlan, MakePinned, Improve}
use Rattle.shunt.specs.defs.Words.{IsUsable, words_of}
use Rattle.shunt_throat.specs.defs.Shared.{stated_sharing, IsShared}
use Rattle.shunt_inputs.specs.defs.Inputs.{Agrees, stated_night, stated_plans, Holding}
use Rattle.shunt_judging.specs.defs.Audited.{IsAudited}
use Rattle.shunt_inputs.specs.defs.Replies.{Decided, reply_of}
use Rattle.shunt_inputs.specs.declared.answers.Answer.{Answer}
use Rattle.shunt_inputs.specs.declared.file_loader.Halt.{Halt}
use Rattle.shunt_judging.specs.defs.Checked.{stated_check, IsChecked}
use Rattle.shunt_inputs.specs.defs.Halts.{Replies}
use Rattle.shunt.specs.defs.Replies.{IsReply}
use Rattle.shunt_judging.specs.defs.Pinned.{stated_pin_check, IsPinChecked}
use Rattle.shunt_judging.specs.defs.Replayed.{stated_turns, IsReplayed}
use Rattle.shunt_throat.specs.defs.Rostered.{stated_rostering, IsRostered}
use Rattle.shunt_dispatch.specs.defs.Delayed.{IsDelayed}
use Rattle.shunt_dispatch.specs.defs.Ordered.{IsOrdered}
use Rattle.shunt_drawing.specs.defs.Drawn.{IsDrawn}
use Rattle.shunt_dispatch.specs.defs.Followed.{IsFollowed, stated_following}
use Rattle.shunt_exchange.specs.defs.Reported.{IsReported}
use Rattle.shunt_exchange.specs.defs.Upgraded.{IsUpgraded, stated_upgrade}
use Rattle.shunt_trial.specs.defs.Tried.{IsTried}
use Rattle.shunt_throat.specs.defs.Passed.{stated_passing, IsPassed}
use Rattle.shunt_planning.specs.defs.Matched.{IsMatched}

-- what was answered is a defined answer of the command
abbrev pub IsAnswered : Option Files → Result Answer Halt → Call → Type 0
IsAnswered told r c = (files : Files) × Agrees told files × Replies reply_of r (IsReply c files)

-- a trial reads no file, so its answer is one over all files
some_files : (told : Option Files) → (files : Files) × Agrees told files
some_files None = (finmap.empty, tt)
some_files (Some files) = (files, refl)

pub trial_answered : (told : Option Files) (c : Call) (n u m : ℕ) (s t p k : List ℕ) (r : Result Answer Halt) → c ≡ Trial n u m s t p k → Replies reply_of r (IsTried n u m s t p k)
    → IsAnswered told r c
trial_answered told c n u m s t p k r is h = let f = some_files told in subst (IsAnswered told r) (sym is) (f.0, f.1, h)

-- the command that words ask for
abbrev asked : List (List ℕ) → Option Call
asked (w ∷ s ∷ t ∷ []) = if bytes_eq w (codes "match") then Some (Match s t) else if bytes_eq w (codes "follow") then Some (Follow s t) else None
asked (w ∷ s ∷ t ∷ p ∷ []) = if bytes_eq w (codes "audit") then Some (Audit s t p) else if bytes_eq w (codes "delay") then Some (Delay s t p) else if bytes_eq w
    (codes "report") then Some (Report s t p) else None
asked (w ∷ s ∷ t ∷ p ∷ k ∷ []) =
    if bytes_eq w (codes "check") then Some (Check s t p k)
    else if bytes_eq w (codes "compare") then Some (Compare s t p k)
    else if bytes_eq w (codes "zones") then Some (Zones s t p k)
    else if bytes_eq w (codes "sheet") then Some (Sheet s t p k)
    else if bytes_eq w (codes "draw") then Some (Draw s t p k)
    else if bytes_eq w (codes "page") then Some (Page s t p k)
    else if bytes_eq w (codes "upgrade") then Some (Upgrade s t p k)
    else None
asked (w ∷ s ∷ t ∷ p ∷ e ∷ n ∷ []) =
    if bytes_eq w (codes "drivers") then Some (Drivers s t p e n)
    else if bytes_eq w (codes "roster") then Some (Roster s t p e n)
    else if bytes_eq w (codes "check-pinned") then Some (CheckPinned s t p e n)
    else if bytes_eq w (codes "replay") then Some (Replay s t p e n)
    else if bytes_eq w (codes "plan") then Some (MakePlan s t (digits_value 10 p) e n)
    else None
asked (w ∷ s ∷ t ∷ i ∷ m ∷ p ∷ k ∷ []) =
    if bytes_eq w (codes "pinned") then Some (MakePinned s t i (digits_value 10 m) p k)
    else if bytes_eq w (codes "resume") then Some (Resume s t i (unwrap_or (minute_of m) 0) p k)
    else None
asked (w ∷ n ∷ u ∷ m ∷ s ∷ t ∷ p ∷ k ∷ []) =
    if bytes_eq w (codes "trial") then Some (Trial (digits_value 10 n) (digits_value 10 u) (digits_value 10 m) s t p k)
    else if bytes_eq w (codes "improve") then Some (Improve n u m s (digits_value 10 t) p k)
    else None
asked words = None

same_trial : (n a x b m c : ℕ) (s t p k : List ℕ) → n ≡ a → x ≡ b → m ≡ c → Some (Trial n x m s t p k) ≡ Some (Trial a b c s t p k)
same_trial n a x b m c s t p k e f g = cc

asked_is : (c : Call) → IsUsable c → asked (words_of c) ≡ Some c
asked_is (Match s t) u = refl
asked_is (Follow s o) u = refl
asked_is (Audit s t p) u = refl
asked_is (Delay s t p) u = refl
asked_is (Report s t p) u = refl
asked_is (Check s t p k) u = refl
asked_is (Compare s t p o) u = refl
asked_is (Zones s t p z) u = refl
asked_is (Sheet s t p n) u = refl
asked_is (Draw s t p n) u = refl
asked_is (Page s t p n) u = refl
asked_is (Upgrade s t n m) u = refl
asked_is (Trial n x m s t p k) u =
    let small = u.1.0 in
    let units = u.1.1.0 in
    let few = u.1.1.1.1 in
    same_trial (digits_value 10 (decimal n)) n (digits_value 10 (decimal x)) x (digits_value 10 (decimal m)) m s t p k (value_again n (omega (arith, small)))
    (value_again x (omega (arith, units))) (value_again m (omega (arith, few)))
asked_is (Drivers s t p c d) u = refl
asked_is (Roster s t p c d) u = refl
asked_is (CheckPinned s t i p k) u = refl
asked_is (Replay s t p e n) u = refl
asked_is (Resume s t p m n i) u = ap (λ (x : Option ℕ). Some (Resume s t p (unwrap_or x 0) n i)) (read_again m u.1.0)
asked_is (MakePlan s t m p k) u = ap (λ (x : ℕ). Some (MakePlan s t x p k)) (value_again m (let few = u.1.1 in omega (arith, few)))
asked_is (MakePinned s t i m p k) u = ap (λ (x : ℕ). Some (MakePinned s t i x p k)) (value_again m (let few = u.1.1 in omega (arith, few)))
asked_is (Improve s t i h m p k) u = ap (λ (x : ℕ). Some (Improve s t i h x p k)) (value_again m (let few = u.1.1 in omega (arith, few)))

-- the words of a command that can be used are those of no other
pub same_call : (c d : Call) → IsUsable c → IsUsable d → words_of c ≡ words_of d → c ≡ d
same_call c d u v is = let same : Some c ≡ Some d = sym (asked_is c u) ∙ ap asked is ∙ asked_is d v in cc
