-- Files that are written before the rest of a reply is delivered.
use Rattle.std.proofs.Common.{◌≡◌, ◌∙◌, ℕ, ◌+◌, ◌≤◌, List, ◌++◌, length, take, Option, Result, Ok, Err, append_assoc, append-nil, [], refl, subst, sym, ap, inl, inr}
use Rattle.std.proofs.Math.Seq.{take-append-add}
use Rattle.std.specs.Global.{Global}
use Rattle.std.specs.Prelude.{Vec}
use Rattle.shunt_store.specs.defs.Files.{Files, BothTold}
use Rattle.shunt_store.specs.defs.Notes.{Entries}
use Rattle.shunt_store.proofs.Texts.{both_same, both_then}
use Rattle.shunt_inputs.specs.declared.answers.Answer.{Answer}
use Rattle.shunt_inputs.specs.declared.file_loader.Halt.{Halt}
use Rattle.shunt_inputs.specs.declared.file_loader.Halt.TheVariants as halt
use Rattle.shunt.specs.declared.status.Status.{Status}
use Rattle.shunt.specs.declared.status.Status.TheVariants as status
use Rattle.shunt_planning.specs.defs.Begun.{IsImprovedOver, IsPinnedOver, IsPlannedOver}
use Rattle.shunt_inputs.specs.defs.Views.{HearsFirst}
use Rattle.shunt.specs.defs.Calls.{Call, MakePlan, MakePinned, Improve}
use Rattle.shunt.specs.defs.Words.{inputs_of}
use Rattle.shunt_inputs.specs.defs.Replies.{Reply, refusal, reply_of}
use Rattle.shunt.specs.defs.Replies.{IsReplyOver}
use Rattle.shunt.specs.defs.Ends.{Seen, CutInFiles, CutInText, IsWhole, Delivers}
use Rattle.shunt_inputs.specs.defs.Writes.{written, with_first, Known, Stays, HasFirst, LeavesOne}
use Rattle.shunt_store.specs.defs.Causes.{HasCause, Rose}
use Rattle.shunt_inputs.proofs.FirstFiles.{none_first, written-append}
use Rattle.shunt_inputs.proofs.SeenFiles.{err_of}
use Rattle.shunt.proofs.Commands.{IsAnswered}
use Rattle.shunt.proofs.Ends.{at_start, rose_earlier}

module _ (first : List (List ℕ × List ℕ)) (r : Reply) (f ff : Option Files) (e ee : Option Entries) (k kk : ℕ) (o : Option (List ℕ)) (n : ℕ) (new : Seen)
    (wrote : BothTold f ff (λ a b. b ≡ written first a)) (noted : BothTold e ee (λ a b. b ≡ a ++ first)) where
  -- whole files, and then others
  all_written : (ws : List (List ℕ × List ℕ)) → BothTold ff new.files (λ a b. b ≡ written ws a) → BothTold f new.files (λ a b. b ≡ written (first ++ ws) a)
  all_written ws h = both_then _ _ _ f ff new.files wrote h (λ a b c x g. g ∙ ap (written ws) x ∙ sym (written-append first ws a))

  all_stored : (ws : List (List ℕ × List ℕ)) → BothTold ee new.stored (λ a b. b ≡ a ++ ws) → BothTold e new.stored (λ a b. b ≡ a ++ (first ++ ws))
  all_stored ws h = both_then _ _ _ e ee new.stored noted h (λ a b c x g. g ∙ ap (λ (l : Entries). l ++ ws) x ∙ append_assoc a first ws)

  all_whole : IsWhole r (at_start ff ee kk o n) new → IsWhole (with_first first r) (at_start f e k o n) new
  all_whole h = record { files = all_written r.writes h.files; stored = all_stored r.writes h.stored; output = h.output }

  all_in_files : CutInFiles r (at_start ff ee kk o n) new → CutInFiles (with_first first r) (at_start f e k o n) new
  all_in_files h =
      let m = h.some.many in
      let more = sym (take-append-add first r.writes m) in
      record {
        some = record {
          many = length first + m;
          files = subst (λ (ws : Entries). BothTold f new.files (λ a b. b ≡ written ws a)) more (all_written (take m r.writes) h.some.files);
          stored = subst (λ (ws : Entries). BothTold e new.stored (λ a b. b ≡ a ++ ws)) more (all_stored (take m r.writes) h.some.stored);
        };
        output = h.output;
      }

  all_in_text : CutInText r (at_start ff ee kk o n) new → CutInText (with_first first r) (at_start f e k o n) new
  all_in_text h = record { files = all_written r.writes h.files; stored = all_stored r.writes h.stored; output = h.output }

  -- what was written first counts as the reply's first files, and the store may have had faults before
  pub delivers_after : (s : Status) → k ≤ kk → Delivers r (at_start ff ee kk o n) new s → Delivers (with_first first r) (at_start f e k o n) new s
  delivers_after status.Store le h = (rose_earlier _ _ _ le h.0, all_in_files h.1)
  delivers_after status.Memory le (inl h) = inl (all_in_files h)
  delivers_after status.Memory le (inr h) = inr (all_in_text h)
  delivers_after status.Sink le h = (h.0, all_in_text h.1)
  delivers_after status.Done le h = (h.0, all_whole h.1)
  delivers_after status.Findings le h = (h.0, all_whole h.1)
  delivers_after status.Words le h = (h.0, all_whole h.1)
  delivers_after status.Input le h = (h.0, all_whole h.1)
  delivers_after status.NoMatching le h = (h.0, all_whole h.1)
  delivers_after status.Unfinished le h = (h.0, all_whole h.1)

abbrev Delivered : Call → Option Files → Seen → Seen → Status → Type 0
Delivered c view old new s = (r : Reply) × IsReplyOver c view r × Delivers r old new s

pub delivered : (c : Call) (view : Option Files) (rest : Reply) (old mid : Known) (k kk : ℕ) (o : Option (List ℕ)) (n : ℕ) (new : Seen) (s : Status) → k ≤ kk
    → HasFirst (IsReplyOver c view) old mid rest → Delivers rest (at_start mid.files mid.stored kk o n) new s
    → (r : Reply) × IsReplyOver c view r × Delivers r (at_start old.files old.stored k o n) new s
delivered c view rest old mid k kk o n new s le h d = (
  with_first h.first rest,
  h.reply,
  delivers_after h.first rest old.files mid.files old.stored mid.stored k kk o n new h.files h.stored s le d,
)

-- ---- what a step handed on

pub led_input : (P : Reply → Type 0) (old new : Known) (h : Halt) (text : Vec ℕ Global) (r : Reply) → h ≡ halt.Input text → r ≡ refusal text.items → LeavesOne P old new (Err h)
    → HasFirst P old new r
led_input P old new h text r e is leads = subst (HasFirst P old new) (sym is) (subst (λ (x : Halt). LeavesOne P old new (Err x)) e leads)

pub led_fault : (P : Reply → Type 0) (old new : Known) (h : Halt) → h ≡ halt.Fault → LeavesOne P old new (Err h) → Stays old new
led_fault P old new h e leads = subst (λ (x : Halt). LeavesOne P old new (Err x)) e leads

pub led_memory : (P : Reply → Type 0) (old new : Known) (h : Halt) → h ≡ halt.Memory → LeavesOne P old new (Err h) → Stays old new
led_memory P old new h e leads = subst (λ (x : Halt). LeavesOne P old new (Err x)) e leads

pub fault_rose : {X : Type 0} (h : Halt) (before now : ℕ) → h ≡ halt.Fault → HasCause halt.Fault before now (err_of X h) → Rose before now
fault_rose {X = X} h before now e cause = cause.failed (ap (err_of X) e)

-- a step that writes nothing leads to the reply that it answers
pub plain : (c : Call) (view : Option Files) (old new : Known) (r : Result Answer Halt) → Stays old new → IsAnswered view r c → LeavesOne (IsReplyOver c view) old new r
plain c view old new (Ok a) same h = none_first (IsReplyOver c view) old new (reply_of a) same h
plain c view old new (Err (halt.Input text)) same h = none_first (IsReplyOver c view) old new (refusal text.items) same h
plain c view old new (Err halt.Fault) same h = same
plain c view old new (Err halt.Memory) same h = same

-- so does a step of `plan`, which writes its certificate
pub planned_leads : (s t : List ℕ) (m : ℕ) (p k : List ℕ) (c : Call) (view : Option Files) (old new : Known) (r : Result Answer Halt) → c ≡ MakePlan s t m p k
    → LeavesOne (IsPlannedOver view s t m p k) old new r → LeavesOne (IsReplyOver c view) old new r
planned_leads s t m p k c view old new r is h = subst (λ (d : Call). LeavesOne (IsReplyOver d view) old new r) (sym is) h

-- and one of `pinned`
pub pinned_leads : (s t i : List ℕ) (m : ℕ) (p k : List ℕ) (c : Call) (view : Option Files) (old new : Known) (r : Result Answer Halt) → c ≡ MakePinned s t i m p k
    → LeavesOne (IsPinnedOver view s t i m p k) old new r → LeavesOne (IsReplyOver c view) old new r
pinned_leads s t i m p k c view old new r is h = subst (λ (d : Call). LeavesOne (IsReplyOver d view) old new r) (sym is) h

-- and one of `improve`
pub improved_leads : (s t i h : List ℕ) (m : ℕ) (p k : List ℕ) (c : Call) (view : Option Files) (old new : Known) (r : Result Answer Halt) → c ≡ Improve s t i h m p k
    → LeavesOne (IsImprovedOver view s t i h m p k) old new r → LeavesOne (IsReplyOver c view) old new r
improved_leads s t i h m p k c view old new r is leads = subst (λ (d : Call). LeavesOne (IsReplyOver d view) old new r) (sym is) leads

-- the names that a command hears
pub first_of : (c d : Call) (h0 h1 : Option Entries) → c ≡ d → HearsFirst (inputs_of d) h0 h1 → HearsFirst (inputs_of c) h0 h1
first_of c d h0 h1 is h = subst (λ x. HearsFirst (inputs_of x) h0 h1) (sym is) h

pub none_heard : (h0 h1 : Option Entries) → h1 ≡ h0 → HearsFirst [] h0 h1
none_heard h0 h1 same = both_same _ h0 h1 same (λ a. ([], sym (append-nil a), (0, refl)))
