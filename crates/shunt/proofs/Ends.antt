-- What a run began with, and which command it carried out.
use Rattle.std.proofs.Common.{◌≡◌, ◌∙◌, ℕ, ◌≤◌, List, Option, subst, sym, arith, inl, inr}
use Rattle.shunt_store.specs.defs.Files.{Files}
use Rattle.shunt_store.specs.defs.Causes.{Rose}
use Rattle.shunt_store.specs.defs.Notes.{Entries}
use Rattle.shunt_inputs.specs.defs.Views.{HearsFirst}
use Rattle.shunt.specs.defs.Calls.{Call}
use Rattle.shunt.specs.defs.Words.{Spells, inputs_of}
use Rattle.shunt.specs.defs.Ends.{Seen, Ends}
use Rattle.shunt.specs.declared.status.Status.{Status}
use Rattle.shunt.proofs.Commands.{same_call}

abbrev pub at_start : Option Files → Option Entries → ℕ → Option (List ℕ) → ℕ → Seen
at_start f e k o n = record { files = f; stored = e; store_faults = k; output = o; sink_faults = n }

pub rose_earlier : (k kk n : ℕ) → k ≤ kk → Rose kk n → Rose k n
rose_earlier k kk n le (inl h) = inl (omega (arith, le, h))
rose_earlier k kk n le (inr h) = inr h

-- the command that the words spell is the one that ended
pub ends_of : (words seen : List (List ℕ)) (d c : Call) (old new : Seen) (s : Status) → seen ≡ words → Spells seen d → Ends d old new s → Spells words c → Ends c old new s
ends_of words seen d c old new s same a e b = subst (λ x. Ends x old new s) (same_call d c a.1 b.1 (sym a.0 ∙ same ∙ b.0)) e

-- and the one whose files were heard
pub heard_by : (words seen : List (List ℕ)) (d c : Call) (h0 h1 : Option Entries) → seen ≡ words → Spells seen d → HearsFirst (inputs_of d) h0 h1 → Spells words c
    → HearsFirst (inputs_of c) h0 h1
heard_by words seen d c h0 h1 same a h b = subst (λ x. HearsFirst (inputs_of x) h0 h1) (same_call d c a.1 b.1 (sym a.0 ∙ same ∙ b.0)) h
