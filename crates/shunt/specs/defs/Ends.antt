-- How a run ends.
use Rattle.std.specs.Prelude.{◌≡◌, ◌⊎◌, ℕ, List, [], ◌++◌, Option, None, Some}
use Rattle.shunt_store.specs.defs.Files.{Files, BothTold, AddsFront}
use Rattle.shunt_store.specs.defs.Causes.{Rose}
use Rattle.shunt_store.specs.defs.Notes.{Entries}
use Rattle.shunt_inputs.specs.declared.answers.Outcome.{Outcome}
use Rattle.shunt_inputs.specs.declared.answers.Outcome.TheVariants as outcome
use Rattle.shunt.specs.declared.status.Status.{Status}
use Rattle.shunt.specs.declared.status.Status.TheVariants as status
use Rattle.shunt_inputs.specs.defs.Writes.{written, Known, known, WritesSome}
use Rattle.shunt_inputs.specs.defs.Views.{HeardIn}
use Rattle.shunt.specs.defs.Calls.{Call}
use Rattle.shunt_inputs.specs.defs.Replies.{Reply}
use Rattle.shunt.specs.defs.Replies.{IsReplyOver}

-- what a store tells at a moment: its files, what was heard of them, and what was stored
pub record Telling : Type 0 where
  pub files : Option Files
  pub heard : Option Entries
  pub stored : Option Entries

abbrev pub telling : {S : Type 0} → (S → Option Files) → (S → Option Entries) → (S → Option Entries) → S → Telling
telling files heard stored store = record { files = files store; heard = heard store; stored = stored store }

-- these were stored between two moments
abbrev pub StoredIn : Option Entries → Option Entries → Entries → Type 0
StoredIn None new ws = ⊥
StoredIn (Some old) None ws = ⊥
StoredIn (Some old) (Some new) ws = new ≡ old ++ ws

-- files that hold what was heard, and what they are with what was stored
pub record AreMoved (old new : Telling) (before after : Option Files) : Type 0 where
  pub files : Files
  pub stores : Entries
  pub known_before : before ≡ Some files
  pub known_after : after ≡ Some (written stores files)
  pub heard : HeardIn old.heard new.heard files
  pub stored : StoredIn old.stored new.stored stores

-- The files before and after a run as they can be known: as the store tells them; or any that hold what was heard of them, and these with
-- what was stored.
abbrev pub AreKnown : Telling → Telling → Option Files → Option Files → Type 0
AreKnown old new before after = ((before ≡ old.files) × (after ≡ new.files)) ⊎ AreMoved old new before after

-- what can be known of the store and the sink at a moment
pub record Seen : Type 0 where
  pub files : Option Files
  pub stored : Option Entries
  pub store_faults : ℕ
  pub output : Option (List ℕ)
  pub sink_faults : ℕ

abbrev pub seen : {S O : Type 0} → Option Files → (S → Option Entries) → (S → ℕ) → (O → Option (List ℕ)) → (O → ℕ) → S → O → Seen
seen files stored store_faults output sink_faults store out = record {
  files = files;
  stored = stored store;
  store_faults = store_faults store;
  output = output out;
  sink_faults =
      sink_faults out;
}

-- what of it is known of files
abbrev pub known_of : Seen → Known
known_of s = known s.files s.stored

-- the writing was cut short between two files, and no byte was printed
pub record CutInFiles (r : Reply) (old new : Seen) : Type 0 where
  pub some : WritesSome r.writes (known_of old) (known_of new)
  pub output : new.output ≡ old.output

-- all files were written, and the printing was cut short
pub record CutInText (r : Reply) (old new : Seen) : Type 0 where
  pub files : BothTold old.files new.files (λ a b. b ≡ written r.writes a)
  pub stored : BothTold old.stored new.stored (λ a b. b ≡ a ++ r.writes)
  pub output : BothTold old.output new.output (AddsFront r.text)

-- all files were written, and all was printed
pub record IsWhole (r : Reply) (old new : Seen) : Type 0 where
  pub files : BothTold old.files new.files (λ a b. b ≡ written r.writes a)
  pub stored : BothTold old.stored new.stored (λ a b. b ≡ a ++ r.writes)
  pub output : BothTold old.output new.output (λ a b. b ≡ a ++ r.text)

-- the status of a reply that was delivered whole
abbrev pub the_status : Outcome → Status
the_status outcome.Done = status.Done
the_status outcome.Findings = status.Findings
the_status outcome.Input = status.Input
the_status outcome.NoMatching = status.NoMatching
the_status outcome.Unfinished = status.Unfinished

-- what a status says of the delivery of a reply: where nothing failed, it is the reply's own
abbrev pub Delivers : Reply → Seen → Seen → Status → Type 0
Delivers r old new status.Store = Rose old.store_faults new.store_faults × CutInFiles r old new
Delivers r old new status.Memory = CutInFiles r old new ⊎ CutInText r old new
Delivers r old new status.Sink = Rose old.sink_faults new.sink_faults × CutInText r old new
Delivers r old new s = (s ≡ the_status r.outcome) × IsWhole r old new

-- the run stopped before there was a reply: no file was changed or stored, and nothing was printed
abbrev pub StopsEarly : Seen → Seen → Status → Type 0
StopsEarly old new status.Store = Rose old.store_faults new.store_faults × (new.output ≡ old.output) × (new.files ≡ old.files) × (new.stored ≡ old.stored)
StopsEarly old new status.Memory = (new.output ≡ old.output) × (new.files ≡ old.files) × (new.stored ≡ old.stored)
StopsEarly old new s = ⊥

-- a defined reply was delivered as the status says, or the run stopped before there was one
abbrev pub Ends : Call → Seen → Seen → Status → Type 0
Ends c old new s = StopsEarly old new s ⊎ ((r : Reply) × IsReplyOver c old.files r × Delivers r old new s)

-- the store, memory or the sink came first
abbrev pub Yields : Status → Type 0
Yields s = (s ≡ status.Store) ⊎ ((s ≡ status.Memory) ⊎ (s ≡ status.Sink))
