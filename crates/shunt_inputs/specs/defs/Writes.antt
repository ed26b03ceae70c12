-- Files that are written one after the other, and what a step of a run has written before the rest of a reply is delivered.
use Rattle.std.specs.Prelude.{◌≡◌, ℕ, List, [], ◌∷◌, ◌++◌, take, Option, Result, Ok, Err}
use Rattle.std.specs.FinMap as map
use Rattle.shunt_store.specs.defs.Files.{Files, BothTold}
use Rattle.shunt_store.specs.defs.Notes.{Entries}
use Rattle.shunt_inputs.specs.declared.answers.Answer.{Answer}
use Rattle.shunt_inputs.specs.declared.file_loader.Halt.{Halt}
use Rattle.shunt_inputs.specs.declared.file_loader.Halt.TheVariants as halt
use Rattle.shunt_inputs.specs.defs.Replies.{Reply, refusal, reply_of}

-- the files after these were written one after the other
abbrev pub written : List (List ℕ × List ℕ) → Files → Files
written [] files = files
written (w ∷ ws) files = written ws (map.insert files w.0 w.1)

-- a reply that writes these first
abbrev pub with_first : List (List ℕ × List ℕ) → Reply → Reply
with_first first r = record { outcome = r.outcome; writes = first ++ r.writes; text = r.text }

-- what is told of the files of a store, and of what they were made to hold in this run
pub record Known : Type 0 where
  pub files : Option Files
  pub stored : Option Entries

abbrev pub known : Option Files → Option Entries → Known
known files stored = record { files = files; stored = stored }

-- some of these files were written, whole and in their order
pub record WritesSome (ws : List (List ℕ × List ℕ)) (old new : Known) : Type 0 where
  pub many : ℕ
  pub files : BothTold old.files new.files (λ a b. b ≡ written (take many ws) a)
  pub stored : BothTold old.stored new.stored (λ a b. b ≡ a ++ take many ws)

-- nothing was written
abbrev pub Stays : Known → Known → Type 0
Stays old new = (new.files ≡ old.files) × (new.stored ≡ old.stored)

-- some files were written, and with these first this is one of the replies
pub record HasFirst (P : Reply → Type 0) (old new : Known) (rest : Reply) : Type 0 where
  pub first : List (List ℕ × List ℕ)
  pub reply : P (with_first first rest)
  pub files : BothTold old.files new.files (λ a b. b ≡ written first a)
  pub stored : BothTold old.stored new.stored (λ a b. b ≡ a ++ first)

-- what a step leaves that is to give one of these replies: what is left of it, or all files as they were
abbrev pub LeavesOne : (Reply → Type 0) → Known → Known → Result Answer Halt → Type 0
LeavesOne P old new (Ok a) = HasFirst P old new (reply_of a)
LeavesOne P old new (Err (halt.Input text)) = HasFirst P old new (refusal text.items)
LeavesOne P old new (Err halt.Fault) = Stays old new
LeavesOne P old new (Err halt.Memory) = Stays old new
