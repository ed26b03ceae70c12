-- Input files that are read one after the other: what they state together, and what is heard of them.
use Rattle.std.specs.Prelude.{◌≡◌, ℕ, List, [], ◌∷◌, ◌++◌, length, map, take, get_or, Option, Result, Ok, Err, IfSome}
use Rattle.shunt_store.specs.defs.Files.{Files, content}
use Rattle.shunt_store.specs.defs.Notes.{Entries}
use Rattle.shunt_rows.specs.declared.fault.RowFault.{RowFault}
use Rattle.shunt_rows.specs.declared.words.FileWord.{FileWord}
use Rattle.shunt_rows.specs.defs.InputTexts.{input_of}
use Rattle.shunt_inputs.specs.declared.file_loader.Halt.{Halt}
use Rattle.shunt_inputs.specs.declared.file_loader.Halt.TheVariants as halt
use Rattle.shunt_inputs.specs.defs.Halts.{IfInput}
use Rattle.shunt_inputs.specs.defs.Inputs.{Agrees, then_stated}
use Rattle.shunt_inputs.specs.defs.Replies.{Reply, Decided}
use Rattle.shunt_inputs.specs.defs.Views.{Hears, HearsFirst}

-- which kind of input file it is, and its name
abbrev pub Input : Type 0
Input = FileWord × List ℕ

abbrev pub names_in : List Input → List (List ℕ)
names_in inputs = map (λ (i : Input). i.1) inputs

-- ---- what they state

-- what the first texts state, and then what one more states over it: both values, or the line for the first text that isn't accepted
abbrev pub stated_over : {X Y : Type 0} → ℕ → (List (List ℕ) → Result X (List ℕ)) → (X → List ℕ → Result Y (List ℕ)) → List (List ℕ) → Result (X × Y) (List ℕ)
stated_over many first next texts = then_stated (first (take many texts)) (λ x. then_stated (next x (get_or texts many [])) (λ y. Ok (x, y)))

-- these texts are what the files of these names hold, one by one, where that is told
abbrev pub AreHeld : Option Files → List (List ℕ) → List (List ℕ) → Type 0
AreHeld told names texts = (length texts ≡ length names) × IfSome told (λ files. texts ≡ map (content files) names)

-- the fact holds of what the files of these names hold, where that is told, or else of some texts
abbrev pub HoldingTexts : Option Files → List (List ℕ) → (List (List ℕ) → Type 0) → Type 0
HoldingTexts told names P = (texts : List (List ℕ)) × AreHeld told names texts × P texts

-- the reply is such an answer over what the files of these names hold, where that is told, or else over some contents of all files
abbrev pub IsAnswerOver : {X : Type 0} → Option Files → List (List ℕ) → (List (List ℕ) → Result X (List ℕ)) → (X → Reply → Type 0) → Reply → Type 0
IsAnswerOver told names states P r = (files : Files) × Agrees told files × Decided (states (map (content files) names)) P r

-- ---- what is heard of them

-- the line is one of such an input file, which is too long or has a first fault
abbrev pub TellsOf : FileWord → List ℕ → Type 0
TellsOf file text = (fault : Option RowFault) × (text ≡ input_of file fault)

-- the fact holds of the line, where the step ended with one
abbrev pub IfRefused : {X : Type 0} → Result X Halt → (List ℕ → Type 0) → Type 0
IfRefused (Ok x) P = Unit {0}
IfRefused (Err h) P = IfInput h P

-- the line tells of one of these files: those before it and itself were heard, in this order, and none behind it
pub record HearsRefused (inputs : List Input) (before after : Option Entries) (text : List ℕ) : Type 0 where
  pub accepted : List Input
  pub refused : Input
  pub unread : List Input
  pub are : inputs ≡ accepted ++ refused ∷ unread
  pub line : TellsOf refused.0 text
  pub heard : Hears (names_in (accepted ++ refused ∷ [])) before after

-- what is heard in a step that reads these files and ends so: all of them; where one isn't accepted, those up to it; else the first of them
abbrev pub HearsFor : {X : Type 0} → List Input → Option Entries → Option Entries → Result X Halt → Type 0
HearsFor inputs before after (Ok x) = Hears (names_in inputs) before after
HearsFor inputs before after (Err (halt.Input text)) = HearsRefused inputs before after text.items
HearsFor inputs before after (Err halt.Fault) = HearsFirst (names_in inputs) before after
HearsFor inputs before after (Err halt.Memory) = HearsFirst (names_in inputs) before after
