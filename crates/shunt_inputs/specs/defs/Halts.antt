-- What a step of a run may answer in place of its value.
use Rattle.std.specs.Prelude.{◌≡◌, ◌<◌, ◌≤◌, ℕ, List, length, Result, Ok, Err, Vec, None}
use Rattle.shunt_rows.specs.declared.words.FileWord.{FileWord}
use Rattle.shunt_rows.specs.defs.InputTexts.{input_of}
use Rattle.shunt_inputs.specs.declared.file_loader.Halt.{Halt}
use Rattle.shunt_inputs.specs.declared.file_loader.Halt.TheVariants as halt
use Rattle.shunt_inputs.specs.defs.Inputs.{most_bytes_of}
use Rattle.shunt_inputs.specs.defs.Replies.{Reply, refusal}

-- the fact holds of the text, where an input isn't accepted
abbrev pub IfInput : Halt → (List ℕ → Type 0) → Type 0
IfInput (halt.Input text) P = P text.items
IfInput halt.Fault P = Unit {0}
IfInput halt.Memory P = Unit {0}

-- the bytes of a file that isn't too long, or the line for one that is
abbrev pub LoadsBytes : {A : Type 0} → FileWord → List ℕ → Result (Vec ℕ A) Halt → Type 0
LoadsBytes file content (Ok v) = (v.items ≡ content) × (length v.items ≤ most_bytes_of file)
LoadsBytes file content (Err h) = IfInput h (λ text. (text ≡ input_of file None) × (most_bytes_of file < length content))

-- the value is the one that is stated, or the text is the one that is stated in its place, unless the step halted for another cause
abbrev pub Loads : {X : Type 0} → Result X Halt → Result X (List ℕ) → Type 0
Loads (Ok x) stated = stated ≡ Ok x
Loads (Err (halt.Input text)) stated = stated ≡ Err text.items
Loads (Err halt.Fault) stated = Unit {0}
Loads (Err halt.Memory) stated = Unit {0}

-- the reply that comes of it is one of these, unless the step halted for another cause
abbrev pub Replies : {X : Type 0} → (X → Reply) → Result X Halt → (Reply → Type 0) → Type 0
Replies view (Ok x) P = P (view x)
Replies view (Err (halt.Input text)) P = P (refusal text.items)
Replies view (Err halt.Fault) P = Unit {0}
Replies view (Err halt.Memory) P = Unit {0}
