-- What a command answers.
use Rattle.std.specs.Prelude.{◌≡◌, ℕ, List, [], map, Result, Ok, Err, string_bytes}
use Rattle.shunt_inputs.specs.declared.answers.Outcome.{Outcome}
use Rattle.shunt_inputs.specs.declared.answers.Outcome.TheVariants as outcome
use Rattle.shunt_inputs.specs.declared.answers.Answer.{Answer}
use Rattle.shunt_inputs.specs.declared.answers.FileText.{FileText}

-- how a command ends, which files it writes in their order and what they then hold, and what it prints
pub record Reply : Type 0 where
  pub outcome : Outcome
  pub writes : List (List ℕ × List ℕ)
  pub text : List ℕ

abbrev pub pair_of : FileText → List ℕ × List ℕ
pair_of w = (string_bytes w.name, w.bytes.items)

abbrev pub reply_of : Answer → Reply
reply_of a = record { outcome = a.outcome; writes = map pair_of a.writes.items; text = a.text.items }

-- a reply that writes no file
abbrev pub says : Outcome → List ℕ → Reply
says outcome text = record { outcome = outcome; writes = []; text = text }

-- the reply where an input file isn't accepted
abbrev pub refusal : List ℕ → Reply
refusal text = says outcome.Input text

-- the first input that isn't accepted decides, else what follows of its value
abbrev pub Decided : {X : Type 0} → Result X (List ℕ) → (X → Reply → Type 0) → Reply → Type 0
Decided (Ok x) P r = P x r
Decided (Err text) P r = r ≡ refusal text
