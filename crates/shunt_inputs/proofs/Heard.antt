-- What is heard in a step that reads input files, and in the steps that it is made of.
use Rattle.std.proofs.Common.{◌≡◌, ◌∙◌, ℕ, List, [], ◌∷◌, ◌++◌, Option, None, Some, append_assoc, append-nil, Result, Ok, Err, refl, sym, ap, subst}
use Rattle.std.proofs.lemmas.List.{map-append}
use Rattle.shunt_store.specs.defs.Files.{BothTold}
use Rattle.shunt_store.specs.defs.Notes.{Entries, AddsBytes}
use Rattle.shunt_store.proofs.Texts.{both_same}
use Rattle.shunt_rows.specs.declared.fault.RowFault.{RowFault}
use Rattle.shunt_rows.specs.declared.words.FileWord.{FileWord}
use Rattle.shunt_rows.specs.defs.InputTexts.{input_of}
use Rattle.shunt_inputs.specs.declared.file_loader.Halt.{Halt}
use Rattle.shunt_inputs.specs.declared.file_loader.Halt.TheVariants as halt
use Rattle.shunt_inputs.specs.defs.Halts.{IfInput}
use Rattle.shunt_inputs.specs.defs.ReadFiles.{HearsFor, IfRefused, Input, TellsOf, names_in}
use Rattle.shunt_inputs.specs.defs.Views.{Hears, HearsFirst}
use Rattle.shunt_inputs.proofs.SeenFiles.{FailsWith, fails}
use Rattle.shunt_inputs.proofs.HeardSteps.{hears_all, hears_both, hears_more, hears_on}

names_of_both : (xs ys : List Input) → names_in (xs ++ ys) ≡ names_in xs ++ names_in ys
names_of_both xs ys = map-append (λ (i : Input). i.1) xs ys

-- ---- one file

pub hears_long : (name : List ℕ) (P : List ℕ → Type 0) (h0 h1 : Option Entries) → BothTold h0 h1 (AddsBytes name P) → Hears (name ∷ []) h0 h1
hears_long name P None None h = tt
hears_long name P None (Some b) h = absurd h
hears_long name P (Some a) None h = absurd h
hears_long name P (Some a) (Some b) (text, p, e) = ((name, text) ∷ [], e, refl)

pub tells_of : (file : FileWord) (fault : Option RowFault) (h : Halt) → IfInput h (λ text. text ≡ input_of file fault) → IfInput h (TellsOf file)
tells_of file fault (halt.Input text) is = (fault, is)
tells_of file fault halt.Fault is = tt
tells_of file fault halt.Memory is = tt

pub heard_with : {X : Type 0} (w : FileWord) (n : List ℕ) (h0 h1 : Option Entries) (r : Result X Halt) → Hears (n ∷ []) h0 h1 → IfRefused r (TellsOf w)
    → HearsFor ((w, n) ∷ []) h0 h1 r
heard_with w n h0 h1 (Ok x) h line = h
heard_with w n h0 h1 (Err (halt.Input text)) h line = record { accepted = []; refused = (w, n); unread = []; are = refl; line = line; heard = h }
heard_with w n h0 h1 (Err halt.Fault) h line = hears_all (n ∷ []) h0 h1 h
heard_with w n h0 h1 (Err halt.Memory) h line = hears_all (n ∷ []) h0 h1 h

-- the same name, in other words
pub hears_as : (n m : List ℕ) (h0 h1 : Option Entries) → n ≡ m → Hears (n ∷ []) h0 h1 → Hears (m ∷ []) h0 h1
hears_as n m h0 h1 same h = subst (λ (x : List ℕ). Hears (x ∷ []) h0 h1) same h

-- ---- a step that failed

heard_err : (X Y : Type 0) (inputs : List Input) (h0 h1 : Option Entries) (e : Halt) → HearsFor {X = X} inputs h0 h1 (Err e) → HearsFor {X = Y} inputs h0 h1 (Err e)
heard_err X Y inputs h0 h1 (halt.Input text) h = h
heard_err X Y inputs h0 h1 halt.Fault h = h
heard_err X Y inputs h0 h1 halt.Memory h = h

pub heard_failed : (X : Type 0) {Y : Type 0} (inputs : List Input) (h0 h1 : Option Entries) (r : Result Y Halt) (e : Halt) → FailsWith r e → HearsFor {X = X} inputs h0 h1 (Err e)
    → HearsFor inputs h0 h1 r
heard_failed X {Y = Y} inputs h0 h1 r e is h = subst (λ (q : Result Y Halt). HearsFor inputs h0 h1 q) (sym (fails r e is)) (heard_err X Y inputs h0 h1 e h)

pub heard_memory : {Y : Type 0} (inputs : List Input) (h0 h1 : Option Entries) (r : Result Y Halt) → FailsWith r halt.Memory → Hears (names_in inputs) h0 h1
    → HearsFor inputs h0 h1 r
heard_memory {Y = Y} inputs h0 h1 r is h = subst (λ (q : Result Y Halt). HearsFor inputs h0 h1 q) (sym (fails r halt.Memory is)) (hears_all (names_in inputs) h0 h1 h)

-- ---- files, and one more

before_more : (X Y : Type 0) (inputs : List Input) (one : Input) (h0 h1 : Option Entries) (e : Halt) → HearsFor {X = X} inputs h0 h1 (Err e)
    → HearsFor {X = Y} (inputs ++ one ∷ []) h0 h1 (Err e)
before_more X Y inputs one h0 h1 (halt.Input text) h = record {
  accepted = h.accepted;
  refused = h.refused;
  unread = h.unread ++ one ∷ [];
  are = ap (λ (l : List Input). l ++ one ∷ []) h.are ∙ append_assoc h.accepted (h.refused ∷ h.unread) (one ∷ []);
  line = h.line;
  heard = h.heard;
}
before_more X Y inputs one h0 h1 halt.Fault h = subst (λ (l : List (List ℕ)). HearsFirst l h0 h1) (sym (names_of_both inputs (one ∷ [])))
    (hears_more (names_in inputs) (one.1 ∷ []) h0 h1 h)
before_more X Y inputs one h0 h1 halt.Memory h = subst (λ (l : List (List ℕ)). HearsFirst l h0 h1) (sym (names_of_both inputs (one ∷ [])))
    (hears_more (names_in inputs) (one.1 ∷ []) h0 h1 h)

pub heard_before : (X : Type 0) {Y : Type 0} (inputs : List Input) (one : Input) (h0 h1 : Option Entries) (r : Result Y Halt) (e : Halt) → FailsWith r e
    → HearsFor {X = X} inputs h0 h1 (Err e) → HearsFor (inputs ++ one ∷ []) h0 h1 r
heard_before X {Y = Y} inputs one h0 h1 r e is h = subst (λ (q : Result Y Halt). HearsFor (inputs ++ one ∷ []) h0 h1 q) (sym (fails r e is)) (before_more X Y inputs one h0 h1 e h)

at_last : (X Y : Type 0) (inputs : List Input) (one : Input) (h0 h1 h2 : Option Entries) (e : Halt) → Hears (names_in inputs) h0 h1 → HearsFor {X = X} (one ∷ []) h1 h2 (Err e)
    → HearsFor {X = Y} (inputs ++ one ∷ []) h0 h2 (Err e)
at_last X Y inputs one h0 h1 h2 (halt.Input text) g h = record {
  accepted = inputs ++ h.accepted;
  refused = h.refused;
  unread = h.unread;
  are = ap (λ (l : List Input). inputs ++ l) h.are ∙ sym (append_assoc inputs h.accepted (h.refused ∷ h.unread));
  line = h.line;
  heard =
      let upto = h.accepted ++ h.refused ∷ [] in
      let names : names_in ((inputs ++ h.accepted) ++ h.refused ∷ []) ≡ names_in inputs
      ++ names_in upto = ap (λ (l : List Input). names_in l) (append_assoc inputs h.accepted (h.refused ∷ [])) ∙ names_of_both inputs upto in
      subst (λ (l : List (List ℕ)). Hears l h0 h2) (sym names) (hears_both (names_in inputs) (names_in upto) h0 h1 h2 g h.heard);
}
at_last X Y inputs one h0 h1 h2 halt.Fault g h = subst (λ (l : List (List ℕ)). HearsFirst l h0 h2) (sym (names_of_both inputs (one ∷ [])))
    (hears_on (names_in inputs) (one.1 ∷ []) h0 h1 h2 g h)
at_last X Y inputs one h0 h1 h2 halt.Memory g h = subst (λ (l : List (List ℕ)). HearsFirst l h0 h2) (sym (names_of_both inputs (one ∷ [])))
    (hears_on (names_in inputs) (one.1 ∷ []) h0 h1 h2 g h)

pub heard_last : (X : Type 0) {Y : Type 0} (inputs : List Input) (one : Input) (h0 h1 h2 : Option Entries) (r : Result Y Halt) (e : Halt) → FailsWith r e
    → Hears (names_in inputs) h0 h1 → HearsFor {X = X} (one ∷ []) h1 h2 (Err e) → HearsFor (inputs ++ one ∷ []) h0 h2 r
heard_last X {Y = Y} inputs one h0 h1 h2 r e is g h = subst (λ (q : Result Y Halt). HearsFor (inputs ++ one ∷ []) h0 h2 q) (sym (fails r e is))
    (at_last X Y inputs one h0 h1 h2 e g h)

pub heard_all : (inputs : List Input) (one : Input) (h0 h1 h2 : Option Entries) → Hears (names_in inputs) h0 h1 → Hears (names_in (one ∷ [])) h1 h2
    → Hears (names_in (inputs ++ one ∷ [])) h0 h2
heard_all inputs one h0 h1 h2 g h = subst (λ (l : List (List ℕ)). Hears l h0 h2) (sym (names_of_both inputs (one ∷ []))) (hears_both (names_in inputs) (one.1 ∷ []) h0 h1 h2 g h)

-- ---- any step

pub heard_first : {X : Type 0} (inputs : List Input) (h0 h1 : Option Entries) (r : Result X Halt) → HearsFor inputs h0 h1 r → HearsFirst (names_in inputs) h0 h1
heard_first inputs h0 h1 (Ok x) h = hears_all (names_in inputs) h0 h1 h
heard_first inputs h0 h1 (Err (halt.Input text)) h =
    let upto = h.accepted ++ h.refused ∷ [] in
    let names : names_in inputs ≡ names_in upto ++ names_in h.unread = ap (λ (l : List Input). names_in l) (h.are ∙ sym (append_assoc h.accepted (h.refused ∷ []) h.unread))
    ∙ names_of_both upto h.unread in
    subst (λ (l : List (List ℕ)). HearsFirst l h0 h1) (sym names) (hears_more (names_in upto) (names_in h.unread) h0 h1 (hears_all (names_in upto) h0 h1 h.heard))
heard_first inputs h0 h1 (Err halt.Fault) h = h
heard_first inputs h0 h1 (Err halt.Memory) h = h

pub none_heard : (h0 h1 : Option Entries) → h1 ≡ h0 → Hears [] h0 h1
none_heard h0 h1 same = both_same _ h0 h1 same (λ a. ([], sym (append-nil a), refl))
