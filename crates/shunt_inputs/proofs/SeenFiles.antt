-- What the bytes that were read say of what the files hold.
use Rattle.std.proofs.Common.{◌≡◌, ◌≢◌, ℕ, ◌<◌, ◌≤◌, inl, inr, ⊎_elim, List, [], ◌∷◌, ◌++◌, length, suc, map, Option, Some, None, refl, sym, ap, subst, ◌∙◌, arith, Result, Ok, Err, Bool, true, false}
use Rattle.shunt_rows.specs.defs.Records.{records_of}
use Rattle.std.proofs.lemmas.Bool.{lt-leb}
use Rattle.std.proofs.lemmas.List.{length-replicate}
use Rattle.std.specs.Result.{IsErrAnd}
use Rattle.std.specs.Prelude.{IfSome, IsErr, nat_le, replicate, unwrap_or, if◌then◌else◌}
use Rattle.std.specs.Global.{Global}
use Rattle.std.specs.List.{AllByRecursion}
use Rattle.std.specs.FinMap as finmap
use Rattle.shunt_store.specs.defs.Causes.{HasCause}
use Rattle.shunt_store.specs.defs.Files.{Files, content}
use Rattle.shunt_store.proofs.TableLaws.{get_here, same_elsewhere}
use Rattle.shunt_rows.specs.declared.fault.RowFault.{RowFault}
use Rattle.shunt_rows.specs.declared.words.FileWord.{FileWord}
use Rattle.shunt_rows.specs.defs.InputTexts.{input_of}
use Rattle.shunt_inputs.specs.declared.file_loader.Halt.{Halt}
use Rattle.shunt_inputs.specs.declared.file_loader.Halt.TheVariants as halt
use Rattle.shunt_inputs.specs.defs.Names.{AreNames}
use Rattle.shunt_inputs.specs.defs.Inputs.{Agrees, Holding, most_bytes_of, stated_by, value_or, then_stated}
use Rattle.shunt_inputs.specs.defs.Halts.{IfInput, Loads, LoadsBytes}
use Rattle.shunt_inputs.specs.defs.ReadFiles.{HoldingTexts}

-- ---- one file

pub some_bytes : (told : Option Files) (name : List ℕ) (P : List ℕ → Type 0) → ((b : List ℕ) → P b) → Holding told name P
some_bytes None name P all = ([], tt, all [])
some_bytes (Some files) name P all = (content files name, refl, all (content files name))

pub holding_map : (told : Option Files) (name : List ℕ) (P Q : List ℕ → Type 0) → ((b : List ℕ) → P b → Q b) → Holding told name P → Holding told name Q
holding_map told name P Q step (b, is, p) = (b, is, step b p)

line_at : (file : FileWord) (h : Halt) (bytes : List ℕ) → most_bytes_of file < length bytes → IfInput h (λ text. text ≡ input_of file None)
    → IfInput h (λ text. (text ≡ input_of file None) × (most_bytes_of file < length bytes))
line_at file (halt.Input text) bytes long is = (is, long)
line_at file halt.Fault bytes long is = tt
line_at file halt.Memory bytes long is = tt

-- a file that is too long has more bytes than it may, whatever they are
pub too_long : (told : Option Files) (name : List ℕ) (file : FileWord) (h : Halt) (most : ℕ) → most ≡ most_bytes_of file → IfSome told (λ files. most < length (content files name))
    → IfInput h (λ text. text ≡ input_of file None) → Holding told name (λ bytes. IfInput h (λ text. (text ≡ input_of file None) × (most_bytes_of file < length bytes)))
too_long None name file h most same longer text = (
  replicate (suc most) 0,
  tt,
  line_at file h (replicate (suc most) 0)
      (omega (arith, same, length-replicate {A = ℕ} (suc most) 0)) text,
)
too_long (Some files) name file h most same longer text = (content files name, refl, line_at file h (content files name) (omega (arith, same, longer)) text)

at_length : {X : Type 0} (short : Bool) (value : Result X (List ℕ)) (file : FileWord) (text : List ℕ) → short ≡ false → text ≡ input_of file None
    → (if short then value else Err (input_of file None)) ≡ Err text
at_length short value file text isnt is = ap (λ b. if b then value else Err (input_of file None)) isnt ∙ ap Err (sym is)

-- what was read decides
pub judged_bytes : {X : Type 0} (file : FileWord) (states : List (List (List ℕ)) → Result X RowFault) (v b : List ℕ) (r : Result X Halt) → v ≡ b → Loads r (stated_by file states v)
    → Loads r (stated_by file states b)
judged_bytes file states v b r same h = subst (λ x. Loads r (stated_by file states x)) same h

pub refused_bytes : {X : Type 0} (file : FileWord) (states : List (List (List ℕ)) → Result X RowFault) (b : List ℕ) (h : Halt) → LoadsBytes {A = Global} file b (Err h)
    → Loads {X = X} (Err h) (stated_by file states b)
refused_bytes file states b (halt.Input text) is = at_length (nat_le (length b) (most_bytes_of file)) (value_or file (states (records_of b))) file text.items
    (lt-leb (length b) (most_bytes_of file) is.1) is.0
refused_bytes file states b halt.Fault is = tt
refused_bytes file states b halt.Memory is = tt

-- ---- one file after another

pub first_refused : {X Y : Type 0} (h : Halt) (first : Result X (List ℕ)) (rest : X → Result Y (List ℕ)) → Loads {X = X} (Err h) first
    → Loads {X = Y} (Err h) (then_stated first rest)
first_refused (halt.Input text) first rest e = ap (λ r. then_stated r rest) e
first_refused halt.Fault first rest e = tt
first_refused halt.Memory first rest e = tt

pub then_next : {X Y : Type 0} (r : Result Y Halt) (first : Result X (List ℕ)) (x : X) (rest : X → Result Y (List ℕ)) → first ≡ Ok x → Loads r (rest x)
    → Loads r (then_stated first rest)
then_next r first x rest e h = subst (λ f. Loads r (then_stated f rest)) (sym e) h

-- ---- what a failed step hands on

-- the step failed with this
abbrev pub FailsWith : {X : Type 0} → Result X Halt → Halt → Type 0
FailsWith r e = IsErr r × IsErrAnd r (λ f. f ≡ e)

pub fails : {X : Type 0} (r : Result X Halt) (e : Halt) → FailsWith r e → r ≡ Err e
fails (Ok x) e h = absurd (let no_err : false ≡ true = h.0 in cc)
fails (Err f) e h = ap Err h.1

pub loads_failed : {X : Type 0} (r : Result X Halt) (e : Halt) (stated : Result X (List ℕ)) → FailsWith r e → Loads {X = X} (Err e) stated → Loads r stated
loads_failed r e stated h l = subst (λ q. Loads q stated) (sym (fails r e h)) l

abbrev pub err_of : (B : Type 0) → Halt → Result B Halt
err_of B e = Err e

-- a later step's cause is one of the whole
pub cause_failed : {A B : Type 0} (before mid now : ℕ) (r : Result A Halt) (e : Halt) → FailsWith r e → before ≤ mid → HasCause halt.Fault mid now (err_of B e)
    → HasCause halt.Fault before now r
cause_failed {A = A} {B = B} before mid now r e h le cause = record {
  later = let more = cause.later in omega (arith, le, more);
  failed = λ is. ⊎_elim (λ lt. inl (omega (arith, le, lt))) (λ last. inr last) (cause.failed (fault_of (sym (fails r e h) ∙ is)));
}
  where
    fault_of : err_of A e ≡ err_of A halt.Fault → err_of B e ≡ err_of B halt.Fault
    fault_of same = ap (err_of B) (let one : e ≡ halt.Fault = cc in one)

-- ---- from what single files hold to all files

-- files that hold this at the name, and what they held at all others
pub extend : (files : Files) (name bytes : List ℕ) (ns : List (List ℕ)) → AllByRecursion (λ m. name ≢ m) ns
    → map (content (finmap.insert files name bytes)) ns ≡ map (content files) ns
extend files name bytes [] ne = refl
extend files name bytes (n ∷ ns) ne =
    let here : content (finmap.insert files name bytes) n ≡ content files n = ap (λ o. unwrap_or o []) (same_elsewhere files name bytes n (λ e. ne.0 (sym e))) in
    ap (λ c. c ∷ map (content (finmap.insert files name bytes)) ns) here ∙ ap (λ cs. content files n ∷ cs) (extend files name bytes ns ne.1)

-- files that hold these texts under these names
made_of : (ns texts : List (List ℕ)) → AreNames ns → length texts ≡ length ns → (files : Files) × (map (content files) ns ≡ texts)
made_of [] [] are e = (finmap.empty, refl)
made_of [] (b ∷ texts) are e = absurd (omega (arith, e))
made_of (n ∷ ns) [] are e = absurd (omega (arith, e))
made_of (n ∷ ns) (b ∷ texts) are e =
    let rest = made_of ns texts are.2 (omega (arith, e)) in
    let new = finmap.insert rest.0 n b in
    let here : content new n ≡ b = ap (λ o. unwrap_or o []) (get_here rest.0 n b) in
    (new, ap (λ c. c ∷ map (content new) ns) here ∙ ap (λ cs. b ∷ cs) (extend rest.0 n b ns are.1 ∙ rest.1))

pub seen_texts : (told : Option Files) (ns : List (List ℕ)) (P : List (List ℕ) → Type 0) → AreNames ns → HoldingTexts told ns P
    → (files : Files) × Agrees told files × P (map (content files) ns)
seen_texts None ns P are (texts, held, p) = let files = made_of ns texts are held.0 in (files.0, tt, subst P (sym files.1) p)
seen_texts (Some known) ns P are (texts, held, p) = (known, refl, subst P held.1 p)

-- the first of some names that can be used can be used
all_front : {X : Type 0} (P : X → Type 0) (xs ys : List X) → AllByRecursion P (xs ++ ys) → AllByRecursion P xs
all_front P [] ys h = tt
all_front P (x ∷ xs) ys h = (h.0, all_front P xs ys h.1)

pub front_names : (ns ms : List (List ℕ)) → AreNames (ns ++ ms) → AreNames ns
front_names [] ms h = tt
front_names (n ∷ ns) ms h = (h.0, all_front (λ m. n ≢ m) ns ms h.1, front_names ns ms h.2)
