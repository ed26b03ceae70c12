-- From what files hold, one after the other, to what they state together.
use Rattle.std.proofs.Common.{◌≡◌, ◌∙◌, ℕ, ◌+◌, List, [], ◌∷◌, ◌++◌, length, map, take, get_or, Option, Some, None, Result, Ok, Err, refl, sym, ap, subst}
use Rattle.std.proofs.Math.Seq.{take-append_seam, get_or-append_seam}
use Rattle.std.proofs.lemmas.List.{length-append, map-append}
use Rattle.std.specs.Prelude.{IfSome}
use Rattle.shunt_store.specs.defs.Files.{Files, content}
use Rattle.shunt_rows.specs.declared.words.FileWord.{FileWord}
use Rattle.shunt_inputs.specs.declared.file_loader.Halt.{Halt}
use Rattle.shunt_inputs.specs.defs.Halts.{Loads}
use Rattle.shunt_inputs.specs.defs.Inputs.{Holding, then_stated}
use Rattle.shunt_inputs.specs.defs.ReadFiles.{AreHeld, HoldingTexts, Input, names_in, stated_over}
use Rattle.shunt_inputs.specs.defs.Replies.{Reply, Decided}
use Rattle.shunt_inputs.proofs.SeenFiles.{FailsWith, first_refused, loads_failed, some_bytes, then_next}

-- ---- one text more

held_more : (told : Option Files) (inputs : List Input) (w : FileWord) (n : List ℕ) (texts : List (List ℕ)) (b : List ℕ) → AreHeld told (names_in inputs) texts
    → IfSome told (λ files. b ≡ content files n) → AreHeld told (names_in (inputs ++ (w, n) ∷ [])) (texts ++ b ∷ [])
held_more told inputs w n texts b held is = (many, at told held.1 is)
  where
    names : names_in (inputs ++ (w, n) ∷ []) ≡ names_in inputs ++ n ∷ []
    names = map-append (λ (i : Input). i.1) inputs ((w, n) ∷ [])

    many : length (texts ++ b ∷ []) ≡ length (names_in (inputs ++ (w, n) ∷ []))
    many = length-append texts (b ∷ []) ∙ ap (λ (k : ℕ). k + 1) held.0 ∙ sym (ap (λ (l : List (List ℕ)). length l) names ∙ length-append (names_in inputs) (n ∷ []))

    at : (told : Option Files) → IfSome told (λ files. texts ≡ map (content files) (names_in inputs)) → IfSome told (λ files. b ≡ content files n)
        → IfSome told (λ files. texts ++ b ∷ [] ≡ map (content files) (names_in (inputs ++ (w, n) ∷ [])))
    at None e f = tt
    at (Some files) e f =
        ap (λ (l : List (List ℕ)). l ++ b ∷ []) e
        ∙ ap (λ (c : List ℕ). map (content files) (names_in inputs) ++ c ∷ []) f
        ∙ sym (ap (λ (l : List (List ℕ)). map (content files) l) names ∙ map-append (content files) (names_in inputs) (n ∷ []))

over_is : {X Y : Type 0} (many : ℕ) (first : List (List ℕ) → Result X (List ℕ)) (next : X → List ℕ → Result Y (List ℕ)) (texts : List (List ℕ)) (b : List ℕ) → length texts ≡ many
    → stated_over many first next (texts ++ b ∷ []) ≡ then_stated (first texts) (λ x. then_stated (next x b) (λ y. Ok (x, y)))
over_is many first next texts b is =
    ap (λ (l : List (List ℕ)). then_stated (first l) (λ x. then_stated (next x (get_or (texts ++ b ∷ []) many [])) (λ y. Ok (x, y)))) front
    ∙ ap (λ (c : List ℕ). then_stated (first texts) (λ x. then_stated (next x c) (λ y. Ok (x, y)))) last
  where
    front : take many (texts ++ b ∷ []) ≡ texts
    front = ap (λ (k : ℕ). take k (texts ++ b ∷ [])) (sym is) ∙ take-append_seam texts (b ∷ [])

    last : get_or (texts ++ b ∷ []) many [] ≡ b
    last = ap (λ (k : ℕ). get_or (texts ++ b ∷ []) k []) (sym is) ∙ get_or-append_seam texts b [] []

module _ {X Y : Type 0} (told : Option Files) (inputs : List Input) (w : FileWord) (n : List ℕ) (first : List (List ℕ) → Result X (List ℕ)) (next : X → List ℕ
    → Result Y (List ℕ)) where
  abbrev all : List (List ℕ)
  all = names_in (inputs ++ (w, n) ∷ [])

  abbrev both : List (List ℕ) → Result (X × Y) (List ℕ)
  both texts = stated_over (length (names_in inputs)) first next texts

  in_turn : (texts : List (List ℕ)) (b : List ℕ) → AreHeld told (names_in inputs) texts
      → both (texts ++ b ∷ []) ≡ then_stated (first texts) (λ x. then_stated (next x b) (λ y. Ok (x, y)))
  in_turn texts b held = over_is (length (names_in inputs)) first next texts b held.0

  pub texts_refused : (r : Result (X × Y) Halt) (e : Halt) → FailsWith r e → HoldingTexts told (names_in inputs) (λ texts. Loads {X = X} (Err e) (first texts))
      → HoldingTexts told all (λ texts. Loads r (both texts))
  texts_refused r e is (texts, held, l) =
      let last = some_bytes told n (λ b. Unit {0}) (λ b. tt) in
      let refused : Loads {X = X × Y} (Err e) (then_stated (first texts) (λ x. then_stated (next x last.0) (λ y. Ok (x, y)))) = first_refused {X = X} {Y = X × Y} e
      (first texts) _ l in
      let turned : Loads {X = X × Y} (Err e) (both (texts ++ last.0 ∷ [])) = subst (λ s. Loads {X = X × Y} (Err e) s) (sym (in_turn texts last.0 held)) refused in
      (texts ++ last.0 ∷ [], held_more told inputs w n texts last.0 held last.1, loads_failed r e (both (texts ++ last.0 ∷ [])) is turned)

  pub next_refused : (r : Result (X × Y) Halt) (e : Halt) (x : X) → FailsWith r e → HoldingTexts told (names_in inputs) (λ texts. first texts ≡ Ok x)
      → Holding told n (λ b. Loads {X = Y} (Err e) (next x b)) → HoldingTexts told all (λ texts. Loads r (both texts))
  next_refused r e x is (texts, held, a) (b, at, l) =
      let refused : Loads {X = X × Y} (Err e) (then_stated (next x b) (λ y. Ok (x, y))) = first_refused {X = Y} {Y = X × Y} e (next x b) _ l in
      let behind : Loads {X = X × Y} (Err e) (then_stated (first texts) (λ x. then_stated (next x b) (λ y. Ok (x, y)))) = then_next {X = X} {Y = X × Y} (Err e)
      (first texts) x _ a refused in
      let turned : Loads {X = X × Y} (Err e) (both (texts ++ b ∷ [])) = subst (λ s. Loads {X = X × Y} (Err e) s) (sym (in_turn texts b held)) behind in
      (texts ++ b ∷ [], held_more told inputs w n texts b held at, loads_failed r e (both (texts ++ b ∷ [])) is turned)

  pub both_stated : (x : X) (y : Y) → HoldingTexts told (names_in inputs) (λ texts. first texts ≡ Ok x) → Holding told n (λ b. next x b ≡ Ok y)
      → HoldingTexts told all (λ texts. both texts ≡ Ok (x, y))
  both_stated x y (texts, held, a) (b, at, c) = (
    texts ++ b ∷ [],
    held_more told inputs w n texts b held at,
    in_turn texts b held
        ∙ ap (λ (f : Result X (List ℕ)). then_stated f (λ x. then_stated (next x b) (λ y. Ok (x, y)))) a
        ∙ ap (λ (s : Result Y (List ℕ)). then_stated s (λ y. Ok (x, y))) c,
  )

pub texts_map : (told : Option Files) (names : List (List ℕ)) (P Q : List (List ℕ) → Type 0) → ((texts : List (List ℕ)) → P texts → Q texts) → HoldingTexts told names P
    → HoldingTexts told names Q
texts_map told names P Q step (texts, held, p) = (texts, held, step texts p)

-- one file, and the text that it holds
pub one_text : (told : Option Files) (n : List ℕ) (P : List ℕ → Type 0) → Holding told n P → HoldingTexts told (n ∷ []) (λ texts. P (get_or texts 0 []))
one_text told n P (b, is, p) = (b ∷ [], (refl, at told is), p)
  where
    at : (told : Option Files) → IfSome told (λ files. b ≡ content files n) → IfSome told (λ files. b ∷ [] ≡ map (content files) (n ∷ []))
    at None e = tt
    at (Some files) e = ap (λ (c : List ℕ). c ∷ []) e

pub no_texts : (told : Option Files) (P : List (List ℕ) → Type 0) → P [] → HoldingTexts told [] P
no_texts None P p = ([], (refl, tt), p)
no_texts (Some files) P p = ([], (refl, refl), p)

-- ---- what was read of two files, made into one value

pub regrouped : {X Y Z : Type 0} (first : Result X (List ℕ)) (next : X → Result Y (List ℕ)) (make : X → Y → Z)
    → then_stated (then_stated first (λ x. then_stated (next x) (λ y. Ok (x, y)))) (λ (v : X × Y). Ok (make v.0 v.1))
    ≡ then_stated first (λ x. then_stated (next x) (λ y. Ok (make x y)))
regrouped {X = X} {Y = Y} {Z = Z} (Ok x) next make = at (next x)
  where
    at : (r : Result Y (List ℕ)) → then_stated {X = X × Y} {Y = Z} (then_stated r (λ y. Ok (x, y))) (λ v. Ok (make v.0 v.1)) ≡ then_stated r (λ y. Ok (make x y))
    at (Ok y) = refl
    at (Err text) = refl
regrouped (Err text) next make = refl

-- a reply to what was read is one to what is made of it
decided_made : {X Z : Type 0} (read : Result X (List ℕ)) (make : X → Z) (P : Z → Reply → Type 0) (r : Reply) → Decided read (λ v. P (make v)) r
    → Decided (then_stated read (λ v. Ok (make v))) P r
decided_made (Ok x) make P r h = h
decided_made (Err text) make P r h = h

pub decided_over : {X Y Z : Type 0} (first : Result X (List ℕ)) (next : X → Result Y (List ℕ)) (make : X → Y → Z) (P : Z → Reply → Type 0) (r : Reply)
    → Decided (then_stated first (λ x. then_stated (next x) (λ y. Ok (x, y)))) (λ (v : X × Y). P (make v.0 v.1)) r
    → Decided (then_stated first (λ x. then_stated (next x) (λ y. Ok (make x y)))) P r
decided_over {X = X} {Y = Y} {Z = Z} first next make P r h =
    subst (λ (s : Result Z (List ℕ)). Decided s P r) (regrouped first next make) (decided_made {X = X × Y} {Z = Z} (then_stated first (λ x. then_stated (next x) (λ y. Ok (x, y))))
    (λ v. make v.0 v.1) P r h)

-- the same of three, of which the last is read over both before it
pub decided_last : {X Y Z W : Type 0} (first : Result X (List ℕ)) (next : X → Result Y (List ℕ)) (last : X → Y → Result Z (List ℕ)) (make : X → Y → Z → W) (P : W → Reply → Type 0)
    (r : Reply)
    → Decided (then_stated (then_stated first (λ x. then_stated (next x) (λ y. Ok (x, y)))) (λ (v : X × Y). then_stated (last v.0 v.1) (λ z. Ok (v, z))))
    (λ (v : (X × Y) × Z). P (make v.0.0 v.0.1 v.1)) r
    → Decided (then_stated first (λ x. then_stated (next x) (λ y. then_stated (last x y) (λ z. Ok (make x y z))))) P r
decided_last {X = X} {Y = Y} {Z = Z} {W = W} (Ok x) next last make P r h = at (next x) h
  where
    behind : (y : Y) (s : Result Z (List ℕ)) → Decided (then_stated s (λ z. Ok ((x, y), z))) (λ (v : (X × Y) × Z). P (make v.0.0 v.0.1 v.1)) r
        → Decided (then_stated s (λ z. Ok (make x y z))) P r
    behind y (Ok z) h = h
    behind y (Err text) h = h

    at : (s : Result Y (List ℕ)) → Decided (then_stated (then_stated s (λ y. Ok (x, y))) (λ (v : X × Y). then_stated (last v.0 v.1) (λ z. Ok (v, z))))
        (λ (v : (X × Y) × Z). P (make v.0.0 v.0.1 v.1)) r → Decided (then_stated s (λ y. then_stated (last x y) (λ z. Ok (make x y z)))) P r
    at (Ok y) h = behind y (last x y) h
    at (Err text) h = h
decided_last (Err text) next last make P r h = h

-- and where the first two are made into one value before
pub decided_behind : {X Y U Z W : Type 0} (first : Result X (List ℕ)) (next : X → Result Y (List ℕ)) (mid : X → Y → U) (last : U → Result Z (List ℕ)) (make : U → Z → W) (P : W
    → Reply → Type 0) (r : Reply)
    → Decided (then_stated (then_stated first (λ x. then_stated (next x) (λ y. Ok (x, y)))) (λ (v : X × Y). then_stated (last (mid v.0 v.1)) (λ z. Ok (v, z))))
    (λ (v : (X × Y) × Z). P (make (mid v.0.0 v.0.1) v.1)) r
    → Decided (then_stated (then_stated first (λ x. then_stated (next x) (λ y. Ok (mid x y)))) (λ u. then_stated (last u) (λ z. Ok (make u z)))) P r
decided_behind {X = X} {Y = Y} {U = U} {Z = Z} {W = W} (Ok x) next mid last make P r h = at (next x) h
  where
    behind : (y : Y) (s : Result Z (List ℕ)) → Decided (then_stated s (λ z. Ok ((x, y), z))) (λ (v : (X × Y) × Z). P (make (mid v.0.0 v.0.1) v.1)) r
        → Decided (then_stated s (λ z. Ok (make (mid x y) z))) P r
    behind y (Ok z) h = h
    behind y (Err text) h = h

    at : (s : Result Y (List ℕ)) → Decided (then_stated (then_stated s (λ y. Ok (x, y))) (λ (v : X × Y). then_stated (last (mid v.0 v.1)) (λ z. Ok (v, z))))
        (λ (v : (X × Y) × Z). P (make (mid v.0.0 v.0.1) v.1)) r → Decided (then_stated (then_stated s (λ y. Ok (mid x y))) (λ u. then_stated (last u) (λ z. Ok (make u z)))) P r
    at (Ok y) h = behind y (last (mid x y)) h
    at (Err text) h = h
decided_behind (Err text) next mid last make P r h = h
