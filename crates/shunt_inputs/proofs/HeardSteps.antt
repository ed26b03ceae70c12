-- What was heard in a step, and in the steps that it is made of.
use Rattle.std.proofs.Common.{◌≡◌, ◌∙◌, ℕ, ◌+◌, ◌<◌, List, [], ◌∷◌, ◌++◌, length, take, Option, Some, None, append_assoc, append-nil, take_all, zero, suc, Result, Ok, Err, refl, sym, ap, subst, arith, inl, inr}
use Rattle.std.proofs.Math.Seq.{take-append-add}
use Rattle.std.proofs.lemmas.List.{append_cancel_left, map-append}
use Rattle.std.specs.Prelude.{IfSome, OnOk}
use Rattle.std.specs.List.{AllByRecursion}
use Rattle.shunt_store.specs.defs.Files.{Files, AreFirst, BothTold, content}
use Rattle.shunt_store.specs.defs.Notes.{Entries, AddsBytes, AddsSome}
use Rattle.std.specs.Global.{Global}
use Rattle.shunt_rows.specs.declared.fault.RowFault.{RowFault}
use Rattle.shunt_rows.specs.declared.words.FileWord.{FileWord}
use Rattle.shunt_inputs.specs.declared.file_loader.Halt.{Halt}
use Rattle.shunt_inputs.specs.defs.Halts.{Loads, LoadsBytes}
use Rattle.shunt_inputs.specs.defs.Inputs.{stated_by}
use Rattle.shunt_inputs.proofs.SeenFiles.{refused_bytes}
use Rattle.shunt_inputs.specs.defs.Views.{HeardIn, IsView, names_of, Hears, HearsFirst}

-- ---- two steps one after the other

abbrev Holds : Files → (List ℕ × List ℕ) → Type 0
Holds files e = content files e.0 ≡ e.1

first_hold : (files : Files) (xs ys : Entries) → AllByRecursion (Holds files) (xs ++ ys) → AllByRecursion (Holds files) xs
first_hold files [] ys h = tt
first_hold files (x ∷ xs) ys h = (h.0, first_hold files xs ys h.1)

last_hold : (files : Files) (xs ys : Entries) → AllByRecursion (Holds files) (xs ++ ys) → AllByRecursion (Holds files) ys
last_hold files [] ys h = h
last_hold files (x ∷ xs) ys h = last_hold files xs ys h.1

module _ (files : Files) (ns ms : List (List ℕ)) where
  cut : (h0 h1 h2 : Option Entries) → HearsFirst ns h0 h1 → HearsFirst ms h1 h2 → HeardIn h0 h2 files → HeardIn h0 h1 files × HeardIn h1 h2 files
  cut None h1 h2 g f h = absurd h
  cut (Some a) h1 None g f h = absurd h
  cut (Some a) None (Some c) g f h = absurd g
  cut (Some a) (Some b) (Some c) (xs, is, k) (ys, also, m) (es, whole, hold) =
      let all : a ++ es ≡ a ++ (xs ++ ys) = sym whole ∙ also ∙ ap (λ (l : Entries). l ++ ys) is ∙ append_assoc a xs ys in
      let same : AllByRecursion (Holds files) (xs ++ ys) = subst (AllByRecursion (Holds files)) (append_cancel_left a es (xs ++ ys) all) hold in
      ((xs, is, first_hold files xs ys same), (ys, also, last_hold files xs ys same))

-- a view of two steps is one of each
pub cut_view : (told t : Option Files) (h0 h1 h2 : Option Entries) (view : Option Files) (ns ms : List (List ℕ)) → t ≡ told → HearsFirst ns h0 h1 → HearsFirst ms h1 h2
    → IsView told h0 h2 view → IsView told h0 h1 view × IsView t h1 h2 view
cut_view told t h0 h1 h2 view ns ms same g f (inl e) = (inl e, inl (e ∙ sym same))
cut_view told t h0 h1 h2 view ns ms same g f (inr (files, is, h)) = let parts = cut files ns ms h0 h1 h2 g f h in (inr (files, is, parts.0), inr (files, is, parts.1))

-- ---- which names were heard

names_of_both : (xs ys : Entries) → names_of (xs ++ ys) ≡ names_of xs ++ names_of ys
names_of_both xs ys = map-append (λ (e : List ℕ × List ℕ). e.0) xs ys

-- those of one step, and then the first of those of another
pub hears_on : (ns ms : List (List ℕ)) (h0 h1 h2 : Option Entries) → Hears ns h0 h1 → HearsFirst ms h1 h2 → HearsFirst (ns ++ ms) h0 h2
hears_on ns ms None None None g f = tt
hears_on ns ms None None (Some c) g f = absurd f
hears_on ns ms None (Some b) h2 g f = absurd g
hears_on ns ms (Some a) None h2 g f = absurd g
hears_on ns ms (Some a) (Some b) None g f = absurd f
hears_on ns ms (Some a) (Some b) (Some c) (xs, is, names) (ys, also, (k, more)) = (
  xs ++ ys,
  also ∙ ap (λ (l : Entries). l ++ ys) is ∙ append_assoc a xs ys,
  (length ns + k, names_of_both xs ys ∙ ap (λ (l : List (List ℕ)). l ++ names_of ys) names ∙ ap (λ (l : List (List ℕ)). ns ++ l) more ∙ sym (take-append-add ns ms k)),
)

pub hears_both : (ns ms : List (List ℕ)) (h0 h1 h2 : Option Entries) → Hears ns h0 h1 → Hears ms h1 h2 → Hears (ns ++ ms) h0 h2
hears_both ns ms None None None g f = tt
hears_both ns ms None None (Some c) g f = absurd f
hears_both ns ms None (Some b) h2 g f = absurd g
hears_both ns ms (Some a) None h2 g f = absurd g
hears_both ns ms (Some a) (Some b) None g f = absurd f
hears_both ns ms (Some a) (Some b) (Some c) (xs, is, names) (ys, also, more) = (
  xs ++ ys,
  also ∙ ap (λ (l : Entries). l ++ ys) is ∙ append_assoc a xs ys,
  names_of_both xs ys ∙ ap (λ (l : List (List ℕ)). l ++ names_of ys) names
      ∙ ap (λ (l : List (List ℕ)). ns ++ l) more,
)

pub hears_all : (ns : List (List ℕ)) (h0 h1 : Option Entries) → Hears ns h0 h1 → HearsFirst ns h0 h1
hears_all ns None None h = tt
hears_all ns None (Some b) h = absurd h
hears_all ns (Some a) None h = absurd h
hears_all ns (Some a) (Some b) (xs, is, names) = (xs, is, (length ns, names ∙ sym (take_all (length ns) ns (omega arith))))

front_of_both : (k : ℕ) (ns ms : List (List ℕ)) → (m : ℕ) × (take k ns ≡ take m (ns ++ ms))
front_of_both k [] ms = (0, take_all k [] (omega arith))
front_of_both zero (n ∷ ns) ms = (0, refl)
front_of_both (suc k) (n ∷ ns) ms = let rest = front_of_both k ns ms in (suc rest.0, ap (λ (l : List (List ℕ)). n ∷ l) rest.1)

-- the first of some names are the first of those and others
pub hears_more : (ns ms : List (List ℕ)) (h0 h1 : Option Entries) → HearsFirst ns h0 h1 → HearsFirst (ns ++ ms) h0 h1
hears_more ns ms None None h = tt
hears_more ns ms None (Some b) h = absurd h
hears_more ns ms (Some a) None h = absurd h
hears_more ns ms (Some a) (Some b) (xs, is, (k, names)) = let m = front_of_both k ns ms in (xs, is, (m.0, names ∙ m.1))

-- ---- one file

pub hears_file : (name v : List ℕ) (h0 h1 : Option Entries) → BothTold h0 h1 (λ a b. b ≡ a ++ (name, v) ∷ []) → Hears (name ∷ []) h0 h1
hears_file name v None None h = tt
hears_file name v None (Some b) h = absurd h
hears_file name v (Some a) None h = absurd h
hears_file name v (Some a) (Some b) h = ((name, v) ∷ [], h, refl)

pub hears_some : (name : List ℕ) (h0 h1 : Option Entries) → BothTold h0 h1 (AddsSome name) → HearsFirst (name ∷ []) h0 h1
hears_some name None None h = tt
hears_some name None (Some b) h = absurd h
hears_some name (Some a) None h = absurd h
hears_some name (Some a) (Some b) (inl e) = ([], e ∙ sym (append-nil a), (0, refl))
hears_some name (Some a) (Some b) (inr (text, all, e)) = ((name, text) ∷ [], e, (1, refl))

heard_here : (files : Files) (name v : List ℕ) (h0 h1 : Option Entries) → HeardIn h0 h1 files → BothTold h0 h1 (λ a b. b ≡ a ++ (name, v) ∷ []) → v ≡ content files name
heard_here files name v None h1 h e = absurd h
heard_here files name v (Some a) None h e = absurd h
heard_here files name v (Some a) (Some b) (es, is, hold) e =
    let same : es ≡ (name, v) ∷ [] = append_cancel_left a es ((name, v) ∷ []) (sym is ∙ e) in
    sym ((subst (AllByRecursion (Holds files)) same hold).0)

-- the bytes that were read are those of the view
pub read_in : (told : Option Files) (h0 h1 : Option Entries) (view : Option Files) (name v : List ℕ) → IsView told h0 h1 view → IfSome told (λ files. v ≡ content files name)
    → BothTold h0 h1 (λ a b. b ≡ a ++ (name, v) ∷ []) → IfSome view (λ files. v ≡ content files name)
read_in told h0 h1 view name v (inl e) is heard = subst (λ w. IfSome w (λ files. v ≡ content files name)) (sym e) is
read_in told h0 h1 view name v (inr (files, e, h)) is heard = subst (λ w. IfSome w (λ fs. v ≡ content fs name)) (sym e) (heard_here files name v h0 h1 h heard)

long_here : (files : Files) (told : Option Files) (name : List ℕ) (most : ℕ) (h0 h1 : Option Entries) → HeardIn h0 h1 files
    → BothTold h0 h1 (AddsBytes name (AreFirst told name (most + 1))) → most < length (content files name)
long_here files told name most None h1 h e = absurd h
long_here files told name most (Some a) None h e = absurd h
long_here files told name most (Some a) (Some b) h (text, long, e) =
    let is : text ≡ content files name = heard_here files name text (Some a) (Some b) h e in
    let same : length text ≡ length (content files name) = ap length is in
    let first : length text ≡ most + 1 = long.0 in
    omega (arith, first, same)

-- a file of which more was read than it may have is as long in the view
pub long_in : (told : Option Files) (h0 h1 : Option Entries) (view : Option Files) (name : List ℕ) (most : ℕ) → IsView told h0 h1 view
    → IfSome told (λ files. most < length (content files name)) → BothTold h0 h1 (AddsBytes name (AreFirst told name (most + 1)))
    → IfSome view (λ files. most < length (content files name))
long_in told h0 h1 view name most (inl e) is heard = subst (λ w. IfSome w (λ files. most < length (content files name))) (sym e) is
long_in told h0 h1 view name most (inr (files, e, h)) is heard = subst (λ w. IfSome w (λ fs. most < length (content fs name))) (sym e)
    (long_here files told name most h0 h1 h heard)

-- ---- nothing more was heard

pub view_still : (told : Option Files) (h0 h1 h2 : Option Entries) (view : Option Files) → h2 ≡ h1 → IsView told h0 h2 view → IsView told h0 h1 view
view_still told h0 h1 h2 view same seen = subst (λ h. IsView told h0 h view) same seen

pub first_still : (ns : List (List ℕ)) (h0 h1 h2 : Option Entries) → h2 ≡ h1 → HearsFirst ns h0 h1 → HearsFirst ns h0 h2
first_still ns h0 h1 h2 same h = subst (λ x. HearsFirst ns h0 x) (sym same) h

pub on_ok : {X E : Type 0} (r : Result X E) (P : Type 0) → P → OnOk r P
on_ok (Ok x) P p = p
on_ok (Err e) P p = tt

pub refused_word : {X : Type 0} (file word : FileWord) (states : List (List (List ℕ)) → Result X RowFault) (b : List ℕ) (h : Halt) → word ≡ file
    → LoadsBytes {A = Global} word b (Err h) → Loads {X = X} (Err h) (stated_by file states b)
refused_word file word states b h same l = refused_bytes file states b h (subst (λ (w : FileWord). LoadsBytes {A = Global} w b (Err h)) same l)
