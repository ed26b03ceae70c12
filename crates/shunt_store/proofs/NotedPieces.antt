-- What was moved in a run, piece by piece.
use Rattle.std.proofs.Common.{◌≡◌, ℕ, ◌≤◌, List, [], ◌∷◌, ◌++◌, length, take, Option, refl, sym, ap, ◌∙◌, subst, append_assoc, append-nil, inr}
use Rattle.std.specs.Prelude.{Result, Ok, Err, IfOk}
use Rattle.std.proofs.lemmas.List.{take-append-le}
use Rattle.shunt_store.specs.defs.Files.{Files, Stage, Reading, AreFirst, BothTold, name_of}
use Rattle.shunt_store.specs.defs.Notes.{Entries, add_last, AddsLast, AddsBytes, AddsSome}
use Rattle.shunt_store.proofs.Texts.{both_then, both_map, both_same}

add_nothing : (es : Entries) → add_last [] es ≡ es
add_nothing [] = refl
add_nothing (e ∷ []) = ap (λ b. (e.0, b) ∷ []) (append-nil e.1)
add_nothing (e ∷ f ∷ es) = ap (λ r. e ∷ r) (add_nothing (f ∷ es))

-- two pieces are one
add_twice : (a b : List ℕ) (es : Entries) → add_last b (add_last a es) ≡ add_last (a ++ b) es
add_twice a b [] = refl
add_twice a b (e ∷ []) = ap (λ x. (e.0, x) ∷ []) (append_assoc e.1 a b)
add_twice a b (e ∷ f ∷ []) = ap (λ r. e ∷ r) (add_twice a b (f ∷ []))
add_twice a b (e ∷ f ∷ g ∷ es) = ap (λ r. e ∷ r) (add_twice a b (f ∷ g ∷ es))

-- the pieces of a name that was begun
pub add_begun : (name text : List ℕ) (es : Entries) → add_last text (es ++ (name, []) ∷ []) ≡ es ++ (name, text) ∷ []
add_begun name text [] = refl
add_begun name text (e ∷ []) = refl
add_begun name text (e ∷ f ∷ es) = ap (λ r. e ∷ r) (add_begun name text (f ∷ es))

-- nothing was heard yet
pub heard_none : (o : Option Entries) (bytes : List ℕ) → bytes ≡ [] → BothTold o o (λ old new. new ≡ add_last bytes old)
heard_none o bytes none = both_same (λ old new. new ≡ add_last bytes old) o o refl (λ a. sym (ap (λ b. add_last b a) none ∙ add_nothing a))

-- one piece more, of a buffer that a longer one begins with
pub heard_more : (o p q : Option Entries) (bytes buffer rest new : List ℕ) (n : ℕ)
    → BothTold o p (λ old now. now ≡ add_last bytes old) → BothTold p q (λ old now. now ≡ add_last (take n buffer) old) → n ≤ length buffer → new ≡ bytes ++ take n (buffer ++ rest)
    → BothTold o q (λ old now. now ≡ add_last new old)
heard_more o p q bytes buffer rest new n r s within made =
    both_then _ _ _ o p q r s (λ a b c e f. f ∙ ap (add_last (take n buffer)) e ∙ add_twice bytes (take n buffer) a
    ∙ ap (λ t. add_last t a) (sym (made ∙ ap (λ t. bytes ++ t) (take-append-le n buffer rest within))))

-- the last piece had no bytes
pub heard_end : (o p q : Option Entries) (bytes buffer : List ℕ) (n : ℕ)
    → BothTold o p (λ old now. now ≡ add_last bytes old) → BothTold p q (λ old now. now ≡ add_last (take n buffer) old) → n ≡ 0
    → BothTold o q (λ old now. now ≡ add_last bytes old)
heard_end o p q bytes buffer n r s none =
    both_then _ _ _ o p q r s (λ a b c e f. f ∙ ap (λ k. add_last (take k buffer) b) none ∙ add_nothing b ∙ e)

-- the same, said of the file that was opened
pub first_opened : (told now : Option Files) (name : List ℕ) (stage : Stage) (n : ℕ) (o p : Option Entries) → now ≡ told → stage ≡ Reading name
    → BothTold o p (AddsLast (AreFirst now (name_of stage) n)) → BothTold o p (AddsLast (AreFirst told name n))
first_opened told now name stage n o p same is h =
    subst (λ t. BothTold o p (AddsLast (AreFirst t name n))) same (subst (λ s. BothTold o p (AddsLast (AreFirst now (name_of s) n))) is h)

-- some bytes were heard of the next piece too
pub heard_on : (o p q : Option Entries) (bytes piece : List ℕ) → BothTold o p (λ old now. now ≡ add_last bytes old) → BothTold p q (λ old now. now ≡ add_last piece old)
    → BothTold o q (AddsLast (λ text. Unit {0}))
heard_on o p q bytes piece r s = both_then _ _ _ o p q r s (λ a b c e f. (bytes ++ piece, tt, f ∙ ap (add_last piece) e ∙ add_twice bytes piece a))

-- a name was begun, and then bytes of it were heard
pub heard_whole : (o p q : Option Entries) (name text : List ℕ) → BothTold o p (λ old now. now ≡ old ++ (name, []) ∷ []) → BothTold p q (λ old now. now ≡ add_last text old)
    → BothTold o q (λ old now. now ≡ old ++ (name, text) ∷ [])
heard_whole o p q name text r s = both_then _ _ _ o p q r s (λ a b c e f. f ∙ ap (add_last text) e ∙ add_begun name text a)

pub heard_part : (P : List ℕ → Type 0) (o p q : Option Entries) (name : List ℕ) → BothTold o p (λ old now. now ≡ old ++ (name, []) ∷ []) → BothTold p q (AddsLast P)
    → BothTold o q (AddsBytes name P)
heard_part P o p q name r s = both_then _ _ _ o p q r s (λ a b c e f. (f.0, f.1, f.2 ∙ ap (add_last f.0) e ∙ add_begun name f.0 a))

pub heard_any : (o p q : Option Entries) (name : List ℕ) → BothTold o p (λ old now. now ≡ old ++ (name, []) ∷ []) → BothTold p q (AddsLast (λ text. Unit {0}))
    → BothTold o q (AddsSome name)
heard_any o p q name r s = both_map _ _ o q (heard_part (λ text. Unit {0}) o p q name r s) (λ a b e. inr e)

-- the same after a closing, at which nothing is heard
pub closed_whole : {V E : Type 0} (f : V → List ℕ) (r : Result V E) (o p q s : Option Entries) (name : List ℕ)
    → BothTold o p (λ old now. now ≡ old ++ (name, []) ∷ []) → IfOk r (λ v. BothTold p q (λ old now. now ≡ add_last (f v) old)) → s ≡ q
    → IfOk r (λ v. BothTold o s (λ old now. now ≡ old ++ (name, f v) ∷ []))
closed_whole f (Err e) o p q s name begun heard same = tt
closed_whole f (Ok v) o p q s name begun heard same = subst (λ x. BothTold o x (λ old now. now ≡ old ++ (name, f v) ∷ [])) (sym same) (heard_whole o p q name (f v) begun heard)

pub closed_part : (P : List ℕ → Type 0) (o p q s : Option Entries) (name : List ℕ) → BothTold o p (λ old now. now ≡ old ++ (name, []) ∷ []) → BothTold p q (AddsLast P) → s ≡ q
    → BothTold o s (AddsBytes name P)
closed_part P o p q s name begun heard same = subst (λ x. BothTold o x (AddsBytes name P)) (sym same) (heard_part P o p q name begun heard)

pub closed_any : (o p q s : Option Entries) (name : List ℕ) → BothTold o p (λ old now. now ≡ old ++ (name, []) ∷ []) → BothTold p q (AddsLast (λ text. Unit {0})) → s ≡ q
    → BothTold o s (AddsSome name)
closed_any o p q s name begun heard same = subst (λ x. BothTold o x (AddsSome name)) (sym same) (heard_any o p q name begun heard)
