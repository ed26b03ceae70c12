-- Texts that are written piece by piece.
use Rattle.std.proofs.Common.{◌≡◌, ℕ, ◌+◌, ◌-◌, ◌≤◌, List, ◌++◌, length, take, drop, Option, Some, None, refl, sym, ap, ◌∙◌, arith, length-drop, take_all, append_assoc, append-nil, subst}
use Rattle.std.proofs.Math.Seq.{take-add}
use Rattle.shunt_store.specs.defs.Files.{BothTold, AddsFront, Stage, Writing, IsWriting, name_of, text_of}

pub adds_nothing : (text old new : List ℕ) → new ≡ old → AddsFront text old new
adds_nothing text old new same = (0, omega arith, same ∙ sym (append-nil old))

-- what holds over two steps
pub both_then : {A : Type 0} (R Q T : A → A → Type 0) (o p q : Option A) → BothTold o p R → BothTold p q Q → ((a b c : A) → R a b → Q b c → T a c) → BothTold o q T
both_then R Q T None None None r s step = tt
both_then R Q T None None (Some c) r s step = absurd s
both_then R Q T None (Some b) q r s step = absurd r
both_then R Q T (Some a) None q r s step = absurd r
both_then R Q T (Some a) (Some b) None r s step = absurd s
both_then R Q T (Some a) (Some b) (Some c) r s step = step a b c r s

pub both_map : {A : Type 0} (R T : A → A → Type 0) (o p : Option A) → BothTold o p R → ((a b : A) → R a b → T a b) → BothTold o p T
both_map R T None None r step = tt
both_map R T None (Some b) r step = absurd r
both_map R T (Some a) None r step = absurd r
both_map R T (Some a) (Some b) r step = step a b r

-- nothing happened
pub both_same : {A : Type 0} (T : A → A → Type 0) (o p : Option A) → p ≡ o → ((a : A) → T a a) → BothTold o p T
both_same T o p same step = subst (λ q. BothTold o q T) (sym same) (at o)
  where
    at : (o : Option _) → BothTold o o T
    at None = tt
    at (Some a) = step a

more : (text old new newer : List ℕ) (at n : ℕ) → new ≡ old ++ take at text → newer ≡ new ++ take n (drop at text) → newer ≡ old ++ take (at + n) text
more text old new newer at n a b = b ∙ ap (λ x. x ++ take n (drop at text)) a ∙ append_assoc old (take at text) (take n (drop at text))
    ∙ ap (λ x. old ++ x) (sym (take-add at n text))

-- what `&text[at..]` is
abbrev pub tail : List ℕ → ℕ → List ℕ
tail text at = take (length text - at) (drop at text)

tail_is : (text : List ℕ) (at : ℕ) → tail text at ≡ drop at text
tail_is text at = take_all (length text - at) (drop at text) (omega (arith, length-drop at text))

pub told_more : (text : List ℕ) (at n : ℕ) (o p q : Option (List ℕ)) → BothTold o p (λ old new. new ≡ old ++ take at text)
    → BothTold p q (λ old new. new ≡ old ++ take n (tail text at)) → BothTold o q (λ old new. new ≡ old ++ take (at + n) text)
told_more text at n o p q r s = both_then _ _ _ o p q r (subst (λ x. BothTold p q (λ old new. new ≡ old ++ take n x)) (tail_is text at) s) (λ a b c. more text a b c at n)

pub told_whole : (text : List ℕ) (at : ℕ) (o p : Option (List ℕ)) → length text ≤ at → BothTold o p (λ old new. new ≡ old ++ take at text)
    → BothTold o p (λ old new. new ≡ old ++ text)
told_whole text at o p le r = subst (λ x. BothTold o p (λ old new. new ≡ old ++ x)) (take_all at text le) r

pub told_front : (text : List ℕ) (at : ℕ) (o p q : Option (List ℕ)) → at ≤ length text → BothTold o p (λ old new. new ≡ old ++ take at text)
    → BothTold p q (AddsFront (tail text at)) → BothTold o q (AddsFront text)
told_front text at o p q le r s = both_then _ _ _ o p q r (subst (λ x. BothTold p q (AddsFront x)) (tail_is text at) s)
    (λ a b c e f. (at + f.0, omega (arith, f.1, length-drop at text, le), more text a b c at f.0 e f.2))

-- what is written, after one piece more
pub written_more : (text : List ℕ) (at n : ℕ) (o p q : Stage) → p ≡ Writing (name_of o) (text_of o ++ take at text) → q ≡ Writing (name_of p) (text_of p ++ take n (tail text at))
    → q ≡ Writing (name_of o) (text_of o ++ take (at + n) text)
written_more text at n o p q e f =
    f
    ∙ ap (λ s. Writing (name_of s) (text_of s ++ take n (tail text at))) e
    ∙ ap (λ d. Writing (name_of o) ((text_of o ++ take at text) ++ take n d)) (tail_is text at)
    ∙ ap (λ t. Writing (name_of o) t) (more text (text_of o) (text_of o ++ take at text) ((text_of o ++ take at text) ++ take n (drop at text)) at n refl refl)

pub still_writing : (name text : List ℕ) (s : Stage) → s ≡ Writing name text → IsWriting s
still_writing name text s e = subst IsWriting (sym e) tt
