-- Files that are written one after the other.
use Rattle.std.proofs.Common.{◌≡◌, ℕ, suc, ◌+◌, ◌≤◌, ◌<◌, List, [], ◌∷◌, ◌++◌, length, take, drop, map, get_or, append_assoc, append-nil, Option, refl, sym, ap, subst, ◌∙◌, arith, inl, inr, take_all}
use Rattle.std.proofs.Math.Seq.{take-suc}
use Rattle.std.proofs.lemmas.List.{map-append, take-append-drop, take-map, get_or_default}
use Rattle.std.specs.FinMap as map_of
use Rattle.shunt_lists.specs.defs.Members.{In}
use Rattle.shunt_store.specs.defs.Files.{Files, BothTold}
use Rattle.shunt_store.specs.defs.Notes.{Entries}
use Rattle.shunt_store.proofs.Texts.{both_same, both_then}
use Rattle.shunt_inputs.specs.declared.answers.FileText.{FileText}
use Rattle.shunt_inputs.specs.defs.Replies.{pair_of}
use Rattle.shunt_inputs.specs.defs.Writes.{written, known, WritesSome}
use Rattle.shunt_inputs.proofs.FirstFiles.{written-append}

-- the texts up to and with this one
taken_next : (writes : List FileText) (i : ℕ) (w : FileText) → i < length writes → w ≡ get_or writes i w
    → map pair_of (take (i + 1) writes) ≡ map pair_of (take i writes) ++ pair_of w ∷ []
taken_next writes i w lt is = let e : i + 1 ≡ suc i = omega arith in ap (λ k. map pair_of (take k writes)) e ∙ ap (map pair_of) (take-suc writes i w lt)
    ∙ map-append pair_of (take i writes) (get_or writes i w ∷ []) ∙ ap (λ (x : FileText). map pair_of (take i writes) ++ pair_of x ∷ []) (sym is)

pub told_next : (writes : List FileText) (i : ℕ) (w : FileText) (o p q : Option Files) → i < length writes → w ≡ get_or writes i w
    → BothTold o p (λ a b. b ≡ written (map pair_of (take i writes)) a) → BothTold p q (λ a b. b ≡ map_of.insert a (pair_of w).0 (pair_of w).1)
    → BothTold o q (λ a b. b ≡ written (map pair_of (take (i + 1) writes)) a)
told_next writes i w o p q lt is r s = both_then _ _ _ o p q r s (λ a b c e f.
    f ∙ ap (λ m. map_of.insert m (pair_of w).0 (pair_of w).1) e
    ∙ sym (written-append (map pair_of (take i writes)) (pair_of w ∷ []) a) ∙ ap (λ ws. written ws a) (sym (taken_next writes i w lt is)))

-- before the first of the texts
pub told_none : (writes : List FileText) (o : Option Files) → BothTold o o (λ a b. b ≡ written (map pair_of (take 0 writes)) a)
told_none writes o = both_same (λ a b. b ≡ written (map pair_of (take 0 writes)) a) o o refl (λ a. refl)

pub stored_none : (writes : List FileText) (o : Option Entries) → BothTold o o (λ a b. b ≡ a ++ map pair_of (take 0 writes))
stored_none writes o = both_same (λ a b. b ≡ a ++ map pair_of (take 0 writes)) o o refl (λ a. sym (append-nil a))

pub told_all : (writes : List FileText) (i : ℕ) (o p : Option Files) → length writes ≤ i → BothTold o p (λ a b. b ≡ written (map pair_of (take i writes)) a)
    → BothTold o p (λ a b. b ≡ written (map pair_of writes) a)
told_all writes i o p le r = subst (λ ws. BothTold o p (λ a b. b ≡ written (map pair_of ws) a)) (take_all i writes le) r

in_left : (ws vs : List (List ℕ × List ℕ)) (x : List ℕ × List ℕ) → In x ws → In x (ws ++ vs)
in_left [] vs x h = absurd h
in_left (w ∷ ws) vs x (inl e) = inl e
in_left (w ∷ ws) vs x (inr h) = inr (in_left ws vs x h)

-- a name of some of the writes is one of all
pub in_some : (k : ℕ) (ws : List (List ℕ × List ℕ)) (x : List ℕ × List ℕ) → In x (take k ws) → In x ws
in_some k ws x h = subst (In x) (take-append-drop k ws) (in_left (take k ws) (drop k ws) x h)

-- the same with the name, the bytes and the place as a loop over the files has them
pub next_of : (writes : List FileText) (i : ℕ) (w d : FileText) (name bytes : List ℕ) (o p q : Option Files) → i < length writes → w ≡ get_or writes i d → name ≡ (pair_of w).0
    → bytes ≡ (pair_of w).1
    → BothTold o p (λ a b. b ≡ written (map pair_of (take i writes)) a) → BothTold p q (λ a b. b ≡ map_of.insert a name bytes)
    → BothTold o q (λ a b. b ≡ written (map pair_of (take (i + 1) writes)) a)
next_of writes i w d name bytes o p q lt is n b r s =
    told_next writes i w o p q lt (is ∙ get_or_default writes i d w lt) r (subst (λ y. BothTold p q (λ a b. b ≡ map_of.insert a (pair_of w).0 y)) b
    (subst (λ x. BothTold p q (λ a b. b ≡ map_of.insert a x bytes)) n s))

pub next_stored : (writes : List FileText) (i : ℕ) (w d : FileText) (name bytes : List ℕ) (o p q : Option Entries) → i < length writes → w ≡ get_or writes i d
    → name ≡ (pair_of w).0 → bytes ≡ (pair_of w).1
    → BothTold o p (λ a b. b ≡ a ++ map pair_of (take i writes)) → BothTold p q (λ a b. b ≡ a ++ (name, bytes) ∷ [])
    → BothTold o q (λ a b. b ≡ a ++ map pair_of (take (i + 1) writes))
next_stored writes i w d name bytes o p q lt is n b r s =
    both_then _ _ _ o p q r (subst (λ y. BothTold p q (λ x z. z ≡ x ++ ((pair_of w).0, y) ∷ [])) b (subst (λ y. BothTold p q (λ x z. z ≡ x ++ (y, bytes) ∷ [])) n s)) (λ x y z e f.
    f
    ∙ ap (λ (l : Entries). l ++ pair_of w ∷ []) e
    ∙ append_assoc x (map pair_of (take i writes)) (pair_of w ∷ [])
    ∙ ap (λ (l : Entries). x ++ l) (sym (taken_next writes i w lt (is ∙ get_or_default writes i d w lt))))

-- if one isn't written, those before it were
pub some_of : (writes : List FileText) (i : ℕ) (o p q : Option Files) (e f g : Option Entries) → BothTold o p (λ a b. b ≡ written (map pair_of (take i writes)) a)
    → BothTold e f (λ a b. b ≡ a ++ map pair_of (take i writes)) → q ≡ p → g ≡ f
    → WritesSome (map pair_of writes) (known o e) (known q g)
some_of writes i o p q e f g r s same still = record {
  many = i;
  files = subst (λ x. BothTold o x (λ a b. b ≡ written (take i (map pair_of writes)) a)) (sym same)
      (subst (λ (ws : Entries). BothTold o p (λ a b. b ≡ written ws a)) (sym (take-map pair_of i writes)) r);
  stored = subst (λ x. BothTold e x (λ a b. b ≡ a ++ take i (map pair_of writes))) (sym still)
      (subst (λ (ws : Entries). BothTold e f (λ a b. b ≡ a ++ ws)) (sym (take-map pair_of i writes)) s);
}
