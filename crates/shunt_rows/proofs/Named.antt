-- Lists of things that names or other keys tell apart.
use Rattle.std.proofs.Common.{◌≡◌, ◌≢◌, ℕ, zero, suc, ◌<◌, ◌≤◌, Bool, true, false, List, [], ◌∷◌, ◌++◌, length, length-append, map, get_or, refl, sym, ap, subst, ◌∙◌, arith}
use Rattle.std.specs.Prelude.{All, bytes_eq, nat_lt}
use Rattle.std.specs.List.{list_any}
use Rattle.std.proofs.lemmas.List.{map-append, map-id, length-map}
use Rattle.std.proofs.lemmas.List.Quantifiers.{all_pairs_push}
use Rattle.std.proofs.lemmas.Slice.Eq.{bytes_eq-Decides}
use Rattle.std.proofs.lemmas.Bool.{true≢false, lt-ltb, or_parts, or_from, false_from_ne_true}
use Rattle.shunt_base.specs.defs.Spelling.{IsName}
use Rattle.shunt_lists.specs.defs.Members.{AreDistinct}

-- the test of a name
pub by_name : (name other : List ℕ) → bytes_eq other name ≡ true → other ≡ name
by_name name other e = (bytes_eq-Decides other name).0 e

pub same_name : (name other : List ℕ) → other ≡ name → bytes_eq other name ≡ true
same_name name other e = (bytes_eq-Decides other name).1 e

-- where none passes a test that this key passes, each key differs from it
none_such : {X Y : Type 0} (f : X → Y) (test : X → Bool) (xs : List X) (y : Y) → ((x : X) → f x ≡ y → test x ≡ true) → list_any test xs ≡ false → (k : ℕ) (d : Y)
    → k < length (map f xs) → get_or (map f xs) k d ≢ y
none_such f test [] y same e k d lt is = absurd (omega arith)
none_such f test (x ∷ xs) y same e zero d lt is = true≢false (sym (same x is) ∙ (or_parts _ _ e).0)
none_such f test (x ∷ xs) y same e (suc k) d lt is = none_such f test xs y same (or_parts _ _ e).1 k d (omega arith) is

-- one more thing, unlike the others by its key
pub distinct_push : {X Y : Type 0} (f : X → Y) (test : X → Bool) (xs : List X) (y : X) → ((x : X) → f x ≡ f y → test x ≡ true) → AreDistinct (map f xs) → list_any test xs ≡ false
    → AreDistinct (map f (xs ++ y ∷ []))
distinct_push f test xs y same all e = subst AreDistinct (sym (map-append f xs (y ∷ []))) (all_pairs_push (λ m n. m ≢ n) (map f xs) (f y) all (none_such f test xs (f y) same e))

-- one more thing, unlike the others
pub plain_push : {Y : Type 0} (test : Y → Bool) (ys : List Y) (y : Y) → ((x : Y) → x ≡ y → test x ≡ true) → AreDistinct ys → list_any test ys ≡ false → AreDistinct (ys ++ y ∷ [])
plain_push test ys y same all e = subst AreDistinct (map-id (ys ++ y ∷ [])) (distinct_push (λ x. x) test ys y same (subst AreDistinct (sym (map-id ys)) all) e)

-- the one in the middle
in_middle : {X Y : Type 0} (f : X → Y) (xs zs : List X) (y : X) (d : Y) → get_or (map f (xs ++ y ∷ zs)) (length xs) d ≡ f y
in_middle f [] zs y d = refl
in_middle f (x ∷ xs) zs y d = in_middle f xs zs y d

-- of things that keys tell apart none before one of them passes a test that tells it
pub not_before : {X Y : Type 0} (f : X → Y) (test : X → Bool) (xs zs : List X) (y : X) → ((x : X) → test x ≡ true → f x ≡ f y) → AreDistinct (map f (xs ++ y ∷ zs))
    → list_any test xs ≡ false
not_before f test [] zs y tells all = refl
not_before f test (x ∷ xs) zs y tells all =
    or_from (test x) (list_any test xs)
    (false_from_ne_true (test x) (λ e. all 0 (suc (length xs)) (f y) (omega arith) (omega (arith, length-map (xs ++ y ∷ zs) f, length-append xs (y ∷ zs)))
    (tells x e ∙ sym (in_middle f xs zs y (f y)))))
    (not_before f test xs zs y tells (λ i j d lt small. all (suc i) (suc j) d (omega arith) (omega arith)))

-- what is true of each is true of the one in the middle
pub of_middle : {X : Type 0} (P : X → Type 0) (all xs zs : List X) (y : X) → All P all → all ≡ xs ++ y ∷ zs → P y
of_middle {X = X} P all xs zs y h e = at_place xs (subst (All P) e h)
  where
    at_place : (xs : List X) → All P (xs ++ y ∷ zs) → P y
    at_place [] h = h 0 y (omega arith)
    at_place (x ∷ xs) h = at_place xs (λ k d lt. h (suc k) d (omega arith))

-- fewer stand before the one in the middle
pub fewer : {X : Type 0} (all xs zs : List X) (y : X) (most : ℕ) → length all ≤ most → all ≡ xs ++ y ∷ zs → nat_lt (length xs) most ≡ true
fewer all xs zs y most few e = lt-ltb (length xs) most (omega (arith, few, ap length e, length-append xs (y ∷ zs)))

-- the name of the thing at a place
pub name_at : {X : Type 0} (name : X → List ℕ) (xs : List X) (k : ℕ) → All (λ x. IsName (name x)) xs → k < length xs → IsName (get_or (map name xs) k [])
name_at name [] k all lt = absurd (omega arith)
name_at name (x ∷ xs) zero all lt = all 0 x (omega arith)
name_at name (x ∷ xs) (suc k) all lt = name_at name xs k (λ j d le. all (suc j) d (omega arith)) (omega arith)
