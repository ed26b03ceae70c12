-- Names that an index set numbers are found where they stand in their list.
use Rattle.std.proofs.Common.{◌≡◌, ◌≢◌, ℕ, zero, suc, ◌<◌, take, drop, get_or, subst, arith, ◌+◌, Bool, true, false, not, cond, ◌||◌, ◌↔◌, List, [], ◌∷◌, ◌++◌, length, map, refl, sym, ap, ◌∙◌, Bor}
use Rattle.std.specs.Prelude.{AllPairs, bytes_eq, nat_eq, nat_lt, Some, None, position}
use Rattle.std.specs.List.{list_any, position_or_len}
use Rattle.std.specs.Cmp.Lexicographic.{pointwise}
use Rattle.shunt_rows.proofs.Named.{by_name, not_before}
use Rattle.shunt_rows.specs.declared.fault.RowKind.TheVariants as kinds
use Rattle.shunt_rows.specs.defs.Records.{at}
use Rattle.shunt_rows.specs.defs.Checks.{answer, found}
use Rattle.shunt_rows.specs.defs.Fields.{known_in, named_in}
use Rattle.std.proofs.lemmas.List.{length-map, map-append}
use Rattle.std.proofs.lemmas.Bool.{cond-false}
use Rattle.std.proofs.lemmas.Bool.Decides.{Decides-eqb}
use Rattle.std.proofs.lemmas.Slice.Eq.{bytes_eq-Decides, slice_eq-Decides}

-- tests that decide one thing are one
one_test : (a b : Bool) (P Q : Type 0) → ((a ≡ true) ↔ P) → ((b ≡ true) ↔ Q) → (P → Q) → (Q → P) → a ≡ b
one_test true true P Q d e f g = refl
one_test true false P Q d e f g = sym (e.1 (f (d.0 refl)))
one_test false true P Q d e f g = d.1 (g (e.0 refl))
one_test false false P Q d e f g = refl

by_bytes : (q k : List ℕ) → pointwise nat_eq q k ≡ bytes_eq k q
by_bytes q k =
    let d = slice_eq-Decides Decides-eqb q k (pointwise nat_eq q k) refl in
    let e = bytes_eq-Decides k q in
    one_test _ _ (q ≡ k) (k ≡ q) d e sym sym

or_len_is : (p : List ℕ → Bool) (q : Bor (List ℕ) → Bool) → ((k : Bor (List ℕ)) → q k ≡ p k.now) → (keys : List (Bor (List ℕ)))
    → position_or_len q keys ≡ position_or_len p (map (λ k. k.now) keys)
or_len_is p q h [] = refl
or_len_is p q h (k ∷ keys) = ap (λ b. cond (not b) (1 + position_or_len q keys) 0) (h k) ∙ ap (λ n. cond (not (p k.now)) (1 + n) 0) (or_len_is p q h keys)

pub place_is : (q : List ℕ) (keys : List (Bor (List ℕ))) → position (λ k. pointwise nat_eq q k.now) keys ≡ position (λ n. bytes_eq n q) (map (λ k. k.now) keys)
place_is q keys =
    let place = position_or_len (λ n. bytes_eq n q) (map (λ k. k.now) keys) in
    ap (λ n. cond (nat_lt n (length keys)) (Some n) None) (or_len_is (λ n. bytes_eq n q) (λ k. pointwise nat_eq q k.now) (λ k. by_bytes q k.now) keys)
    ∙ ap (λ m. cond (nat_lt place m) (Some place) None) (sym (length-map keys (λ k. k.now)))

pub any_is : (q : List ℕ) (keys : List (Bor (List ℕ))) → list_any (λ k. pointwise nat_eq q k.now) keys ≡ list_any (λ n. bytes_eq n q) (map (λ k. k.now) keys)
any_is q [] = refl
any_is q (k ∷ keys) = ap (λ b. b || list_any (λ k. pointwise nat_eq q k.now) keys) (by_bytes q k.now) ∙ ap (λ b. bytes_eq k.now q || b) (any_is q keys)

-- a new name goes last
pub name_added : (k : Bor (List ℕ)) (keys new : List (Bor (List ℕ))) (names : List (List ℕ)) → map (λ k. k.now) keys ≡ names → list_any (λ n. bytes_eq n k.now) names ≡ false
    → new ≡ cond (list_any (λ x. pointwise nat_eq k.now x.now) keys) keys (keys ++ k ∷ []) → map (λ k. k.now) new ≡ names ++ k.now ∷ []
name_added k keys new names is none e =
    let fresh = any_is k.now keys ∙ ap (list_any (λ n. bytes_eq n k.now)) is ∙ none in
    ap (map (λ k. k.now)) (e ∙ cond-false _ _ _ fresh) ∙ map-append (λ k. k.now) keys (k ∷ []) ∙ ap (λ l. l ++ k.now ∷ []) is

-- a thing is found by its name
pub any_named : {X : Type 0} (f : X → List ℕ) (p : List ℕ → Bool) (xs : List X) → list_any p (map f xs) ≡ list_any (λ x. p (f x)) xs
any_named f p [] = refl
any_named f p (x ∷ xs) = ap (λ b. p (f x) || b) (any_named f p xs)

or_len_named : {X : Type 0} (f : X → List ℕ) (p : List ℕ → Bool) (xs : List X) → position_or_len p (map f xs) ≡ position_or_len (λ x. p (f x)) xs
or_len_named f p [] = refl
or_len_named f p (x ∷ xs) = ap (λ n. cond (not (p (f x))) (1 + n) 0) (or_len_named f p xs)

pub place_named : {X : Type 0} (f : X → List ℕ) (p : List ℕ → Bool) (xs : List X) → position p (map f xs) ≡ position (λ x. p (f x)) xs
place_named f p xs =
    let place = position_or_len (λ x. p (f x)) xs in
    ap (λ n. cond (nat_lt n (length (map f xs))) (Some n) None) (or_len_named f p xs) ∙ ap (λ m. cond (nat_lt place m) (Some place) None) (length-map xs f)

pub has_named : {X : Type 0} (f : X → List ℕ) (q : List ℕ) (names : List (List ℕ)) (inside things : List X) → names ≡ map f inside → inside ≡ things
    → list_any (λ n. bytes_eq n q) names ≡ list_any (λ t. bytes_eq (f t) q) things
has_named f q names inside things are is =
    ap (list_any (λ n. bytes_eq n q)) are ∙ any_named f (λ n. bytes_eq n q) inside ∙ ap (list_any (λ t. bytes_eq (f t) q)) is

pub known_named : {X : Type 0} (f : X → List ℕ) (n : ℕ) (row : List (List ℕ)) (k : ℕ) (names : List (List ℕ)) (inside things : List X) → names ≡ map f inside → inside ≡ things
    → answer n (known_in row k names) ≡ answer n (named_in f things row k)
known_named f n row k names inside things are is =
    ap (λ l. answer n (known_in row k l)) are
    ∙ ap (λ o. answer n (found 0 o k kinds.Unknown)) (place_named f (λ m. bytes_eq m (at row k)) inside)
    ∙ ap (λ l. answer n (named_in f l row k)) is

pub number_named : {X : Type 0} (f : X → List ℕ) (q : List ℕ) (names : List (List ℕ)) (inside things : List X) → names ≡ map f inside → inside ≡ things
    → position (λ n. bytes_eq n q) names ≡ position (λ t. bytes_eq (f t) q) things
number_named f q names inside things are is =
    ap (position (λ n. bytes_eq n q)) are ∙ place_named f (λ n. bytes_eq n q) inside ∙ ap (position (λ t. bytes_eq (f t) q)) is

parted : {X : Type 0} (xs : List X) (i : ℕ) (d : X) → i < length xs → xs ≡ take i xs ++ get_or xs i d ∷ drop (suc i) xs
parted [] i d lt = absurd (omega arith)
parted (x ∷ xs) zero d lt = refl
parted (x ∷ xs) (suc i) d lt = ap (λ l. x ∷ l) (parted xs i d (omega arith))

-- of things with distinct names none before one has its name
pub not_among : {X : Type 0} (f : X → List ℕ) (xs : List X) (i : ℕ) (y : X) (names : List (List ℕ)) (q : List ℕ) → AllPairs (λ m n. m ≢ n) (map f xs) → i < length xs
    → y ≡ get_or xs i y → q ≡ f y → names ≡ map f (take i xs)
    → list_any (λ n. bytes_eq n q) names ≡ false
not_among f xs i y names q apart lt at is are =
    let split : xs ≡ take i xs ++ y ∷ drop (suc i) xs = parted xs i y lt ∙ ap (λ z. take i xs ++ z ∷ drop (suc i) xs) (sym at) in
    ap (list_any (λ n. bytes_eq n q)) are
    ∙ ap (λ r. list_any (λ n. bytes_eq n r) (map f (take i xs))) is
    ∙ any_named f (λ n. bytes_eq n (f y)) (take i xs)
    ∙ not_before f (λ x. bytes_eq (f x) (f y)) (take i xs) (drop (suc i) xs) y (λ x. by_name (f y) (f x)) (subst (λ l. AllPairs (λ m n. m ≢ n) (map f l)) split apart)
