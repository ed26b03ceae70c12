-- Lists of one or a few elements, and lists that are read from the front.
use Rattle.std.proofs.Common.{◌≡◌, suc, List, [], ◌∷◌, ◌++◌, refl, ap, arith, ℕ, Bool, false, length, get_or, ◌<◌, ◌≤◌, true, sym, ◌∙◌, zero, ◌+◌, drop, take, subst}
use Rattle.std.proofs.lemmas.List.Elements.{All-cons, All-nil}
use Rattle.std.specs.Prelude.{All, AllPairs, position, None, map, not, slice_index_or, ◌==◌, if◌then◌else◌}
use Rattle.std.specs.List.{AllByRecursion, position_or_len, range_with_len, flat_map}
use Rattle.std.proofs.lemmas.Grind.{common_steps}
use Rattle.std.proofs.lemmas.List.Sums.{fails_before_first}
use Rattle.std.proofs.lemmas.Bool.Decides.{nat_tests}
use Rattle.std.proofs.lemmas.List.FromFn.{get_or-map-range_with_len}
use Rattle.std.proofs.lemmas.List.{append_assoc, drop_more, take_all}
use Rattle.std.proofs.lemmas.List.Concat.{flat_map-cons}

pub all_one : {X : Type 0} (P : X → Type 0) (x : X) → P x → All P (x ∷ [])
all_one P x p = All-cons P x [] p (All-nil P)

-- by places and by recursion
pub by_places : {X : Type 0} (P Q : X → Type 0) (xs : List X) → ((x : X) → P x → Q x) → All P xs → AllByRecursion Q xs
by_places P Q [] h all = tt
by_places P Q (x ∷ xs) h all = (h x (all 0 x (omega arith)), by_places P Q xs h (λ k d lt. all (suc k) d (omega arith)))

pub no_pairs : {X : Type 0} (R : X → X → Type 0) → AllPairs R []
no_pairs R i j d le lt = absurd (omega arith)

pub append_one : {X : Type 0} (xs : List X) (x : X) (ys : List X) → xs ++ x ∷ ys ≡ (xs ++ x ∷ []) ++ ys
append_one [] x ys = refl
append_one {X} (y ∷ xs) x ys = ap (λ (l : List X). y ∷ l) (append_one xs x ys)

pub none_passes : {X : Type 0} (p : X → Bool) (xs : List X) (k : ℕ) (d : X) → position p xs ≡ None → k < length xs → p (get_or xs k d) ≡ false
none_passes p xs k d e lt =
    let past : length xs ≤ position_or_len p xs = grind (arith, common_steps) in
    fails_before_first p xs k d (omega (arith, past, lt))

pub map_same : {X Y : Type 0} (f g : X → Y) (xs : List X) → ((x : X) → f x ≡ g x) → map f xs ≡ map g xs
map_same f g [] h = refl
map_same f g (x ∷ xs) h = let one = h x in let rest = map_same f g xs h in cc

pub count_some : (count : ℕ → ℕ) (total i : ℕ) (d : Bool) → i < total → slice_index_or (map (λ k. not (count k == 0)) (range_with_len 0 total)) i d ≡ true → 1 ≤ count i
count_some count total i d lt e =
    let at = get_or-map-range_with_len (λ k. not (count k == 0)) 0 total i i d lt (omega arith) in
    some (count i) (sym at ∙ e)
  where
    some : (n : ℕ) → not (n == 0) ≡ true → 1 ≤ n
    some n h = grind (arith, nat_tests)

pub range_more_to : (a n j : ℕ) → a + n ≡ j → range_with_len a (suc n) ≡ range_with_len a n ++ j ∷ []
range_more_to a zero j e = let same : a ≡ j = omega arith in ap (λ (x : ℕ). x ∷ []) same
range_more_to a (suc n) j e = ap (λ (xs : List ℕ). a ∷ xs) (range_more_to (a + 1) n j (omega arith))

pub append_nothing : {X : Type 0} (xs : List X) → xs ≡ xs ++ []
append_nothing [] = refl
append_nothing (x ∷ xs) = ap (λ l. x ∷ l) (append_nothing xs)

-- the text of one more of these
pub lines_more : {X : Type 0} (line : X → List ℕ) (xs : List X) (i : ℕ) (d : X) (text more : List ℕ) → i < length xs → more ≡ text ++ line (get_or xs i d)
    → more ++ flat_map line (drop (i + 1) xs) ≡ text ++ flat_map line (drop i xs)
lines_more line xs i d text more lt push =
    let rest = flat_map line (drop (i + 1) xs) in
    ap (λ t. t ++ rest) push ∙ append_assoc text (line (get_or xs i d)) rest
    ∙ ap (λ t. text ++ t) (sym (ap (flat_map line) (drop_more xs i d lt) ∙ flat_map-cons line (get_or xs i d) (drop (i + 1) xs)))

pub each_whole : {X : Type 0} (P : X → Type 0) (xs : List X) (i : ℕ) → length xs ≤ i → All P (take i xs) → All P xs
each_whole P xs i le all = subst (All P) (take_all i xs le) all

pub either_long : {X : Type 0} (b : Bool) (xs ys : List X) (n : ℕ) → length xs ≡ n → length ys ≡ n → length (if b then xs else ys) ≡ n
either_long true xs ys n e f = e
either_long false xs ys n e f = f

-- what holds of two things holds of what is equal to them
pub moved_both : {X Y : Type 0} (P : X → Y → Type 0) (a : X) (b : Y) (x : X) (y : Y) → x ≡ a → y ≡ b → P a b → P x y
moved_both {X = X} P a b x y e f h = subst (λ (z : X). P z y) (sym e) (subst (P a) (sym f) h)
