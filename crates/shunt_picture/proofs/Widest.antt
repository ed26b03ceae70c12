-- What is wide enough for all of a list.
use Rattle.std.proofs.Common.{◌≡◌, ℕ, ◌+◌, ◌<◌, ◌≤◌, max, sym, List, length, get_or, take, subst, arith}
use Rattle.std.specs.Prelude.{All}
use Rattle.std.proofs.lemmas.List.{take_all}
use Rattle.std.proofs.lemmas.List.Elements.{All-more, All-weaker}
use Rattle.shunt_picture.specs.defs.Svg.{wide}
use Rattle.shunt_picture.specs.defs.PictureTexts.{title_words}

-- one more of them
pub widest_noted : {X : Type 0} (w : X → ℕ) (xs : List X) (i : ℕ) (x : X) (far more : ℕ) → i < length xs → x ≡ get_or xs i x → All (λ y. w y ≤ far) (take i xs)
    → more ≡ max (w x) far → All (λ y. w y ≤ more) (take (i + 1) xs)
widest_noted {X} w xs i x far more lt at all is =
    let enough : w x ≤ more = omega (arith, is) in
    All-more (λ (y : X). w y ≤ more) xs i x lt (All-weaker (λ (y : X). w y ≤ far) (λ (y : X). w y ≤ more) (λ y le. omega (arith, le, is)) (take i xs) all)
    (subst (λ (y : X). w y ≤ more) at enough)

-- no more of them
pub widest_all : {X : Type 0} (w : X → ℕ) (xs : List X) (i far : ℕ) → All (λ y. w y ≤ far) (take i xs) → length xs ≤ i → All (λ y. w y ≤ far) xs
widest_all {X} w xs i far all past = subst (λ (l : List X). All (λ y. w y ≤ far) l) (take_all i xs past) all

-- the title is that of the name's copy
pub title_ended : (w : ℕ) (name copy : List ℕ) (f c s : ℕ) (t : List ℕ) → copy ≡ name → t ≡ title_words name f c s → 6 + wide 9 t ≤ w → 6 + wide 9 (title_words copy f c s) ≤ w
title_ended w name copy f c s t same is le = subst (λ n. 6 + wide 9 (title_words n f c s) ≤ w) (sym same) (subst (λ x. 6 + wide 9 x ≤ w) is le)
