-- Texts that are put together entry by entry.
use Rattle.std.proofs.Common.{◌≡◌, ℕ, ◌+◌, ◌<◌, List, ◌++◌, length, get_or, drop, refl, sym, ap, ◌∙◌}
use Rattle.std.specs.List.{flat_map}
use Rattle.std.proofs.lemmas.List.{append_assoc, drop_more}
use Rattle.shunt_picture.specs.defs.Words.{each_from}
use Rattle.shunt_lists.proofs.Lists.{lines_more as one_more}

-- the same, where it is told which one it is
pub one_item : {X : Type 0} (line : X → List ℕ) (xs : List X) (i : ℕ) (x : X) (text more : List ℕ) → i < length xs → x ≡ get_or xs i x → more ≡ text ++ line x
    → more ++ flat_map line (drop (i + 1) xs) ≡ text ++ flat_map line (drop i xs)
one_item line xs i x text more lt at push = one_more line xs i x text more lt (push ∙ ap (λ y. text ++ line y) at)

-- the same by numbers
pub one_entry : {X : Type 0} (line : ℕ → X → List ℕ) (xs : List X) (i : ℕ) (x d : X) (text more : List ℕ) → i < length xs → x ≡ get_or xs i d → more ≡ text ++ line i x
    → more ++ each_from line (i + 1) (drop (i + 1) xs) ≡ text ++ each_from line i (drop i xs)
one_entry line xs i x d text more lt at push =
    let rest = each_from line (i + 1) (drop (i + 1) xs) in
    ap (λ t. t ++ rest) (push ∙ ap (λ y. text ++ line i y) at) ∙ append_assoc text (line i (get_or xs i d)) rest
    ∙ ap (λ t. text ++ t) (sym (ap (each_from line i) (drop_more xs i d lt)))

-- and where it is the one with this number
pub one_number : {X : Type 0} (line : ℕ → X → List ℕ) (xs : List X) (i : ℕ) (d : X) (text more : List ℕ) → i < length xs → more ≡ text ++ line i (get_or xs i d)
    → more ++ each_from line (i + 1) (drop (i + 1) xs) ≡ text ++ each_from line i (drop i xs)
one_number line xs i d text more lt push = one_entry line xs i (get_or xs i d) d text more lt refl push
