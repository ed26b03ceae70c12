-- Records that were written in sections are read section by section.
use Rattle.std.proofs.Common.{◌≡◌, ℕ, ◌+◌, true, List, [], ◌∷◌, ◌++◌, length, map, refl, sym, ap, ◌∙◌}
use Rattle.std.specs.Prelude.{Ok}
use Rattle.std.proofs.lemmas.List.{append-nil, append_assoc}
use Rattle.std.proofs.lemmas.Bool.{cond-true}
use Rattle.shunt_rows.specs.defs.Checks.{answer}
use Rattle.shunt_rows.specs.defs.Formats.{Format, in_state, IsReadByEach, ends, reads, reading, ◌>>=◌}
use Rattle.shunt_rows.proofs.Joins.{reads_more, reading_is}

-- a list of things is read from its records, where each of them adds its own behind those before it
pub section : {X S V : Type 0} (f : Format S V) (row : X → List (List ℕ)) (state : List X → S) (all : List X)
    → IsReadByEach f row state all
    → (n : ℕ) (xs ys : List X) → all ≡ xs ++ ys → reads f (state xs) n (map row ys) ≡ Ok (state all)
section f row state all step n xs [] e = ap (λ l. Ok (state l)) (sym (e ∙ append-nil xs))
section f row state all step n xs (y ∷ ys) e =
    ap (λ r. r >>= (λ t. reads f t (n + 1) (map row ys))) (step n xs y ys e)
    ∙ section f row state all step (n + 1) (xs ++ y ∷ []) ys (e ∙ sym (append_assoc xs (y ∷ []) ys))

-- and then what follows
pub then_reads : {S V : Type 0} (f : Format S V) (s t u : S) (n : ℕ) (rows more : List (List (List ℕ))) → reads f s n rows ≡ Ok t → ((k : ℕ) → reads f t k more ≡ Ok u)
    → reads f s n (rows ++ more) ≡ Ok u
then_reads f s t u n rows more e h =
    reads_more f s n rows more ∙ ap (λ r. r >>= (λ v. reads f v (n + length rows) more)) e ∙ h (n + length rows)

-- a list of things, and then what follows
pub section_then : {X S V : Type 0} (f : Format S V) (row : X → List (List ℕ)) (state : List X → S) (all : List X) (u : S) (more : List (List (List ℕ)))
    → IsReadByEach f row state all
    → ((k : ℕ) → reads f (state all) k more ≡ Ok u) → (n : ℕ) → reads f (state []) n (map row all ++ more) ≡ Ok u
section_then f row state all u more step rest n = then_reads f (state []) (state all) u n (map row all) more (section f row state all step n [] all refl) rest

-- the last record
pub one_reads : {S V : Type 0} (f : Format S V) (s t : S) (n : ℕ) (row : List (List ℕ)) → answer n (in_state f s row) ≡ Ok t → reads f s n (row ∷ []) ≡ Ok t
one_reads f s t n row e = ap (λ r. r >>= (λ v. reads f v (n + 1) [])) e

-- the first record and those behind it state a value, where no more is needed behind them
pub all_read : {S V : Type 0} (f : Format S V) (head : List (List ℕ)) (rows : List (List (List ℕ))) (s t : S) → answer 1 (f.first head) ≡ Ok s → reads f s 2 rows ≡ Ok t
    → f.is_whole t ≡ true → reading f (head ∷ rows) ≡ Ok (f.value t)
all_read f head rows s t first rest whole =
    reading_is f head rows
    ∙ ap (λ r. r >>= (λ d. reads f d 2 rows >>= (λ u. ends f u (length rows + 2)))) first
    ∙ ap (λ r. r >>= (λ u. ends f u (length rows + 2))) rest
    ∙ cond-true (f.is_whole t) _ _ whole
