-- Texts that are put together piece by piece, where a tactic doesn't see it.
use Rattle.std.proofs.Common.{◌≡◌, ℕ, List, ◌++◌, ap, ◌∙◌}
use Rattle.std.proofs.lemmas.List.{append_assoc}

-- a piece before the others
pub add : (old mid new piece rest : List ℕ) → mid ≡ old ++ piece → new ≡ mid ++ rest → new ≡ old ++ (piece ++ rest)
add old mid new piece rest first others = others ∙ ap (λ (t : List ℕ). t ++ rest) first ∙ append_assoc old piece rest
