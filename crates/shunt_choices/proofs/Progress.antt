-- An iterator that takes the first of a list of what is left comes nearer to its end.
use Rattle.std.specs.Prelude.{Some}
use Rattle.std.specs.Iterator.{MakesProgress, at_most}
use Rattle.std.proofs.Common.{◌≡◌, List, ◌∷◌, ◌<◌, length, ap, arith}

pub progress : {X : Type 0} (s t : List X) (x : X) → s ≡ x ∷ t → MakesProgress (λ l. Unit {0}) (λ (l : List X). at_most (length l)) s (Some x) t
progress s t x e = record { on = λ _. (tt, tt, let shorter : length t < length s = omega (arith, ap (λ (l : List _). length l) e) in shorter); keeps = tt; rests = λ _. tt }
