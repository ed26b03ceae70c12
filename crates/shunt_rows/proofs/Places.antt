-- A field by its place.
use Rattle.std.proofs.Common.{◌≡◌, ℕ, zero, suc, ◌<◌, List, [], ◌∷◌, length, get_or, refl, Option, Some, None, arith}
use Rattle.std.specs.Prelude.{slice_get}
use Rattle.csv.specs.Records.{field_at}

pub field_is : (fields : List (List ℕ)) (i : ℕ) → field_at fields i ≡ slice_get fields i
unfolding field_at
field_is [] i = refl
field_is (f ∷ fields) zero = refl
field_is (f ∷ fields) (suc i) = field_is fields i

pub in_reach : (fields : List (List ℕ)) (i : ℕ) → i < length fields → slice_get fields i ≡ None → ⊥
in_reach [] i lt e = absurd (omega arith)
in_reach (f ∷ fields) zero lt e = cc
in_reach (f ∷ fields) (suc i) lt e = in_reach fields i (omega arith) e

pub field_at_is : (fields : List (List ℕ)) (i : ℕ) (f : List ℕ) → Some f ≡ field_at fields i → f ≡ get_or fields i []
unfolding field_at
field_at_is [] i f e = absurd (let g : ◌≡◌ {A = Option (List ℕ)} (Some f) None = e in cc)
field_at_is (g ∷ fields) zero f e = cc
field_at_is (g ∷ fields) (suc i) f e = field_at_is fields i f e
