-- Stays whose ids are their numbers.
use Rattle.std.proofs.Common.{◌≡◌, ◌≢◌, ℕ, ◌+◌, ◌<◌, List, [], ◌∷◌, ◌++◌, arith}
use Rattle.std.specs.List.{AllByRecursion}
use Rattle.shunt_base.specs.declared.keys.Stay.{Stay}
use Rattle.shunt_base.specs.defs.Keys.{AreStays, IsWellFormed}

abbrev pub AreBelow : ℕ → List Stay → Type 0
AreBelow k stays = AllByRecursion (λ s. s.id < k) stays

other_ids : (s t : Stay) (stays : List Stay) → AllByRecursion (λ u. s.id ≢ u.id) stays → s.id ≢ t.id → AllByRecursion (λ u. s.id ≢ u.id) (stays ++ t ∷ [])
other_ids s t [] all ne = (ne, tt)
other_ids s t (u ∷ stays) all ne = (all.0, other_ids s t stays all.1 ne)

pub below_more : (k : ℕ) (stays : List Stay) (s : Stay) → AreBelow k stays → s.id ≡ k → AreBelow (k + 1) (stays ++ s ∷ [])
below_more k [] s below e = (omega (arith, e), tt)
below_more k (t ∷ stays) s below e = (let b = below.0 in omega arith, below_more k stays s below.1 e)

pub stays_more : (k : ℕ) (stays : List Stay) (s : Stay) → AreStays stays → AreBelow k stays → IsWellFormed s → s.id ≡ k → AreStays (stays ++ s ∷ [])
stays_more k [] s are below formed e = (formed, tt, tt)
stays_more k (t ∷ stays) s are below formed e =
    (are.0, other_ids t s stays are.1 (λ same. let b = below.0 in absurd (omega (arith, same, e))), stays_more k stays s are.2 below.1 formed e)
