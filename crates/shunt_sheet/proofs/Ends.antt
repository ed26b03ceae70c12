-- The last block of a track.
use Rattle.std.proofs.Common.{◌≡◌, ◌≢◌, ℕ, zero, suc, ◌+◌, cond, List, [], ◌∷◌, length, get_or, take, Some, None, ap, arith}
use Rattle.std.specs.Option.{option_map}
use Rattle.std.proofs.lemmas.Bool.{eq-eqb, ne_eqb}
use Rattle.shunt_stays.specs.defs.Run.{Standing, without_last}
use Rattle.shunt_sheet.specs.declared.tracks.Parked.{Parked}
use Rattle.shunt_sheet.specs.defs.Tracks.{standing, blocks_of}

pub last_taken : (id : ℕ) (blocks : List Parked) (k : ℕ) (d : Parked) → k + 1 ≡ length blocks → (get_or blocks k d).id ≡ id
    → without_last id (blocks_of blocks) ≡ Some (blocks_of (take k blocks))
last_taken id [] k d n e = absurd (omega arith)
last_taken id (b ∷ []) zero d n e = ap (λ t. cond t (Some []) None) (eq-eqb b.id id e)
last_taken id (b ∷ []) (suc k) d n e = absurd (omega arith)
last_taken id (b ∷ c ∷ blocks) zero d n e = absurd (omega arith)
last_taken id (b ∷ c ∷ blocks) (suc k) d n e = ap (option_map (λ (others : List Standing). standing b ∷ others)) (last_taken id (c ∷ blocks) k d (omega arith) e)

pub last_other : (id : ℕ) (blocks : List Parked) (k : ℕ) (d : Parked) → k + 1 ≡ length blocks → (get_or blocks k d).id ≢ id → without_last id (blocks_of blocks) ≡ None
last_other id [] k d n e = absurd (omega arith)
last_other id (b ∷ []) zero d n e = ap (λ t. cond t (Some []) None) (ne_eqb b.id id e)
last_other id (b ∷ []) (suc k) d n e = absurd (omega arith)
last_other id (b ∷ c ∷ blocks) zero d n e = absurd (omega arith)
last_other id (b ∷ c ∷ blocks) (suc k) d n e = ap (option_map (λ (others : List Standing). standing b ∷ others)) (last_other id (c ∷ blocks) k d (omega arith) e)
