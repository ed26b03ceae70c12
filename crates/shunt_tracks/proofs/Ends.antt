-- The last block of a track, and loads.
use Rattle.std.proofs.Common.{◌≡◌, ◌≢◌, ℕ, zero, suc, ◌+◌, ◌≤◌, false, cond, List, [], ◌∷◌, length, get_or, take, Some, None, ap, ◌∙◌, arith}
use Rattle.std.specs.Option.{option_map}
use Rattle.std.proofs.lemmas.Bool.{eq-eqb, ne_eqb}
use Rattle.shunt_stays.specs.defs.Events.{Move}
use Rattle.shunt_stays.specs.defs.Run.{Standing, without, without_last, load, left}
use Rattle.shunt_stays.proofs.Steps.{load_kept, leaves_is}
use Rattle.shunt_tracks.specs.declared.blocks.ListedBlock.{ListedBlock}
use Rattle.shunt_tracks.specs.defs.Blocks.{standing, blocks_of}

pub last_taken : (id : ℕ) (blocks : List ListedBlock) (k : ℕ) (d : ListedBlock) → k + 1 ≡ length blocks → (get_or blocks k d).id ≡ id
    → without_last id (blocks_of blocks) ≡ Some (blocks_of (take k blocks))
last_taken id [] k d n e = absurd (omega arith)
last_taken id (b ∷ []) zero d n e = ap (λ t. cond t (Some []) None) (eq-eqb b.id id e)
last_taken id (b ∷ []) (suc k) d n e = absurd (omega arith)
last_taken id (b ∷ c ∷ blocks) zero d n e = absurd (omega arith)
last_taken id (b ∷ c ∷ blocks) (suc k) d n e = ap (option_map (λ (others : List Standing). standing b ∷ others)) (last_taken id (c ∷ blocks) k d (omega arith) e)

pub last_other : (id : ℕ) (blocks : List ListedBlock) (k : ℕ) (d : ListedBlock) → k + 1 ≡ length blocks → (get_or blocks k d).id ≢ id → without_last id (blocks_of blocks) ≡ None
last_other id [] k d n e = absurd (omega arith)
last_other id (b ∷ []) zero d n e = ap (λ t. cond t (Some []) None) (ne_eqb b.id id e)
last_other id (b ∷ []) (suc k) d n e = absurd (omega arith)
last_other id (b ∷ c ∷ blocks) zero d n e = absurd (omega arith)
last_other id (b ∷ c ∷ blocks) (suc k) d n e = ap (option_map (λ (others : List Standing). standing b ∷ others)) (last_other id (c ∷ blocks) k d (omega arith) e)

-- what a leave leaves fits as before
pub load_left : (room : ℕ) (m : Move) (old new : List Standing) → m.key.enters ≡ false → without m.side m.key.id old ≡ Some new → load old ≤ room → load new ≤ room
load_left room m old new e out fit = load_kept room m old new (leaves_is room m old e ∙ ap (left m) out) fit
