-- The order of events, and stays.
use Rattle.std.specs.Prelude.{◌≡◌, ◌≢◌, ℕ, ◌+◌, ◌*◌, ◌^◌, ◌<◌, cond, true, false, List, [], ◌∷◌}
use Rattle.std.specs.List.{AllByRecursion}
use Rattle.std.specs.Ordering.{nat_cmp, bool_cmp, ordering_then}
use Rattle.std.specs.declared.cmp.Ordering.{Ordering}
use Rattle.std.specs.declared.cmp.Ordering.TheVariants.{Less}
use Rattle.shunt_base.specs.declared.keys.EventKey.{EventKey}
use Rattle.shunt_base.specs.declared.keys.Stay.{Stay}

-- the order of the fields, one after the other
abbrev pub key_cmp : EventKey → EventKey → Ordering
key_cmp k l = ordering_then (nat_cmp k.minute l.minute) (ordering_then (bool_cmp k.enters l.enters)
    (ordering_then (nat_cmp k.train l.train) (ordering_then (nat_cmp k.place l.place) (nat_cmp k.id l.id))))

abbrev pub IsBefore : EventKey → EventKey → Type 0
IsBefore k l = key_cmp k l ≡ Less

-- the fields are in their types' ranges
pub record IsKey (k : EventKey) : Type 0 where
  pub minute : k.minute < 2 ^ 16
  pub train : k.train < 2 ^ 8
  pub place : k.place < 2 ^ 8
  pub id : k.id < 2 ^ 32

-- the fields as one number, which rises with the key
unfoldable pub rank : EventKey → ℕ
rank k = (((k.minute * 2 + cond k.enters 1 0) * 256 + k.train) * 256 + k.place) * 2 ^ 32 + k.id

-- both keys carry the block's id, it enters before it leaves, and the keys, the length and the track are in their types' ranges
pub record IsWellFormed (s : Stay) : Type 0 where
  pub enters : s.enter.enters ≡ true
  pub leaves : s.leave.enters ≡ false
  pub enter_id : s.enter.id ≡ s.id
  pub leave_id : s.leave.id ≡ s.id
  pub later : IsBefore s.enter s.leave
  pub enter_in : IsKey s.enter
  pub leave_in : IsKey s.leave
  pub length_in : s.length < 2 ^ 32
  pub track_in : s.track.0 < 2 ^ 8

-- each stay is well formed, and no two have one id
abbrev pub AreStays : List Stay → Type 0
AreStays [] = Unit {0}
AreStays (s ∷ stays) = IsWellFormed s × AllByRecursion (λ t. s.id ≢ t.id) stays × AreStays stays
