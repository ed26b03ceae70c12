-- The events of stays, in the order of their keys.
use Rattle.std.specs.Prelude.{◌≡◌, ◌≢◌, ℕ, Bool, List, [], ◌∷◌, if◌then◌else◌}
use Rattle.std.specs.List.{AllByRecursion, flat_map}
use Rattle.std.specs.Ordering.{is_lt}
use Rattle.shunt_base.specs.declared.ids.Side.{Side}
use Rattle.shunt_base.specs.declared.ids.TrackId.{TrackId}
use Rattle.shunt_base.specs.declared.keys.EventKey.{EventKey}
use Rattle.shunt_base.specs.declared.keys.Stay.{Stay}
use Rattle.shunt_base.specs.defs.Keys.{key_cmp}

-- an event: the block of the key's id enters a track by a side, or leaves it
pub record Move : Type 0 where
  pub key : EventKey
  pub track : TrackId
  pub side : Side
  pub length : ℕ

abbrev pub entry_of : Stay → Move
entry_of s = record { key = s.enter; track = s.track; side = s.side_in; length = s.length }

abbrev pub leave_of : Stay → Move
leave_of s = record { key = s.leave; track = s.track; side = s.side_out; length = s.length }

-- each stay's entry and leave
abbrev pub moves_of : List Stay → List Move
moves_of stays = flat_map (λ s. entry_of s ∷ leave_of s ∷ []) stays

-- whether the first event comes first
abbrev pub key_before : EventKey → EventKey → Bool
key_before k l = is_lt (key_cmp k l)

-- a move among those that are in key order already
abbrev pub insert_by_key : Move → List Move → List Move
insert_by_key m [] = m ∷ []
insert_by_key m (n ∷ moves) = if key_before m.key n.key then m ∷ n ∷ moves else n ∷ insert_by_key m moves

-- the entries and leaves of these stays in key order: each stay's two moves are put among those of the others
abbrev pub in_order : List Stay → List Move
in_order [] = []
in_order (s ∷ stays) = insert_by_key (entry_of s) (insert_by_key (leave_of s) (in_order stays))

-- a key with another id
abbrev pub with_id : ℕ → EventKey → EventKey
with_id id k = record k { id = id }

-- a stay with another id
abbrev pub renamed : ℕ → Stay → Stay
renamed id s = record s { id = id; enter = with_id id s.enter; leave = with_id id s.leave }

-- one stay but for the ids
abbrev pub SameButId : Stay → Stay → Type 0
SameButId s t = t ≡ renamed t.id s

-- neither the entries nor the leaves have one key but for the ids
pub record DifferBeforeId (s t : Stay) : Type 0 where
  pub enter : with_id 0 s.enter ≢ with_id 0 t.enter
  pub leave : with_id 0 s.leave ≢ with_id 0 t.leave

-- no two of these have keys that only the ids tell apart
abbrev pub AllDifferBeforeId : List Stay → Type 0
AllDifferBeforeId [] = Unit {0}
AllDifferBeforeId (s ∷ stays) = AllByRecursion (DifferBeforeId s) stays × AllDifferBeforeId stays
