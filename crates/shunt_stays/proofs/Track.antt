-- One track: its halves are done one after the other, over the list of the stays that stand there.
use Rattle.std.proofs.Common.{◌≡◌, ◌≢◌, ◌⊎◌, ℕ, ◌<◌, ◌≤◌, leb, ltb, Bool, true, false, ◌&&◌, List, [], ◌∷◌, sum_by}
use Rattle.shunt_lists.proofs.Sums.{some_of}
use Rattle.shunt_base.specs.declared.keys.Stay.{Stay}
use Rattle.shunt_base.specs.defs.Keys.{rank}
use Rattle.shunt_stays.specs.defs.Run.{put}
use Rattle.shunt_stays.proofs.Halves.{Half}

abbrev pub length_of : Stay → ℕ
length_of s = s.length

abbrev pub total : List Stay → ℕ
total standing = sum_by length_of standing

-- an entry puts a stay at a side, where there is room for it; a leave needs it at its side, and takes it away
abbrev pub GoesOn : ℕ → List Half → List Stay → Type 0
GoesOn room [] standing = Unit {0}
GoesOn room ((s, true) ∷ halves) standing = (total (put s.side_in s standing) ≤ room) × GoesOn room halves (put s.side_in s standing)
GoesOn room ((s, false) ∷ halves) standing = (rest : List Stay) × (standing ≡ put s.side_out s rest) × GoesOn room halves rest

-- c comes while b stands there, and one is in the other's way
pub record Meets (b c : Stay) : Type 0 where
  pub after : rank b.enter < rank c.enter
  pub during : rank c.enter < rank b.leave
  pub blocked : ((rank c.leave < rank b.leave) × (c.side_out ≢ c.side_in)) ⊎ ((rank b.leave < rank c.leave) × (b.side_out ≡ c.side_in))

-- s stands there just after this moment
abbrev pub stands_by : ℕ → Stay → Bool
stands_by moment s = leb (rank s.enter) moment && ltb moment (rank s.leave)

abbrev pub total_at : List Stay → ℕ → ℕ
total_at stays moment = sum_by (some_of length_of (stands_by moment)) stays
