-- Stays in each other's way, and the lengths of those that stand together.
use Rattle.std.specs.Prelude.{◌≡◌, ◌≢◌, ◌⊎◌, ℕ, ◌≤◌, ◌==◌, nat_lt, Bool, not, ◌&&◌, ◌||◌, sum_by, count_by, slice_index, List, if◌then◌else◌}
use Rattle.std.specs.Ordering.{is_le}
use Rattle.shunt_base.specs.defs.Sides.{same_side}
use Rattle.shunt_lists.specs.defs.Members.{In}
use Rattle.shunt_base.specs.declared.keys.EventKey.{EventKey}
use Rattle.shunt_base.specs.declared.keys.Stay.{Stay}
use Rattle.shunt_base.specs.defs.Keys.{key_cmp, IsBefore}
use Rattle.shunt_stays.specs.defs.Events.{key_before}

-- c enters a track while b stands there, and the one that leaves first has the other in its way
pub record Crosses (b c : Stay) : Type 0 where
  pub track : b.track.0 ≡ c.track.0
  pub after : IsBefore b.enter c.enter
  pub during : IsBefore c.enter b.leave
  pub blocked : (IsBefore c.leave b.leave × (c.side_out ≢ c.side_in)) ⊎ (IsBefore b.leave c.leave × (b.side_out ≡ c.side_in))

-- the one of these two that leaves first has the other in its way
abbrev pub in_the_way : Stay → Stay → Bool
in_the_way b c = (key_before c.leave b.leave && not (same_side c.side_out c.side_in)) || (key_before b.leave c.leave && same_side b.side_out c.side_in)

-- whether `Crosses` holds
abbrev pub crosses : Stay → Stay → Bool
crosses b c = (b.track.0 == c.track.0) && (key_before b.enter c.enter && (key_before c.enter b.leave && in_the_way b c))

-- a stay stands on a track just after the moment of a key
abbrev pub stands_at : ℕ → EventKey → Stay → Bool
stands_at track moment s = (s.track.0 == track) && (is_le (key_cmp s.enter moment) && key_before moment s.leave)

-- the lengths of the stays that do, added up
abbrev pub load_at : List Stay → ℕ → EventKey → ℕ
load_at stays track moment = sum_by (λ s. if stands_at track moment s then s.length else 0) stays

-- the lengths on b's track just after b's entry
abbrev pub load_after : List Stay → Stay → ℕ
load_after stays b = load_at stays b.track.0 b.enter

abbrev pub NoneCross : List Stay → Type 0
NoneCross stays = (b c : Stay) → In b stays → In c stays → Crosses b c → ⊥

-- no entry leaves more than its track's length
abbrev pub NoneOver : List ℕ → List Stay → Type 0
NoneOver lengths stays = (b : Stay) → In b stays → load_after stays b ≤ slice_index lengths b.track.0

-- how many pairs cross, each by its first to enter
abbrev pub pairs_in : List Stay → ℕ
pairs_in stays = sum_by (λ b. count_by (crosses b) stays) stays

-- how many entries leave more than their track's length
abbrev pub overs_in : List ℕ → List Stay → ℕ
overs_in lengths stays = count_by (λ b. nat_lt (slice_index lengths b.track.0) (load_after stays b)) stays
