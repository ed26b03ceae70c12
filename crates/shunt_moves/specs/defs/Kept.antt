-- What is kept beside the present blocks.
use Rattle.std.specs.Prelude.{◌≡◌, ◌≢◌, ℕ, ◌+◌, ◌-◌, ◌<◌, ◌≤◌, ◌==◌, nat_le, nat_lt, Bool, ◌&&◌, cond, All, length, count_by, List, ◌∷◌, Option, Some, None, IfSome, IsPermutation, slice_index_or}
use Rattle.std.specs.List.{AllByRecursion}
use Rattle.shunt_lists.specs.defs.Below.{count_below}
use Rattle.shunt_base.specs.declared.keys.Stay.{Stay}
use Rattle.shunt_instance.specs.defs.Instance.{Night, unit_total, position_total}
use Rattle.shunt_blocks.specs.declared.records.Block.{Block}
use Rattle.shunt_blocks.specs.defs.Shapes.{shape_of, IsInRange}
use Rattle.shunt_blocks.specs.defs.Blocks.{type_fault}
use Rattle.shunt_blocks.specs.defs.Costs.{block_cost}
use Rattle.shunt_blocks.specs.defs.Stays.{is_too_soon}
use Rattle.shunt_blocks.specs.defs.Lists.{times_unit, times_position, track_lengths, stays_of, total_cost}
use Rattle.shunt_timeline.specs.defs.Holdings.{Holding}
use Rattle.shunt_audit.specs.defs.Listed.{lacks_way_in, lacks_way_out}
use Rattle.shunt_moves.specs.declared.faults.Faults.{Faults}
use Rattle.shunt_moves.specs.defs.States.{State, Ascend}

-- for each unit, or each position, in how many blocks it is, and how many of them there are
pub record Times : Type 0 where
  pub times : List ℕ
  pub total : ℕ

-- in how many blocks one is
abbrev pub at : List ℕ → ℕ → ℕ
at times u = slice_index_or times u 0

-- whether a number is one of n from a first one on
abbrev pub is_within : ℕ → ℕ → ℕ → Bool
is_within from n u = nat_le from u && nat_lt u (from + n)

-- how many are in none, and how many in two or more
pub record IsCounted (times : List ℕ) (total bare twice : ℕ) : Type 0 where
  pub few : total ≤ 160
  pub bare_are : bare ≡ count_below total (λ u. at times u == 0)
  pub twice_are : twice ≡ count_below total (λ u. nat_le 2 (at times u))

-- what is wrong with blocks one by one, and what they cost
abbrev pub faults_of : Night → List Block → Faults
faults_of night blocks = record {
  wrong_type = count_by (type_fault night) blocks;
  too_soon = count_by (λ b. is_too_soon night (shape_of b)) blocks;
  no_route_in = count_by (lacks_way_in night) blocks;
  no_route_out = count_by (lacks_way_out night) blocks;
  cost = total_cost night blocks;
}

-- the same of one block
abbrev pub own_faults : Night → Block → Faults
own_faults night b = record {
  wrong_type = cond (type_fault night b) 1 0;
  too_soon = cond (is_too_soon night (shape_of b)) 1 0;
  no_route_in = cond (lacks_way_in night b) 1 0;
  no_route_out = cond (lacks_way_out night b) 1 0;
  cost = block_cost night b;
}

-- those of both
abbrev pub plus : Faults → Faults → Faults
plus f g = record {
  wrong_type = f.wrong_type + g.wrong_type;
  too_soon = f.too_soon + g.too_soon;
  no_route_in = f.no_route_in + g.no_route_in;
  no_route_out = f.no_route_out + g.no_route_out;
  cost = f.cost + g.cost;
}

-- those of the first without those of the second
abbrev pub less : Faults → Faults → Faults
less f g = record {
  wrong_type = f.wrong_type - g.wrong_type;
  too_soon = f.too_soon - g.too_soon;
  no_route_in = f.no_route_in - g.no_route_in;
  no_route_out = f.no_route_out - g.no_route_out;
  cost = f.cost - g.cost;
}

-- those of at most 400 blocks
pub record IsSmall (f : Faults) : Type 0 where
  pub wrong_type : f.wrong_type ≤ 400
  pub too_soon : f.too_soon ≤ 400
  pub no_route_in : f.no_route_in ≤ 400
  pub no_route_out : f.no_route_out ≤ 400
  pub cost : f.cost ≤ 1600000000

-- a state in its night
pub record Standing : Type 0 where
  pub night : Night
  pub state : State

-- the blocks ascend in range, their stays are on the timelines, which have room for 400, and each unit, each position and each fault is counted
pub record IsKeptState (night : Night) (blocks : List Block) (held : Holding) (units places : Times) (faults : Faults) : Type 0 where
  pub ascend : Ascend blocks
  pub each : All (IsInRange night) blocks
  pub few : length blocks ≤ 400
  pub stays : IsPermutation (stays_of night blocks) held.stays
  pub lengths : held.lengths ≡ track_lengths night.station
  pub room : 400 ≤ held.spare + length held.stays
  pub unit_count : units.total ≡ unit_total night
  pub each_unit : (u : ℕ) → u < unit_total night → at units.times u ≡ times_unit night blocks u
  pub place_count : places.total ≡ position_total night
  pub each_place : (v : ℕ) → v < position_total night → at places.times v ≡ times_position night blocks v
  pub faults_are : faults ≡ faults_of night blocks
  pub cheap : AllByRecursion (λ b. block_cost night b ≤ 4000000) blocks

-- how timelines change as a stay comes, where there is one
abbrev pub Comes : Option Stay → Holding → Holding → Type 0
Comes None before after = after ≡ before
Comes (Some t) before after = IsPermutation (t ∷ before.stays) after.stays × (length after.stays ≡ length before.stays + 1) × (after.lengths ≡ before.lengths)
    × (after.spare + 1 ≡ before.spare)

-- how they change as the stay of an id is taken away
pub record Removed (id : ℕ) (gone : Option Stay) (before after : Holding) : Type 0 where
  pub some : IfSome gone (λ u. (u.id ≡ id) × IsPermutation (u ∷ after.stays) before.stays × (after.spare ≡ before.spare + 1))
  pub none : gone ≡ None → All (λ s. s.id ≢ id) before.stays
  pub track_lengths : after.lengths ≡ before.lengths

-- how they change as a block with an id goes, where it has a stay
abbrev pub Goes : ℕ → Option Stay → Holding → Holding → Type 0
Goes id None before after = after ≡ before
Goes id (Some t) before after = (gone : Option Stay) × Removed id gone before after
