-- Edits of a state: when they are refused, and what they make.
use Rattle.std.specs.Prelude.{ℕ, ◌+◌, ◌-◌, ◌==◌, nat_le, nat_lt, Bool, true, false, not, ◌&&◌, ◌||◌, is_some, length, List, [], ◌∷◌, ◌++◌, Option, Some, None, Result, Ok, Err, if◌then◌else◌}
use Rattle.shunt_instance.specs.defs.Words.{train_at}
use Rattle.shunt_instance.specs.defs.Instance.{Night}
use Rattle.shunt_instance.specs.declared.records.Station.{Station}
use Rattle.shunt_blocks.specs.declared.records.Shape.{Shape}
use Rattle.shunt_blocks.specs.declared.records.Block.{Block}
use Rattle.shunt_blocks.specs.declared.records.Park.{Park}
use Rattle.shunt_plan.specs.declared.edits.Edit.{Edit}
use Rattle.shunt_plan.specs.declared.edits.Edit.TheVariants as edits
use Rattle.shunt_moves.specs.declared.types.MoveError.{MoveError}
use Rattle.shunt_moves.specs.declared.types.MoveError.TheVariants as errors
use Rattle.shunt_moves.specs.defs.States.{State, block_with, without_block, changed}

-- ---- the tests of the refusals

-- no block has this id
abbrev pub lacks : List Block → ℕ → Bool
lacks blocks id = not (is_some (block_with blocks id))

-- an id that the edit names isn't there
unfoldable pub names_no_block : List Block → Edit → Bool
names_no_block blocks (edits.Add arr p n dep q park) = false
names_no_block blocks (edits.Drop id) = lacks blocks id
names_no_block blocks (edits.Park id park) = lacks blocks id
names_no_block blocks (edits.Unpark id) = lacks blocks id
names_no_block blocks (edits.Cut id k) = lacks blocks id
names_no_block blocks (edits.Join first second) = lacks blocks first || lacks blocks second

-- a cut of this block behind that many pairs leaves nothing on one of its sides
abbrev pub cuts_nothing : Option Block → ℕ → Bool
cuts_nothing None k = false
cuts_nothing (Some b) k = k == 0 || nat_le b.n k

-- the edit is such a cut
unfoldable pub has_bad_count : List Block → Edit → Bool
has_bad_count blocks (edits.Add arr p n dep q park) = false
has_bad_count blocks (edits.Drop id) = false
has_bad_count blocks (edits.Park id park) = false
has_bad_count blocks (edits.Unpark id) = false
has_bad_count blocks (edits.Cut id k) = cuts_nothing (block_with blocks id) k
has_bad_count blocks (edits.Join first second) = false

-- c continues b in both trains
abbrev pub continues : Block → Block → Bool
continues b c = (b.arr.0 == c.arr.0) && ((b.p + b.n == c.p) && ((b.dep.0 == c.dep.0) && (b.q + b.n == c.q)))

-- both are there, and the second doesn't continue the first
abbrev pub are_apart : Option Block → Option Block → Bool
are_apart None other = false
are_apart (Some b) None = false
are_apart (Some b) (Some c) = not (continues b c)

-- the edit joins two that are apart so
unfoldable pub is_not_adjacent : List Block → Edit → Bool
is_not_adjacent blocks (edits.Add arr p n dep q park) = false
is_not_adjacent blocks (edits.Drop id) = false
is_not_adjacent blocks (edits.Park id park) = false
is_not_adjacent blocks (edits.Unpark id) = false
is_not_adjacent blocks (edits.Cut id k) = false
is_not_adjacent blocks (edits.Join first second) = are_apart (block_with blocks first) (block_with blocks second)

-- the trains are the night's, and both runs begin at place 1 or later, have a unit at least and end inside their trains
abbrev pub are_runs_within : Night → Shape → Bool
are_runs_within night s =
    nat_lt s.arr.0 (length night.arrive) && (nat_lt s.dep.0 (length night.depart) && (nat_le 1 s.p && (nat_le 1 s.n && (nat_le 1 s.q
    && (nat_le (s.p + s.n) (length (train_at night.arrive s.arr.0).units + 1) && nat_le (s.q + s.n) (length (train_at night.depart s.dep.0).units + 1))))))

-- the track is the station's
abbrev pub is_on_track : Station → Option Park → Bool
is_on_track s None = true
is_on_track s (Some k) = nat_lt k.track.0 (length s.tracks)

-- the edit adds or parks a block whose trains, runs or track aren't the night's
unfoldable pub is_out_of_range : Night → Edit → Bool
is_out_of_range night (edits.Add arr p n dep q park) = not (are_runs_within night (record { arr = arr; p = p; n = n; dep = dep; q = q }) && is_on_track night.station park)
is_out_of_range night (edits.Drop id) = false
is_out_of_range night (edits.Park id park) = not (is_on_track night.station (Some park))
is_out_of_range night (edits.Unpark id) = false
is_out_of_range night (edits.Cut id k) = false
is_out_of_range night (edits.Join first second) = false

-- the edit makes a new block
unfoldable pub makes_block : Edit → Bool
makes_block (edits.Add arr p n dep q park) = true
makes_block (edits.Drop id) = false
makes_block (edits.Park id park) = false
makes_block (edits.Unpark id) = false
makes_block (edits.Cut id k) = true
makes_block (edits.Join first second) = false

-- the first refusal that holds: no block has an id that is named, a cut has a bad count, a join's blocks aren't adjacent, a run or a track isn't in range, there are
-- 400 blocks already, or no id is left for a new one
unfoldable pub refusal : Night → State → Edit → Option MoveError
refusal night s e =
    if names_no_block s.blocks e then Some errors.NoBlock
    else if has_bad_count s.blocks e then Some errors.BadCount
    else if is_not_adjacent s.blocks e then Some errors.NotAdjacent
    else if is_out_of_range night e then Some errors.BadRange
    else if makes_block e && (length s.blocks == 400) then Some errors.Full
    else if makes_block e && (s.next == 1000001) then Some errors.IdsSpent
    else None

-- ---- what edits make

-- the first k pairs of a block
abbrev pub front_of : ℕ → Block → Block
front_of k b = record b { n = k }

-- the pairs behind the first k, with the same option and another id
abbrev pub rest_of : ℕ → ℕ → Block → Block
rest_of k id b = record b { id = id; p = b.p + k; n = b.n - k; q = b.q + k }

-- a cut leaves the first k pairs in the block, and the rest gets the next id
abbrev pub cut : State → Option Block → ℕ → State
cut s None k = s
cut s (Some b) k = record { blocks = changed b.id (front_of k) s.blocks ++ rest_of k s.next b ∷ []; next = s.next + 1 }

-- a join adds the pairs of the second block to the first and takes the second away
abbrev pub join : State → ℕ → Option Block → State
join s first None = s
join s first (Some c) = record s { blocks = changed first (λ b. record b { n = b.n + c.n }) (without_block c.id s.blocks) }

-- what an edit makes that isn't refused; a new block comes last, since the next id is above all others
unfoldable pub made : State → Edit → State
made s (edits.Add arr p n dep q park) = record { blocks = s.blocks ++ record { id = s.next; arr = arr; p = p; n = n; dep = dep; q = q; park = park } ∷ []; next = s.next + 1 }
made s (edits.Drop id) = record s { blocks = without_block id s.blocks }
made s (edits.Park id park) = record s { blocks = changed id (λ b. record b { park = Some park }) s.blocks }
made s (edits.Unpark id) = record s { blocks = changed id (λ b. record b { park = None }) s.blocks }
made s (edits.Cut id k) = cut s (block_with s.blocks id) k
made s (edits.Join first second) = join s first (block_with s.blocks second)

-- the refusal, or the next state
abbrev pub edited : Option MoveError → State → Result State MoveError
edited None next = Ok next
edited (Some error) next = Err error

abbrev pub edit : Night → State → Edit → Result State MoveError
edit night s e = edited (refusal night s e) (made s e)
