-- The run of events over one list of blocks for each track.
use Rattle.std.specs.Prelude.{ℕ, ◌<◌, ◌==◌, nat_le, not, sum_by, count_by, length, map, All, slice_index, slice_index_or, slice_set, List, [], ◌∷◌, ◌++◌, Option, Some, None, Result, Ok, Err, IsOk, if◌then◌else◌}
use Rattle.std.specs.Option.{option_map}
use Rattle.shunt_base.specs.declared.ids.Side.{Side}
use Rattle.shunt_base.specs.declared.ids.Side.TheVariants.{A, B}
use Rattle.shunt_base.specs.declared.keys.Stay.{Stay}
use Rattle.shunt_stays.specs.defs.Events.{Move, in_order}

-- a block that stands on a track
pub record Standing : Type 0 where
  pub id : ℕ
  pub length : ℕ

-- a list from A to B with one more at a side
abbrev pub put : {X : Type 0} → Side → X → List X → List X
put A x xs = x ∷ xs
put B x xs = xs ++ x ∷ []

-- the others, where the first block has this id
abbrev pub without_first : ℕ → List Standing → Option (List Standing)
without_first id [] = None
without_first id (b ∷ blocks) = if b.id == id then Some blocks else None

-- the others, where the last block has this id
abbrev pub without_last : ℕ → List Standing → Option (List Standing)
without_last id [] = None
without_last id (b ∷ []) = if b.id == id then Some [] else None
without_last id (b ∷ c ∷ blocks) = option_map (λ others. b ∷ others) (without_last id (c ∷ blocks))

-- the others, where the block at a side has this id
abbrev pub without : Side → ℕ → List Standing → Option (List Standing)
without A id blocks = without_first id blocks
without B id blocks = without_last id blocks

-- the lengths of the blocks, added up
abbrev pub load : List Standing → ℕ
load blocks = sum_by (λ b. b.length) blocks

-- why a move can't be done: its block isn't at its side, or it would leave this load on its track
pub data Stop : Type 0 where
  Blocked : Move → Stop
  Over : Move → ℕ → Stop

-- the blocks after an entry, where the track is long enough
abbrev pub entered : ℕ → Move → List Standing → Result (List Standing) Stop
entered room m blocks = if nat_le (load blocks) room then Ok blocks else Err (Over m (load blocks))

-- the blocks after a leave, where there was one to leave
abbrev pub left : Move → Option (List Standing) → Result (List Standing) Stop
left m (Some others) = Ok others
left m None = Err (Blocked m)

-- the blocks of a track of this length after a move: an entry puts a block at a side, a leave needs it there and takes it away
abbrev pub moved : ℕ → Move → List Standing → Result (List Standing) Stop
moved room m blocks = if m.key.enters then entered room m (put m.side (record { id = m.key.id; length = m.length }) blocks) else left m (without m.side m.key.id blocks)

infixl 10 ◌>>=◌
abbrev pub ◌>>=◌ : {X Y : Type 0} → Result X Stop → (X → Result Y Stop) → Result Y Stop
(Ok x) >>= f = f x
(Err stop) >>= f = Err stop

-- a run that went through: each move with its track's load just after it, and the blocks of each track in the end
pub record Through : Type 0 where
  pub steps : List (Move × ℕ)
  pub tracks : List (List Standing)

-- the moves one after the other, up to the first that can't be done; a track's number is its place in both lists
abbrev pub run : List ℕ → List Move → List (List Standing) → Result Through Stop
run lengths [] tracks = Ok (record { steps = []; tracks = tracks })
run lengths (m ∷ moves) tracks = do
  blocks ← moved (slice_index lengths m.track.0) m (slice_index_or tracks m.track.0 [])
  through ← run lengths moves (slice_set tracks m.track.0 blocks)
  Ok (record through { steps = (m, load blocks) ∷ through.steps })

-- tracks of these lengths on which nothing stands
abbrev pub empty_tracks : List ℕ → List (List Standing)
empty_tracks lengths = map (λ n. []) lengths

-- the events of these stays in key order, from empty tracks on
abbrev pub run_of : List ℕ → List Stay → Result Through Stop
run_of lengths stays = run lengths (in_order stays) (empty_tracks lengths)

-- each event can be done
abbrev pub GoesThrough : List ℕ → List Stay → Type 0
GoesThrough lengths stays = IsOk (run_of lengths stays)

-- each stay's track has a length
abbrev pub AreOnTracks : List ℕ → List Stay → Type 0
AreOnTracks lengths stays = All (λ s. s.track.0 < length lengths) stays

-- how many blocks stand on these tracks
abbrev pub blocks_on : List (List Standing) → ℕ
blocks_on tracks = sum_by (λ blocks. length blocks) tracks

-- how many of these moves are entries, and how many leaves
abbrev pub entries_in : List Move → ℕ
entries_in moves = count_by (λ m. m.key.enters) moves

abbrev pub leaves_in : List Move → ℕ
leaves_in moves = count_by (λ m. not m.key.enters) moves

-- what a run sees of a move: all but the minute, the train and the place of its key
abbrev pub seen : Move → Move
seen m = record m { key = record m.key { minute = 0; train = 0; place = 0 } }
