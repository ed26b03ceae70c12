-- Orders that are followed.
use Rattle.std.specs.Prelude.{◌≡◌, ◌↔◌, ℕ, ◌+◌, List, [], ◌∷◌, ◌++◌, map, length, slice_index, slice_index_or, slice_set, Result, Ok, Err}
use Rattle.shunt_stays.specs.defs.Events.{Move}
use Rattle.shunt_stays.specs.defs.Run.{Standing, Stop, Through, moved, run, empty_tracks, blocks_on}
use Rattle.shunt_stays.specs.defs.Run.Stop.{Blocked, Over}
use Rattle.shunt_instance.specs.declared.records.Station.{Station}
use Rattle.shunt_blocks.specs.defs.Lists.{track_lengths}
use Rattle.shunt_sheet.specs.declared.records.Order.{Order}
use Rattle.shunt_sheet.specs.declared.records.Followed.{Followed}
use Rattle.shunt_sheet.specs.declared.records.Followed.TheVariants as answers

-- an order as a move; its key's train and place are nothing to a run
abbrev pub move_of : Order → Move
move_of o = record { key = record { minute = o.minute; enters = o.enters; train = 0; place = 0; id = o.id }; track = o.track; side = o.side; length = o.length }

-- the order with a number can be done, and what follows then comes to the rest; or it can't
abbrev pub goes_on : ℕ → Result (List Standing) Stop → (List Standing → Followed) → Followed
goes_on n (Ok blocks) rest = rest blocks
goes_on n (Err (Blocked m)) rest = answers.Blocked n
goes_on n (Err (Over m load)) rest = answers.Over n load

-- these orders one after the other, of which the first has this number, up to the first that can't be done
abbrev pub follow_from : List ℕ → ℕ → List Order → List (List Standing) → Followed
follow_from lengths n [] tracks = answers.Through (blocks_on tracks)
follow_from lengths n (o ∷ orders) tracks = goes_on n (moved (slice_index lengths o.track.0) (move_of o) (slice_index_or tracks o.track.0 []))
    (λ blocks. follow_from lengths (n + 1) orders (slice_set tracks o.track.0 blocks))

-- orders that are followed on the station's tracks, from empty tracks on
unfoldable pub followed : Station → List Order → Followed
followed s orders = follow_from (track_lengths s) 1 orders (empty_tracks (track_lengths s))

-- the run of orders in their order
abbrev pub run_in : Station → List Order → Result Through Stop
run_in s orders = run (track_lengths s) (map move_of orders) (empty_tracks (track_lengths s))

-- the orders before this one, counted from 1, can all be done, and it can't, for this cause
pub record StopsAt (s : Station) (orders : List Order) (number : ℕ) (stop : Move → Stop) : Type 0 where
  pub before : List Order
  pub here : Order
  pub after : List Order
  pub place : orders ≡ before ++ here ∷ after
  pub counted : number ≡ length before + 1
  pub done : Through
  pub goes : run_in s before ≡ Ok done
  pub stops : moved (slice_index (track_lengths s) here.track.0) (move_of here) (slice_index_or done.tracks here.track.0 []) ≡ Err (stop (move_of here))

-- following is the run of the orders: it goes through where the run does, with as many blocks as then stand on tracks, and stops at
-- the first order that can't be done
pub record InWords (s : Station) (orders : List Order) : Type 0 where
  pub through : (left : ℕ) → (followed s orders ≡ answers.Through left) ↔ ((t : Through) × (run_in s orders ≡ Ok t) × (blocks_on t.tracks ≡ left))
  pub blocked : (number : ℕ) → (followed s orders ≡ answers.Blocked number) ↔ StopsAt s orders number Blocked
  pub over : (number load : ℕ) → (followed s orders ≡ answers.Over number load) ↔ StopsAt s orders number (λ m. Over m load)

-- following goes through, and no block is left
abbrev pub LeavesNone : Station → List Order → Type 0
LeavesNone s orders = followed s orders ≡ answers.Through 0
