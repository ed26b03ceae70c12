-- What the workbench keeps of an edit: the blocks that go, those that come, and the next id.
use Rattle.std.specs.Prelude.{◌≡◌, ◌≢◌, ℕ, ◌+◌, ◌==◌, ◌≤◌, nat_le, Bool, not, ◌&&◌, ◌||◌, length, reverse, List, [], ◌∷◌, Option, Some, None, Result, Ok, Err, if◌then◌else◌}
use Rattle.std.specs.List.{AllByRecursion}
use Rattle.shunt_instance.specs.defs.Instance.{Night}
use Rattle.shunt_blocks.specs.declared.records.Block.{Block}
use Rattle.shunt_blocks.specs.declared.records.Park.{Park}
use Rattle.shunt_blocks.specs.defs.Shapes.{shape_of}
use Rattle.shunt_plan.specs.declared.edits.Edit.{Edit}
use Rattle.shunt_plan.specs.declared.edits.Edit.TheVariants as edits
use Rattle.shunt_audit.specs.defs.Listed.{insert_by_id}
use Rattle.shunt_moves.specs.declared.types.MoveError.{MoveError}
use Rattle.shunt_moves.specs.declared.types.MoveError.TheVariants as errors
use Rattle.shunt_moves.specs.declared.exchange.BlockPair.{BlockPair}
use Rattle.shunt_moves.specs.declared.exchange.Exchange.{Exchange}
use Rattle.shunt_moves.specs.defs.States.{State, IsState, block_with, without_block}
use Rattle.shunt_moves.specs.defs.Edits.{continues, front_of, rest_of, are_runs_within, is_on_track}

-- ---- one block, or none, goes or comes

abbrev pub taken : Option Block → List Block → List Block
taken None blocks = blocks
taken (Some b) blocks = without_block b.id blocks

abbrev pub put : Option Block → List Block → List Block
put None blocks = blocks
put (Some b) blocks = insert_by_id b blocks

-- the second list has this block more than the first, and no other with its id
abbrev pub Extends : Option Block → List Block → List Block → Type 0
Extends None less more = less ≡ more
Extends (Some b) less more = (more ≡ insert_by_id b less) × AllByRecursion (λ c. c.id ≢ b.id) less

-- ---- exchanges

-- the state behind an exchange
abbrev pub exchanged : Exchange → State → State
exchanged x s = record { blocks = put x.come.second (put x.come.first (taken x.gone.second (taken x.gone.first s.blocks))); next = x.next }

-- the exchange that leads back to a state with this next id: what came last goes first
abbrev pub flipped : Exchange → ℕ → Exchange
flipped x next = record { gone = record { first = x.come.second; second = x.come.first }; come = record { first = x.gone.second; second = x.gone.first }; next = next }

-- it leads from the one state to the other, block by block
pub record LeadsOn (night : Night) (x : Exchange) (s t : State) : Type 0 where
  pub one : List Block
  pub both : List Block
  pub new : List Block
  pub first_gone : Extends x.gone.first one s.blocks
  pub second_gone : Extends x.gone.second both one
  pub first_come : Extends x.come.first both new
  pub second_come : Extends x.come.second new t.blocks
  pub next : x.next ≡ t.next
  pub from : IsState night s
  pub to : IsState night t

-- the states to which exchanges lead one after the other
abbrev pub trail : State → List Exchange → List State
trail s [] = []
trail s (x ∷ exchanges) = exchanged x s ∷ trail (exchanged x s) exchanges

-- each of them leads from the state of the one before
abbrev pub AllLead : Night → State → List Exchange → Type 0
AllLead night s [] = Unit {0}
AllLead night s (x ∷ exchanges) = LeadsOn night x s (exchanged x s) × AllLead night (exchanged x s) exchanges

-- ---- edits as exchanges

abbrev pub none : BlockPair
none = record { first = None; second = None }

abbrev pub one : Block → BlockPair
one b = record { first = Some b; second = None }

abbrev pub two : Block → Block → BlockPair
two b c = record { first = Some b; second = Some c }

infixl 10 ◌>>=◌
abbrev pub ◌>>=◌ : {X Y : Type 0} → Result X MoveError → (X → Result Y MoveError) → Result Y MoveError
(Ok x) >>= f = f x
(Err error) >>= f = Err error

-- goes on where this holds, else the error
abbrev pub must : Bool → MoveError → Result (Unit {0}) MoveError
must holds error = if holds then Ok tt else Err error

abbrev pub found : Option Block → Result Block MoveError
found None = Err errors.NoBlock
found (Some b) = Ok b

-- the block with an id
abbrev pub named : State → ℕ → Result Block MoveError
named s id = found (block_with s.blocks id)

-- there is room and an id for one block more
unfoldable pub room_in : State → Result (Unit {0}) MoveError
room_in s = do
  _ ← must (not (length s.blocks == 400)) errors.Full
  must (not (s.next == 1000001)) errors.IdsSpent

-- one block comes
unfoldable pub adding : Night → State → Block → Result Exchange MoveError
adding night s b = do
  _ ← must (are_runs_within night (shape_of b) && is_on_track night.station b.park) errors.BadRange
  _ ← room_in s
  Ok (record { gone = none; come = one b; next = s.next + 1 })

-- one goes
unfoldable pub dropping : State → ℕ → Result Exchange MoveError
dropping s id = do
  b ← named s id
  Ok (record { gone = one b; come = none; next = s.next })

-- one goes, and comes with another option
unfoldable pub parking : Night → State → ℕ → Option Park → Result Exchange MoveError
parking night s id park = do
  b ← named s id
  _ ← must (is_on_track night.station park) errors.BadRange
  Ok (record { gone = one b; come = one (record b { park = park }); next = s.next })

-- one goes, and comes in two parts
unfoldable pub cutting : State → ℕ → ℕ → Result Exchange MoveError
cutting s id k = do
  b ← named s id
  _ ← must (not (k == 0 || nat_le b.n k)) errors.BadCount
  _ ← room_in s
  Ok (record { gone = one b; come = two (front_of k b) (rest_of k s.next b); next = s.next + 1 })

-- two go, and come as one
unfoldable pub joining : State → ℕ → ℕ → Result Exchange MoveError
joining s first second = do
  b ← named s first
  c ← named s second
  _ ← must (continues b c) errors.NotAdjacent
  Ok (record { gone = two c b; come = one (record b { n = b.n + c.n }); next = s.next })

-- the exchange of an edit, or its refusal
unfoldable pub planned : Night → State → Edit → Result Exchange MoveError
planned night s (edits.Add arr p n dep q park) = adding night s (record { id = s.next; arr = arr; p = p; n = n; dep = dep; q = q; park = park })
planned night s (edits.Drop id) = dropping s id
planned night s (edits.Park id park) = parking night s id (Some park)
planned night s (edits.Unpark id) = parking night s id None
planned night s (edits.Cut id k) = cutting s id k
planned night s (edits.Join first second) = joining s first second

-- a refusal and an exchange that agree: both refuse for one reason, or the exchange leads to the state that is made
abbrev pub Agrees : Night → State → State → Option MoveError → Result Exchange MoveError → Type 0
Agrees night s t None (Ok x) = LeadsOn night x s t
Agrees night s t None (Err error) = ⊥
Agrees night s t (Some error) (Ok x) = ⊥
Agrees night s t (Some error) (Err other) = error ≡ other

-- what is always true of a workbench: its exchanges lead to states, and there is room for each to stand in either list
pub record IsBench (night : Night) (s : State) (past undone : List Exchange) (past_room undone_room : ℕ) : Type 0 where
  pub state : IsState night s
  pub past_leads : AllLead night s (reverse past)
  pub undone_leads : AllLead night s (reverse undone)
  pub past_fits : length past + length undone ≤ past_room
  pub undone_fits : length past + length undone ≤ undone_room
