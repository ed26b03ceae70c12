-- Moves shared among drivers.
use Rattle.std.specs.Prelude.{◌≡◌, ◌⊎◌, ℕ, ◌<◌, ◌≤◌, Bool, true, false, ◌&&◌, nat_le, nat_lt, All, AllPairs, List, [], ◌∷◌, ◌++◌, map, filter, length, slice_index, Option, Some, None}
use Rattle.std.specs.List.{zip}
use Rattle.std.proofs.Common.{set}
use Rattle.shunt_lists.specs.defs.Members.{In}
use Rattle.shunt_drivers.specs.declared.shares.MoveSpan.{MoveSpan}
use Rattle.shunt_drivers.specs.declared.shares.MoveShare.{MoveShare}

-- whether a move runs at a minute
abbrev pub runs_at : ℕ → MoveSpan → Bool
runs_at t s = nat_le s.start t && nat_lt t s.end

-- how many of these moves run at a minute
abbrev pub running : List MoveSpan → ℕ → ℕ
running spans t = length (filter (runs_at t) spans)

-- where two moves have one driver, there is no minute at which both run
abbrev pub AreSharesApart : MoveSpan × ℕ → MoveSpan × ℕ → Type 0
AreSharesApart a b = a.1 ≡ b.1 → (t : ℕ) → runs_at t a.0 ≡ true → runs_at t b.0 ≡ true → ⊥

-- each of these moves has one of these drivers, and no two moves of one driver run at one minute
pub record IsSharing (spans : List MoveSpan) (drivers : List ℕ) : Type 0 where
  pub each : length drivers ≡ length spans
  pub apart : AllPairs AreSharesApart (zip spans drivers)

-- the first minute at which that many of these moves run; there is none where there are no moves
abbrev pub IsBusy : List MoveSpan → ℕ → Option ℕ → Type 0
IsBusy spans n None = (spans ≡ []) × (n ≡ 0)
IsBusy spans n (Some b) = (0 < n) × (running spans b ≡ n) × ((t : ℕ) → t < b → running spans t < n)

-- a driver who is free takes a move, or a new one does where none is free
abbrev pub Took : List ℕ → List ℕ → MoveSpan → ℕ → Bool → Type 0
Took free after span driver new =
    ((new ≡ false) × (driver < length free) × (slice_index free driver ≤ span.start) × (after ≡ set free driver span.end))
    ⊎ ((new ≡ true) × All (λ f. span.start < f) free × (driver ≡ length free) × (after ≡ free ++ span.end ∷ []))

-- a move is shared behind these
pub record AddsShare (shares after : List MoveShare) (free free_after : List ℕ) (span : MoveSpan) (new : Bool) : Type 0 where
  pub driver : ℕ
  pub shared : after ≡ shares ++ record { span = span; driver = driver } ∷ []
  pub took : Took free free_after span driver new

-- these moves are shared among that many drivers, numbered from 0, each of whom has a move; as many run at the busy minute as there
-- are drivers, and fewer at each before it; and no sharing uses fewer: a list that names all of its drivers is as long
pub record IsLeast (spans : List MoveSpan) (shares : List MoveShare) (drivers : ℕ) (busy : Option ℕ) : Type 0 where
  pub spans_are : map (λ s. s.span) shares ≡ spans
  pub sharing : IsSharing spans (map (λ s. s.driver) shares)
  pub numbered : All (λ s. s.driver < drivers) shares
  pub used : (driver : ℕ) → driver < drivers → In driver (map (λ s. s.driver) shares)
  pub at_busy : IsBusy spans drivers busy
  pub fewest : (given names : List ℕ) → IsSharing spans given → ((driver : ℕ) → In driver given → In driver names) → drivers ≤ length names
