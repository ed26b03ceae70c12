-- Why no matching of the rest exists: the first type, and then the first minute, at which the counts fail.
use Rattle.std.specs.Prelude.{◌≡◌, ◌≢◌, ℕ, ◌<◌, ◌≤◌, Bool, List, length}
use Rattle.shunt_matching.specs.declared.types.Shortage.{Shortage}
use Rattle.shunt_matching.specs.declared.types.Shortage.TheVariants.{Balance, ByMinute}
use Rattle.shunt_instance.specs.defs.Matching.{Entry, entry_at}
use Rattle.shunt_matching.specs.defs.Counts.{count_of_kind, count_by_minute}

-- the type has as many units as positions in the rest
abbrev pub IsEven : List Entry → List Entry → List Bool → List Bool → ℕ → Type 0
IsEven us vs um vm kind = count_of_kind us um kind ≡ count_of_kind vs vm kind

-- in the rest no more positions of the type leave by minute m than units of it are ready by then
abbrev pub IsEnoughBy : List Entry → List Entry → List Bool → List Bool → ℕ → ℕ → Type 0
IsEnoughBy us vs um vm kind m = count_by_minute vs vm kind m ≤ count_by_minute us um kind m

-- the first type whose units and positions differ in number, with these numbers
pub record IsFirstUneven (us vs : List Entry) (um vm : List Bool) (kind arrive depart : ℕ) : Type 0 where
  pub arrive_is : arrive ≡ count_of_kind us um kind
  pub depart_is : depart ≡ count_of_kind vs vm kind
  pub differ : arrive ≢ depart
  pub before : (k : ℕ) → k < kind → IsEven us vs um vm k

-- by the minute at which position v leaves more positions of the type leave than units are ready, and by no earlier minute
pub record IsLateAt (us vs : List Entry) (um vm : List Bool) (kind v : ℕ) : Type 0 where
  pub there : v < length vs
  pub short : count_by_minute us um kind (entry_at vs v).minute < count_by_minute vs vm kind (entry_at vs v).minute
  pub sooner : (m : ℕ) → m < (entry_at vs v).minute → IsEnoughBy us vs um vm kind m

-- no type is uneven, and this is the first type, and its least minute, by which more positions leave than units are ready, with these numbers
pub record IsFirstLate (us vs : List Entry) (um vm : List Bool) (kind minute need have : ℕ) : Type 0 where
  pub even : (k : ℕ) → IsEven us vs um vm k
  pub need_is : need ≡ count_by_minute vs vm kind minute
  pub have_is : have ≡ count_by_minute us um kind minute
  pub short : have < need
  pub sooner : (m : ℕ) → m < minute → IsEnoughBy us vs um vm kind m
  pub before : (k m : ℕ) → k < kind → IsEnoughBy us vs um vm k m

-- the first shortage of the rest, by type and then by minute; uneven types come before late ones
abbrev pub IsFirstShortage : List Entry → List Entry → List Bool → List Bool → Shortage → Type 0
IsFirstShortage us vs um vm (Balance kind arrive depart) = IsFirstUneven us vs um vm kind.0 arrive depart
IsFirstShortage us vs um vm (ByMinute kind minute need have) = IsFirstLate us vs um vm kind.0 minute need have
