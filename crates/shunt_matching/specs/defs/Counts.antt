-- Counts of the entries of a type, by which it is told whether a matching exists.
use Rattle.std.specs.Prelude.{◌≡◌, ℕ, ◌<◌, ◌≤◌, Bool, ◌&&◌, ◌==◌, nat_le, List, length, map, filter, slice_index_or, if◌then◌else◌}
use Rattle.std.specs.List.{range_with_len}
use Rattle.shunt_lists.specs.defs.Below.{count_below}
use Rattle.shunt_instance.specs.defs.Matching.{Entry, entry_at, is_in_rest}

-- whether this number is that of an entry of the rest of this type
abbrev pub is_of_kind : List Entry → List Bool → ℕ → ℕ → Bool
is_of_kind entries mask kind i = is_in_rest mask i && ((entry_at entries i).kind == kind)

-- whether it is, and its minute is m or earlier
abbrev pub is_by_minute : List Entry → List Bool → ℕ → ℕ → ℕ → Bool
is_by_minute entries mask kind m i = is_of_kind entries mask kind i && nat_le (entry_at entries i).minute m

-- how many entries of the rest are of this type
abbrev pub count_of_kind : List Entry → List Bool → ℕ → ℕ
count_of_kind entries mask kind = count_below (length entries) (is_of_kind entries mask kind)

-- how many of them have minute m or an earlier one
abbrev pub count_by_minute : List Entry → List Bool → ℕ → ℕ → ℕ
count_by_minute entries mask kind m = count_below (length entries) (is_by_minute entries mask kind m)

-- in the rest each type has as many units as positions and, for each minute, no more of its positions leave by then than its units are ready by then
pub record IsBalanced (us vs : List Entry) (um vm : List Bool) : Type 0 where
  pub same : (kind : ℕ) → count_of_kind us um kind ≡ count_of_kind vs vm kind
  pub enough : (kind m : ℕ) → count_by_minute vs vm kind m ≤ count_by_minute us um kind m

-- the numbers of the entries of the rest of this type, in order
abbrev pub numbers_of_kind : List Entry → List Bool → ℕ → List ℕ
numbers_of_kind entries mask kind = filter (is_of_kind entries mask kind) (range_with_len 0 (length entries))

-- how many entries of the rest of the type of entry i come before it
abbrev pub earlier_of_kind : List Entry → List Bool → ℕ → ℕ
earlier_of_kind entries mask i = count_below i (is_of_kind entries mask (entry_at entries i).kind)

-- unit u, the k-th of its type in the rest, goes with the k-th position of that type in the rest; a unit left out has 65535
abbrev pub first_fit_at : List Entry → List Entry → List Bool → List Bool → ℕ → ℕ
first_fit_at us vs um vm u = if is_in_rest um u then slice_index_or (numbers_of_kind vs vm (entry_at us u).kind) (earlier_of_kind us um u) 65535 else 65535

-- the list that pairs the k-th unit of each type in the rest with the k-th position of that type in the rest
abbrev pub first_fit_of : List Entry → List Entry → List Bool → List Bool → List ℕ
first_fit_of us vs um vm = map (first_fit_at us vs um vm) (range_with_len 0 (length us))

-- each entry's type has a number below this one
abbrev pub HasKindsBelow : ℕ → List Entry → Type 0
HasKindsBelow kinds entries = (i : ℕ) → i < length entries → (entry_at entries i).kind < kinds

-- two masks leave out the same of the first n entries
abbrev pub AreAlikeBelow : ℕ → List Bool → List Bool → Type 0
AreAlikeBelow n mask other = (i : ℕ) → i < n → is_in_rest mask i ≡ is_in_rest other i
