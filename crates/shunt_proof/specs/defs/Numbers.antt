-- Versions and their numbers in files.
use Rattle.std.specs.Prelude.{ℕ, ◌≤◌, ◌==◌, if◌then◌else◌}
use Rattle.shunt_proof.specs.declared.records.Version.{Version}
use Rattle.shunt_proof.specs.declared.records.Version.TheVariants.{Prices, Stacks}

abbrev pub number_of : Version → ℕ
number_of Prices = 1
number_of Stacks = 2

-- the version with a number from 1 to 2
abbrev pub version_with : ℕ → Version
version_with n = if n == 2 then Stacks else Prices

-- the greatest number that is read
abbrev pub newest : ℕ
newest = 2

abbrev pub CanBeRead : Version → Type 0
CanBeRead version = number_of version ≤ newest
