-- The answer of `match`.
use Rattle.std.specs.Prelude.{◌≡◌, ◌⊎◌, ℕ, Bool, List, []}
use Rattle.shunt_inputs.specs.declared.answers.Outcome.TheVariants as outcome
use Rattle.shunt_instance.specs.defs.Instance.{Night}
use Rattle.shunt_instance.specs.defs.Matching.{unit_entries, position_entries}
use Rattle.shunt_matching.specs.declared.types.Shortage.{Shortage}
use Rattle.shunt_matching.specs.defs.Counts.{first_fit_of}
use Rattle.shunt_matching.specs.defs.Nights.{Matches, HasNoMatching, IsShortageOf}
use Rattle.shunt_report.specs.defs.Texts.{pairs_of, shortage_of}
use Rattle.shunt_inputs.specs.defs.Replies.{Reply, says}

-- the list that pairs the k-th unit of each type with the k-th position of that type
abbrev pub paired : Night → List ℕ
paired night = first_fit_of (unit_entries night) (position_entries night) [] []

-- a matching exists: the pairs of the k-th units and positions are printed
pub record IsPaired (night : Night) (r : Reply) : Type 0 where
  pub matches : Matches night (paired night)
  pub reply : r ≡ says outcome.Done (pairs_of night (paired night))

-- no list is a matching of the units and positions that these masks don't leave out: the first shortage of those is printed
pub record IsShortBeside (units places : List Bool) (night : Night) (r : Reply) : Type 0 where
  pub none : HasNoMatching night units places
  pub reply : (s : Shortage) × IsShortageOf night units places s × (r ≡ says outcome.NoMatching (shortage_of night s))

-- the same of all units and positions
abbrev pub IsShort : Night → Reply → Type 0
IsShort night r = IsShortBeside [] [] night r

-- the answer of `match` on a night
abbrev pub IsMatched : Night → Reply → Type 0
IsMatched night r = IsPaired night r ⊎ IsShort night r
