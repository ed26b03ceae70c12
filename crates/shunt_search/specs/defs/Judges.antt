-- By what paths are judged.
use Rattle.std.specs.Prelude.{◌≡◌, List, length}
use Rattle.shunt_base.specs.declared.duals.Case.{Case}
use Rattle.shunt_instance.specs.defs.Instance.{Night}
use Rattle.shunt_stacks.specs.defs.Stacks.{stacks}
use Rattle.shunt_gains.specs.defs.Events.{AreEvents}
use Rattle.shunt_fillings.specs.defs.Pieces.{all_seen}
use Rattle.shunt_fillings.specs.defs.Prospects.{AreOutlooks}
use Rattle.shunt_proof.specs.declared.records.Version.{Version}
use Rattle.shunt_proof.specs.declared.records.Version.TheVariants as version
use Rattle.shunt_search.specs.declared.yard.Yard.{Yard}
use Rattle.shunt_search.specs.declared.sights.Sight.{Sight}
use Rattle.shunt_search.specs.declared.judge.Ends.{Ends}
use Rattle.shunt_search.specs.declared.judge.Judge.{Judge}
use Rattle.shunt_search.specs.declared.judge.Judge.TheVariants as judge
use Rattle.shunt_choices.specs.defs.Choices.{AreFreeShapes}

-- the version of certificates whose paths are judged so
abbrev pub version_of : Judge → Version
version_of judge.Prices = version.Prices
version_of (judge.Stacks ends) = version.Stacks

-- the numbers are those of the night's events, and the stacks its station's
pub record AreEnds (night : Night) (ends : Ends) : Type 0 where
  pub events : AreEvents night ends.events
  pub stacks : all_seen ends.stacks.items ≡ stacks night.station

-- what is judged by belongs to the night
abbrev pub IsJudge : Night → Judge → Type 0
IsJudge night judge.Prices = Unit {0}
IsJudge night (judge.Stacks ends) = AreEnds night ends

-- what the stacks may gain at a yard's path by cases, with the path's free shapes
pub record IsSight (night : Night) (y : Yard) (cases : List Case) (s : Sight) : Type 0 where
  pub shapes : AreFreeShapes night y.path.covered s.shapes.items
  pub outlooks : AreOutlooks night y.path.blocks cases (length cases) s.outlooks.items
