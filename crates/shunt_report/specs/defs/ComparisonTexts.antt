-- The printed text of what another plan does otherwise.
use Rattle.std.specs.Prelude.{ℕ, ◌<◌, List, All, ◌++◌, length, codes, decimal}
use Rattle.std.specs.List.{flat_map}
use Rattle.shunt_instance.specs.defs.Words.{train_at}
use Rattle.shunt_instance.specs.defs.Instance.{Night, unit_total, position_total}
use Rattle.shunt_blocks.specs.declared.records.Block.{Block}
use Rattle.shunt_blocks.specs.defs.Shapes.{IsOnTrack, IsWithinTrains}
use Rattle.shunt_compare.specs.declared.records.Placement.{Placement}
use Rattle.shunt_compare.specs.declared.records.Change.{Change}
use Rattle.shunt_compare.specs.declared.records.Comparison.{Comparison}
use Rattle.shunt_report.specs.defs.FindingTexts.{unit_place, position_place}
use Rattle.shunt_report.specs.defs.VerdictTexts.{option_words}

-- its position and its track are the night's
pub record IsPlacementOfNight (night : Night) (p : Placement) : Type 0 where
  pub position : p.position < position_total night
  pub track : IsOnTrack night.station p.park

-- its unit and its placements are
pub record IsChangeOfNight (night : Night) (c : Change) : Type 0 where
  pub unit : c.unit < unit_total night
  pub was : IsPlacementOfNight night c.was
  pub now : IsPlacementOfNight night c.now

-- all of its changes and blocks are
pub record IsComparisonOfNight (night : Night) (c : Comparison) : Type 0 where
  pub changes : All (IsChangeOfNight night) c.changes
  pub regrouped : All (IsWithinTrains night) c.regrouped

-- `DEP PLACE unparked`, or `DEP PLACE park TRACK IN OUT`
abbrev pub placement_words : Night → Placement → List ℕ
placement_words night p = position_place night p.position ++ codes " " ++ option_words night p.park

-- `unit ARR PLACE was` what was done with it, `now` what is done
abbrev pub change_line : Night → Change → List ℕ
change_line night c = codes "unit " ++ unit_place night c.unit ++ codes " was " ++ placement_words night c.was ++ codes " now " ++ placement_words night c.now ++ codes "\n"

-- `block ARR P N`
abbrev pub regrouped_line : Night → Block → List ℕ
regrouped_line night b = codes "block " ++ (train_at night.arrive b.arr.0).name ++ codes " " ++ decimal b.p ++ codes " " ++ decimal b.n ++ codes "\n"

-- `changed U blocks B cost C other D`
abbrev pub compared_line : Comparison → ℕ → ℕ → List ℕ
compared_line c cost other = codes "changed " ++ decimal (length c.changes) ++ codes " blocks " ++ decimal (length c.regrouped) ++ codes " cost " ++ decimal cost ++ codes " other "
    ++ decimal other ++ codes "\n"

-- a line for each change, a line for each regrouped block, and that line
unfoldable pub comparison_of : Night → Comparison → ℕ → ℕ → List ℕ
comparison_of night c cost other = flat_map (change_line night) c.changes ++ flat_map (regrouped_line night) c.regrouped ++ compared_line c cost other
