-- The printed texts, line by line.
use Rattle.std.specs.Prelude.{◌≡◌, ℕ, zero, suc, ◌<◌, List, [], ◌++◌, length, map, slice_index_or, codes, decimal}
use Rattle.shunt_base.specs.declared.ids.TypeId.{TypeId}
use Rattle.shunt_base.specs.defs.Spelling.{minute_text}
use Rattle.shunt_instance.specs.declared.records.Train.{Train}
use Rattle.shunt_instance.specs.declared.records.Unit.{Unit as TrainUnit}
use Rattle.shunt_instance.specs.declared.records.Position.{Position}
use Rattle.shunt_instance.specs.defs.Words.{train_at}
use Rattle.shunt_instance.specs.defs.Instance.{Night, unit_total, position_total, unit_at, position_at}
use Rattle.shunt_instance.specs.defs.Matching.{place_of}
use Rattle.shunt_matching.specs.declared.types.Shortage.{Shortage}
use Rattle.shunt_matching.specs.declared.types.Shortage.TheVariants.{Balance, ByMinute}

-- the list has a position of the night for each unit
pub record ArePlaces (night : Night) (place : List ℕ) : Type 0 where
  pub same_length : length place ≡ unit_total night
  pub there : (u : ℕ) → u < unit_total night → place_of place u < position_total night

-- `TRAIN PLACE`
abbrev pub train_place : Train → ℕ → List ℕ
train_place train place = train.name ++ codes " " ++ decimal place

-- `pair ARR PLACE DEP PLACE`: a unit by its train and place, and the position that it is given
abbrev pub pair_line : Night → TrainUnit → Position → List ℕ
pair_line night u v = codes "pair " ++ train_place (train_at night.arrive u.train.0) u.place ++ codes " " ++ train_place (train_at night.depart v.train.0) v.place ++ codes "\n"

-- the lines of the first units
abbrev pub pair_lines : Night → List ℕ → ℕ → List ℕ
pair_lines night place zero = []
pair_lines night place (suc u) = pair_lines night place u ++ pair_line night (unit_at night u) (position_at night (place_of place u))

-- a line for each unit in unit order, and `matched NUMBER`
unfoldable pub pairs_of : Night → List ℕ → List ℕ
pairs_of night place = pair_lines night place (unit_total night) ++ codes "matched " ++ decimal (unit_total night) ++ codes "\n"

-- the name of a type
abbrev pub type_name : Night → TypeId → List ℕ
type_name night kind = slice_index_or (map (λ t. t.name) night.station.types) kind.0 []

-- `no matching type NAME arrive A depart D`, or `no matching type NAME by HH:MM need N have H`
unfoldable pub shortage_of : Night → Shortage → List ℕ
shortage_of night (Balance kind arrive depart) = codes "no matching type " ++ type_name night kind ++ codes " arrive " ++ decimal arrive ++ codes " depart " ++ decimal depart
    ++ codes "\n"
shortage_of night (ByMinute kind minute need have) = codes "no matching type " ++ type_name night kind ++ codes " by " ++ minute_text minute ++ codes " need " ++ decimal need
    ++ codes " have " ++ decimal have ++ codes "\n"
