-- The words at bars and trains, and where minutes stand.
use Rattle.std.specs.Prelude.{ℕ, ◌+◌, ◌-◌, ◌*◌, ◌/◌, ◌%◌, ◌==◌, nat_lt, nat_le, List, [], ◌∷◌, ◌++◌, map, length, slice_index_or, codes, decimal, if◌then◌else◌}
use Rattle.std.specs.List.{flat_map}
use Rattle.shunt_base.specs.declared.ids.TypeId.{TypeId}
use Rattle.shunt_base.specs.declared.ids.Side.{Side}
use Rattle.shunt_base.specs.declared.ids.Side.TheVariants.{A, B}
use Rattle.shunt_picture.specs.declared.records.LegendType.{LegendType}
use Rattle.shunt_picture.specs.declared.records.Told.{Told}

-- where a minute stands in a picture that begins at an hour: two pixels for each minute
abbrev pub x_of : ℕ → ℕ → ℕ
x_of from minute = 150 + 2 * (minute - 60 * from)

-- the number of the colour of the first of these types
abbrev pub colour : List TypeId → ℕ
colour [] = 0
colour (kind ∷ kinds) = kind.0 % 12

-- the letter of a type: C to Z, then c to z
abbrev pub letter : TypeId → ℕ
letter kind = if nat_lt kind.0 24 then 67 + kind.0 else 99 + kind.0 % 24

abbrev pub kind_letters : List TypeId → List ℕ
kind_letters kinds = flat_map (λ kind. letter kind ∷ []) kinds

-- a minute as hours, a colon and two digits
unfoldable pub time_text : ℕ → List ℕ
time_text minute = decimal (minute / 60) ++ codes ":" ++ decimal (minute % 60 / 10) ++ decimal (minute % 60 % 10)

-- a block's id, its types and its trains
unfoldable pub label_of : Told → List ℕ
label_of t = decimal t.id ++ codes " " ++ kind_letters t.kinds ++ codes " " ++ t.arr ++ codes " " ++ t.dep

-- the numbers of findings, as a mark
abbrev pub fault_text : ℕ → List ℕ
fault_text fault = decimal fault ++ codes " "

abbrev pub faults_words : List ℕ → List ℕ
faults_words faults = flat_map fault_text faults

-- what a finding of a kind of 5 to 10 says
abbrev pub fault_word : ℕ → List ℕ
fault_word fault = if fault == 5 then codes "wrong type" else if fault == 6 then codes "too soon" else if fault == 7 then codes "no route in" else if fault == 8 then codes
    "no route out" else if fault == 9 then codes "crossing" else codes "too long"

-- each of them in a line of its own
unfoldable pub fault_line : ℕ → List ℕ
fault_line fault = codes "\nfinding " ++ decimal fault ++ codes " " ++ fault_word fault

abbrev pub fault_lines : List ℕ → List ℕ
fault_lines faults = flat_map fault_line faults

-- the letter of a side
abbrev pub side_word : Side → List ℕ
side_word A = codes "A"
side_word B = codes "B"

-- a type's name and its length
unfoldable pub kind_words : List ℕ → ℕ → List ℕ
kind_words name length = name ++ codes " " ++ decimal length ++ codes " dm"

-- the name of a type in the legend
abbrev pub kind_name : List LegendType → TypeId → List ℕ
kind_name kinds kind = if nat_lt kind.0 (length kinds) then slice_index_or (map (λ k. k.name) kinds) kind.0 [] else []

-- a unit with its type, and the position to which it goes
unfoldable pub unit_line : List LegendType → Told → ℕ → TypeId → List ℕ
unit_line kinds t k kind = codes "\n" ++ t.arr ++ codes " " ++ decimal (t.p + k) ++ codes " " ++ kind_name kinds kind ++ codes " to " ++ t.dep ++ codes " " ++ decimal (t.q + k)

-- the long words where there is room for that many bytes, else the short ones, else none
unfoldable pub fitting : List ℕ → List ℕ → ℕ → List ℕ
fitting long short room = if nat_le (length long) room then long else if nat_le (length short) room then short else []

-- the texts of these, one after the other, each by its number from k on
abbrev pub each_from : {X : Type 0} → (ℕ → X → List ℕ) → ℕ → List X → List ℕ
each_from text k [] = []
each_from text k (x ∷ xs) = text k x ++ each_from text (k + 1) xs

abbrev pub unit_lines : List LegendType → Told → List ℕ
unit_lines kinds t = each_from (unit_line kinds t) 0 t.kinds

-- the group of a block, by its id and its trains
unfoldable pub group_id : ℕ → List ℕ
group_id id = codes "<g id='b" ++ decimal id

unfoldable pub group_block : ℕ → List ℕ
group_block id = codes "' data-block='" ++ decimal id

unfoldable pub group_trains : List ℕ → List ℕ → List ℕ
group_trains arr dep = codes "' data-arrive='" ++ arr ++ codes "' data-depart='" ++ dep ++ codes "'><title>"

unfoldable pub group_text : Told → List ℕ
group_text t = group_id t.id ++ group_block t.id ++ group_trains t.arr t.dep

-- a block's length and cost, its units and its findings
unfoldable pub told_words : List LegendType → Told → List ℕ
told_words kinds t = codes "block " ++ decimal t.id ++ codes ", " ++ decimal t.length ++ codes " dm, cost " ++ decimal t.cost ++ unit_lines kinds t ++ fault_lines t.faults
