-- The records of a plan as they are written.
use Rattle.std.specs.Prelude.{◌≡◌, ℕ, List, [], ◌∷◌, ◌++◌, map, slice_index_or, Option, Some, None, Ok, codes}
use Rattle.std.specs.Fmt.{decimal}
use Rattle.shunt_base.specs.declared.ids.ArrId.{ArrId}
use Rattle.shunt_base.specs.declared.ids.DepId.{DepId}
use Rattle.shunt_base.specs.declared.ids.TrackId.{TrackId}
use Rattle.shunt_rows.specs.defs.Records.{records_of}
use Rattle.shunt_rows.specs.defs.Written.{side_text}
use Rattle.shunt_rows.specs.defs.Formats.{reading}
use Rattle.shunt_instance.specs.declared.records.Station.{Station}
use Rattle.shunt_instance.specs.defs.Words.{names_of, track_names}
use Rattle.shunt_instance.specs.defs.Instance.{Night}
use Rattle.shunt_blocks.specs.declared.records.Park.{Park}
use Rattle.shunt_blocks.specs.declared.records.Block.{Block}
use Rattle.shunt_plan.specs.declared.records.Plan.{Plan}
use Rattle.shunt_plan.specs.defs.PlanFormat.{plan_format}

-- the version that is written
abbrev pub written_version : ℕ
written_version = 1

-- the names of the arriving train, the departing train and the track with a number
abbrev pub arr_name : Night → ArrId → List ℕ
arr_name night a = slice_index_or (names_of night.arrive) a.0 []

abbrev pub dep_name : Night → DepId → List ℕ
dep_name night d = slice_index_or (names_of night.depart) d.0 []

abbrev pub track_name : Station → TrackId → List ℕ
track_name s t = slice_index_or (track_names s) t.0 []

-- `unparked`, or `park,TRACK,IN,OUT`
abbrev pub option_fields : Station → Option Park → List (List ℕ)
option_fields s None = codes "unparked" ∷ []
option_fields s (Some k) = codes "park" ∷ track_name s k.track ∷ side_text k.side_in ∷ side_text k.side_out ∷ []

-- `plan,1`
abbrev pub head_row : List (List ℕ)
head_row = codes "plan" ∷ decimal written_version ∷ []

-- `block,ID,ARR,P,N,DEP,Q` and the option, by the names of the night's trains and tracks
abbrev pub block_row : Night → Block → List (List ℕ)
block_row night b = codes "block" ∷ decimal b.id ∷ arr_name night b.arr ∷ decimal b.p ∷ decimal b.n ∷ dep_name night b.dep ∷ decimal b.q ∷ option_fields night.station b.park

-- `cost,STATED`
abbrev pub cost_row : ℕ → List (List ℕ)
cost_row stated = codes "cost" ∷ decimal stated ∷ []

-- the records behind the first one: the blocks in their order, and the stated cost
abbrev pub rest_rows : Night → Plan → List (List (List ℕ))
rest_rows night plan = map (block_row night) plan.blocks ++ cost_row plan.cost ∷ []

-- the records of a plan
abbrev pub rows_of : Night → Plan → List (List (List ℕ))
rows_of night plan = head_row ∷ rest_rows night plan

-- the records of a text are those of the plan, and state it
pub record ReadsAsPlan (night : Night) (plan : Plan) (text : List ℕ) : Type 0 where
  pub rows : records_of text ≡ rows_of night plan
  pub value : reading (plan_format night) (records_of text) ≡ Ok plan
