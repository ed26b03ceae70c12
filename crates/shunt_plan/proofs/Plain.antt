-- The records of plans and of edits have plain fields.
use Rattle.std.proofs.Common.{ℕ, ◌+◌, ◌<◌, ◌≤◌, length, map, refl, arith, List}
use Rattle.std.specs.Prelude.{codes, Option, Some, None}
use Rattle.std.specs.List.{AllByRecursion}
use Rattle.std.specs.Fmt.{decimal}
use Rattle.shunt_rows.proofs.Named.{name_at}
use Rattle.shunt_base.specs.declared.ids.ArrId.{ArrId}
use Rattle.shunt_base.specs.declared.ids.DepId.{DepId}
use Rattle.shunt_base.specs.declared.ids.TrackId.{TrackId}
use Rattle.shunt_base.specs.defs.Spelling.{IsName}
use Rattle.shunt_rows.specs.defs.Records.{IsPlainField, IsPlainRow, ArePlain}
use Rattle.shunt_rows.proofs.Plain.{plain_name, plain_number, plain_word, plain_side, plain_more, plain_map}
use Rattle.shunt_instance.specs.declared.records.Station.{Station}
use Rattle.shunt_instance.specs.declared.records.Track.{Track}
use Rattle.shunt_instance.specs.declared.records.Train.{Train}
use Rattle.shunt_instance.specs.defs.Wellformed.{IsStation}
use Rattle.shunt_instance.specs.defs.Instance.{Night, IsOrderedNight}
use Rattle.shunt_blocks.specs.declared.records.Park.{Park}
use Rattle.shunt_blocks.specs.declared.records.Block.{Block}
use Rattle.shunt_blocks.specs.defs.Shapes.{IsOnTrack, IsInRange}
use Rattle.shunt_plan.specs.declared.records.Plan.{Plan}
use Rattle.shunt_plan.specs.defs.Plans.{IsPlanInRange}
use Rattle.shunt_plan.specs.defs.PlanRows.{arr_name, dep_name, track_name, option_fields, head_row, block_row, cost_row, rows_of}
use Rattle.shunt_plan.specs.declared.edits.Turn.{Turn}
use Rattle.shunt_plan.specs.defs.Edits.{IsId, IsTurn, AreTurns}
use Rattle.shunt_plan.specs.defs.WrittenEdits.{park_fields, turn_row, edits_head, rows_of_edits}
use Rattle.shunt_plan.specs.declared.edits.Edit.TheVariants as edits
use Rattle.shunt_plan.specs.declared.edits.Turn.TheVariants as turns

pub arr_named : (night : Night) (a : ArrId) → IsOrderedNight night → a.0 < length night.arrive → IsName (arr_name night a)
arr_named night a h lt = name_at (λ (t : Train). t.name) night.arrive a.0 (λ k d le. (h.timetable.arrive.each k d le).name) lt

pub dep_named : (night : Night) (d : DepId) → IsOrderedNight night → d.0 < length night.depart → IsName (dep_name night d)
dep_named night d h lt = name_at (λ (t : Train). t.name) night.depart d.0 (λ k e le. (h.timetable.depart.each k e le).name) lt

pub track_named : (s : Station) (t : TrackId) → IsStation s → t.0 < length s.tracks → IsName (track_name s t)
track_named s t f lt = name_at (λ (t : Track). t.name) s.tracks t.0 (λ k d le. (f.tracks k d le).name) lt

pub plain_option : (s : Station) (park : Option Park) → IsStation s → IsOnTrack s park → AllByRecursion IsPlainField (option_fields s park)
plain_option s None f on = (plain_word (codes "unparked") refl refl, tt)
plain_option s (Some k) f on = (plain_word (codes "park") refl refl, (plain_name _ (track_named s k.track f on), (plain_side k.side_in, (plain_side k.side_out, tt))))

pub plain_head : IsPlainRow head_row
plain_head = (omega arith, (plain_word (codes "plan") refl refl, (plain_number 1 (omega arith), tt)))

-- a run of a block is within 8 places
pub record AreSmall (b : Block) : Type 0 where
  pub p : b.p ≤ 8
  pub n : b.n ≤ 8
  pub q : b.q ≤ 8

pub small_runs : (night : Night) (b : Block) → IsOrderedNight night → IsInRange night b → AreSmall b
small_runs night b h is =
    let r = is.within.runs in
    let units = (h.timetable.arrive.each b.arr.0 _ r.arr).few in
    let places = (h.timetable.depart.each b.dep.0 _ r.dep).few in
    record {
      p = under b.p b.n _ r.n r.units units;
      n = under b.n b.p _ r.p (let u = r.units in omega arith) units;
      q = under b.q b.n _ r.n r.positions places;
    }
  where
    under : (a b most : ℕ) → 1 ≤ b → a + b ≤ most + 1 → most ≤ 8 → a ≤ 8
    under a b most some le few = omega (arith, some, le, few)

pub plain_block : (night : Night) → IsOrderedNight night → (b : Block) → IsInRange night b → IsPlainRow (block_row night b)
plain_block night h b is =
    let small = small_runs night b h is in
    let id = is.to in let p = small.p in let n = small.n in let q = small.q in (
      omega arith,
      (
        plain_word (codes "block") refl refl,
        (
          plain_number b.id (omega (arith, id)),
          (
            plain_name _ (arr_named night b.arr h is.within.runs.arr),
            (
              plain_number b.p (omega (arith, p)),
              (
                plain_number b.n (omega (arith, n)),
                (plain_name _ (dep_named night b.dep h is.within.runs.dep), (plain_number b.q (omega (arith, q)), plain_option night.station b.park h.station is.within.track)),
              ),
            ),
          ),
        ),
      ),
    )

pub plain_cost : (stated : ℕ) → stated ≤ 1000000000000 → IsPlainRow (cost_row stated)
plain_cost stated le = (omega arith, (plain_word (codes "cost") refl refl, (plain_number stated (omega (arith, le)), tt)))

-- the records of a plan are plain
pub plan_plain : (night : Night) (plan : Plan) → IsOrderedNight night → IsPlanInRange night plan → ArePlain (rows_of night plan)
plan_plain night plan h is = (
  plain_head,
  plain_more (map (block_row night) plan.blocks) _ (plain_map (IsInRange night) (block_row night) plan.blocks (plain_block night h) is.blocks.each)
      (plain_cost plan.cost is.cost, tt),
)

plain_id : (id : ℕ) → IsId id → IsPlainField (decimal id)
plain_id id is = let le = is.1 in plain_number id (omega arith)

plain_count : (k : ℕ) → k ≤ 8 → IsPlainField (decimal k)
plain_count k le = plain_number k (omega arith)

park_plain : (s : Station) → IsStation s → (park : Park) → park.track.0 < length s.tracks → AllByRecursion IsPlainField (park_fields s park)
park_plain s f park lt = (plain_name _ (track_named s park.track f lt), (plain_side park.side_in, (plain_side park.side_out, tt)))

pub turn_plain : (night : Night) → IsOrderedNight night → (t : Turn) → IsTurn night t → IsPlainRow (turn_row night t)
turn_plain night f (turns.Edit (edits.Add arr p n dep q park)) is =
    let r = is.0 in (
      omega arith,
      (
        plain_word (codes "add") refl refl,
        (
          plain_name _ (arr_named night arr f r.arr),
          (plain_count p r.p, (plain_count n r.n, (plain_name _ (dep_named night dep f r.dep), (plain_count q r.q, plain_option night.station park f.station is.1)))),
        ),
      ),
    )
turn_plain night f (turns.Edit (edits.Drop id)) is = (omega arith, (plain_word (codes "drop") refl refl, (plain_id id is, tt)))
turn_plain night f (turns.Edit (edits.Park id park)) is = (omega arith, (plain_word (codes "park") refl refl, (plain_id id is.0, park_plain night.station f.station park is.1)))
turn_plain night f (turns.Edit (edits.Unpark id)) is = (omega arith, (plain_word (codes "unpark") refl refl, (plain_id id is, tt)))
turn_plain night f (turns.Edit (edits.Cut id k)) is = (omega arith, (plain_word (codes "cut") refl refl, (plain_id id is.0, (plain_count k is.1, tt))))
turn_plain night f (turns.Edit (edits.Join a b)) is = (omega arith, (plain_word (codes "join") refl refl, (plain_id a is.0, (plain_id b is.1, tt))))
turn_plain night f turns.Undo is = (omega arith, (plain_word (codes "undo") refl refl, tt))
turn_plain night f turns.Redo is = (omega arith, (plain_word (codes "redo") refl refl, tt))

pub head_plain : IsPlainRow edits_head
head_plain = (omega arith, (plain_word (codes "edits") refl refl, (plain_count 1 (omega arith), tt)))

pub edits_plain : (night : Night) → IsOrderedNight night → (all : List Turn) → AreTurns night all → ArePlain (rows_of_edits night all)
edits_plain night f all are = (head_plain, plain_map (IsTurn night) (turn_row night) all (turn_plain night f) are.each)
