-- What the records of a plan, of pins and of edits state is in range.
use Rattle.std.proofs.Common.{◌≡◌, ◌≢◌, ℕ, ◌+◌, ◌-◌, ◌<◌, ◌≤◌, Bool, true, false, List, [], ◌∷◌, ◌++◌, length, length-append, refl, subst, arith, sym}
use Rattle.std.specs.Prelude.{Ok, bytes_eq, ◌==◌, Some, if◌then◌else◌, codes, true, nat_lt}
use Rattle.std.specs.Option.{is_some, unwrap_or}
use Rattle.std.proofs.lemmas.List.Elements.{All-nil, All-push}
use Rattle.std.proofs.lemmas.Bool.{ltb-true, not-true, eq-eqb, true≢false}
use Rattle.shunt_lists.proofs.Lists.{no_pairs}
use Rattle.shunt_base.specs.declared.ids.ArrId.{ArrId}
use Rattle.shunt_base.specs.declared.ids.DepId.{DepId}
use Rattle.shunt_rows.specs.defs.Records.{at}
use Rattle.shunt_rows.specs.defs.Checks.{AllHold, Judged, answer}
use Rattle.shunt_rows.specs.defs.Fields.{is_word}
use Rattle.shunt_rows.specs.defs.Formats.{in_state, reading}
use Rattle.shunt_rows.proofs.Answered.{says, hold_first, in_either, hold_rest}
use Rattle.shunt_rows.proofs.KeptStates.{formed}
use Rattle.shunt_rows.proofs.Named.{distinct_push}
use Rattle.shunt_rows.proofs.Spelled.{there, within}
use Rattle.shunt_instance.specs.declared.records.Station.{Station}
use Rattle.shunt_instance.specs.declared.records.Train.{Train}
use Rattle.shunt_instance.specs.defs.Instance.{Night, arr_of_name, dep_of_name}
use Rattle.shunt_blocks.specs.declared.records.Block.{Block}
use Rattle.shunt_blocks.specs.defs.Shapes.{IsOnTrack, IsInRange}
use Rattle.shunt_blocks.specs.defs.Lists.{AreInRange}
use Rattle.shunt_plan.specs.declared.records.Plan.{Plan}
use Rattle.shunt_plan.specs.defs.BlockRecords.{arr_units, dep_units, track_in, unparked_in, parked_in, option_in, has_id, runs_of, block_of, blocks_of, arr_in, dep_in}
use Rattle.shunt_plan.specs.defs.PlanFormat.{PlanDraft, plan_format}
use Rattle.shunt_plan.specs.defs.PinsFormat.{pins_first, pins_later, pins_format}
use Rattle.shunt_plan.specs.defs.Plans.{IsPlanInRange}
use Rattle.shunt_blocks.specs.declared.records.Shape.{Shape}
use Rattle.shunt_plan.specs.declared.edits.Turn.{Turn}
use Rattle.shunt_plan.specs.defs.Edits.{AreRunsStated, IsTurn, AreTurns, runs_in, add_of, drop_of, park_of, unpark_of, cut_of, join_of, undo_of, redo_of, turn_of, edits_first, edits_later, edits_format}
use Rattle.shunt_instance.specs.declared.records.Origin.TheVariants as origin
use Rattle.shunt_instance.specs.defs.Words.{track_of_name}
use Rattle.shunt_instance.proofs.Found.{number_found, track_within}
use Rattle.shunt_plan.specs.defs.PlanFormat as plan

-- ---- what is found of names

abbrev no_train : Train
no_train = record { name = []; minute = 0; origin = origin.Platform (record { 0 = 0 }); units = []; placed = [] }

pub arr_within : (night : Night) (name : List ℕ) (a : ArrId) → arr_of_name night name ≡ Some a → a.0 < length night.arrive
arr_within night name a e = number_found (λ t. bytes_eq t.name name) night.arrive no_train (λ k. record { 0 = k }) (λ j. j.0) (λ k. refl) a e

pub dep_within : (night : Night) (name : List ℕ) (d : DepId) → dep_of_name night name ≡ Some d → d.0 < length night.depart
dep_within night name d e = number_found (λ t. bytes_eq t.name name) night.depart no_train (λ k. record { 0 = k }) (λ j. j.0) (λ k. refl) d e

-- a run from one place on ends inside its train
inside : (p n units : ℕ) → 1 ≤ n → n ≤ units + 1 - p → p + n ≤ units + 1
inside p n units some le = omega (arith, some, le)

inside_too : (n q units : ℕ) → 1 ≤ q → q ≤ units + 1 - n → q + n ≤ units + 1
inside_too n q units some le = omega (arith, some, le)

-- ---- one block

pub track_held : (s : Station) (row : List (List ℕ)) (k : ℕ) → AllHold (track_in s row k).checks → (track_in s row k).value.0 < length s.tracks
track_held s row k h = track_within s (at row k) (track_in s row k).value (there (record { 0 = 0 }) (track_of_name s (at row k)) h.0)

-- what is true of both records is true of the one that is chosen
pub chosen : {A : Type 0} (b : Bool) (m k : Judged A) (P : A → Type 0) → (AllHold m.checks → P m.value) → (AllHold k.checks → P k.value) → AllHold (if b then m else k).checks
    → P (if b then m else k).value
chosen true m k P f g h = f h
chosen false m k P f g h = g h

unparked_holds : (s : Station) (row : List (List ℕ)) (k : ℕ) → AllHold (unparked_in row k).checks → IsOnTrack s (unparked_in row k).value
unfolding unparked_in
unparked_holds s row k h = tt

parked_holds : (s : Station) (row : List (List ℕ)) (k : ℕ) → AllHold (parked_in s row k).checks → IsOnTrack s (parked_in s row k).value
unfolding parked_in
parked_holds s row k h = track_held s row (k + 1) (h.1.0, tt)

-- an option that is read is on a track of the station
pub option_holds : (s : Station) (row : List (List ℕ)) (k : ℕ) → AllHold (option_in s row k).checks → IsOnTrack s (option_in s row k).value
unfolding option_in
option_holds s row k = chosen (length row == k) (unparked_in row k) (parked_in s row k) (IsOnTrack s) (unparked_holds s row k) (parked_holds s row k)

-- a block that is read behind these is in range, and fits to them
record IsMore (night : Night) (blocks : List Block) (b : Block) : Type 0 where
  room : length blocks < 400
  new : has_id blocks b.id ≡ false
  in_range : IsInRange night b

block_holds : (night : Night) (blocks : List Block) (row : List (List ℕ)) → AllHold (block_of night blocks row).checks → IsMore night blocks (block_of night blocks row).value
unfolding block_of runs_of arr_units dep_units
block_holds night blocks row h =
    let room = h.1 in
    let new = room.1.1 in
    let id = new.1 in
    let arr = id.1 in
    let p = arr.1.1 in
    let size = p.1.1 in
    let dep = size.1 in
    let q = dep.1.1 in
    let made = (block_of night blocks row).value in
    let low = within 1 1000000 made.id id.0 in
    let first = within 1 (arr_units night made.arr) made.p p.0 in
    let count = within 1 (arr_units night made.arr + 1 - made.p) made.n size.0 in
    let place = within 1 (dep_units night made.dep + 1 - made.n) made.q q.0 in
    record {
      room = ltb-true _ _ room.0;
      new = not-true _ new.0;
      in_range = record {
        from = low.0;
        to = low.1;
        within = record {
          runs = record {
            arr = arr_within night (at row 3) made.arr (there (record { 0 = 0 }) _ arr.0);
            dep = dep_within night (at row 6) made.dep (there (record { 0 = 0 }) _ dep.0);
            p = first.0;
            n = count.0;
            q = place.0;
            units = inside made.p made.n _ count.0 count.1;
            positions = inside_too made.n made.q _ place.0 place.1;
          };
          track = option_holds night.station row 8 (hold_first (option_in night.station row 8).checks [] q.1);
        };
      };
    }

-- ---- blocks

one_more : (night : Night) (blocks : List Block) (b : Block) → AreInRange night blocks → IsMore night blocks b → AreInRange night (blocks ++ b ∷ [])
unfolding has_id
one_more night blocks b are more = record {
  few = let lt = more.room in omega (arith, lt, length-append blocks (b ∷ []));
  each = All-push (IsInRange night) blocks b are.each more.in_range;
  ids = distinct_push (λ (c : Block). c.id) (λ c. c.id == b.id) blocks b (λ c same. eq-eqb c.id b.id same) are.ids more.new;
}

blocks_hold : (night : Night) (blocks : List Block) (row : List (List ℕ)) → AreInRange night blocks → AllHold (blocks_of night blocks row).checks
    → AreInRange night (blocks_of night blocks row).value
unfolding blocks_of
blocks_hold night blocks row are h =
    let one = block_of night blocks row in
    one_more night blocks one.value are (block_holds night blocks row (hold_first one.checks [] h))

-- ---- whole files

none_in_range : (night : Night) → AreInRange night []
none_in_range night = record { few = omega arith; each = All-nil (IsInRange night); ids = no_pairs (λ x y. x ≢ y) }

-- what is stated of a plan so far
record IsDraft (night : Night) (d : PlanDraft) : Type 0 where
  blocks : AreInRange night d.blocks
  cost : unwrap_or d.cost 0 ≤ 1000000000000

draft_first : (night : Night) (d : PlanDraft) (row : List (List ℕ)) → answer 1 (plan.first_of row) ≡ Ok d → IsDraft night d
unfolding plan.first_of
draft_first night d row e = subst (IsDraft night) (says 1 (plan.first_of row) d e).1 (record { blocks = none_in_range night; cost = omega arith })

draft_more : (n : ℕ) (night : Night) (d t : PlanDraft) (row : List (List ℕ)) → IsDraft night d → answer n (plan.more_of night d row) ≡ Ok t → IsDraft night t
unfolding plan.more_of
draft_more n night d t row is e =
    let s = says n (plan.more_of night d row) t e in
    subst (IsDraft night) s.1 (record { blocks = blocks_hold night d.blocks row is.blocks (hold_first (blocks_of night d.blocks row).checks [] s.0); cost = is.cost })

draft_cost : (n : ℕ) (night : Night) (d t : PlanDraft) (row : List (List ℕ)) → IsDraft night d → answer n (plan.cost_of d row) ≡ Ok t → IsDraft night t
unfolding plan.cost_of
draft_cost n night d t row is e =
    let s = says n (plan.cost_of d row) t e in
    subst (IsDraft night) s.1 (record { blocks = is.blocks; cost = (within 0 1000000000000 _ s.0.1.1.0).1 })

draft_later : (n : ℕ) (night : Night) (d t : PlanDraft) (row : List (List ℕ)) → IsDraft night d → answer n (in_state (plan_format night) d row) ≡ Ok t → IsDraft night t
unfolding plan.later_of
draft_later n night d t row is =
    in_either n (is_some d.cost) _ _ t (IsDraft night t) (λ ends e. absurd cc)
    (in_either n (is_word row (codes "block")) _ _ t (IsDraft night t) (λ word. draft_more n night d t row is)
    (in_either n (is_word row (codes "cost")) _ _ t (IsDraft night t) (λ word. draft_cost n night d t row is) (λ e. absurd cc)))

pub plan_formed : (night : Night) (rows : List (List (List ℕ))) (p : Plan) → reading (plan_format night) rows ≡ Ok p → IsPlanInRange night p
plan_formed night = formed (plan_format night) (IsDraft night) (IsPlanInRange night) (draft_first night) (λ n d t row. draft_later n night d t row)
    (λ d is. record { blocks = is.blocks; cost = is.cost })

pins_start : (night : Night) (pins : List Block) (row : List (List ℕ)) → answer 1 (pins_first row) ≡ Ok pins → AreInRange night pins
unfolding pins_first
pins_start night pins row e = subst (AreInRange night) (says 1 (pins_first row) pins e).1 (none_in_range night)

pins_step : (n : ℕ) (night : Night) (pins more : List Block) (row : List (List ℕ)) → AreInRange night pins → answer n (in_state (pins_format night) pins row) ≡ Ok more
    → AreInRange night more
unfolding pins_later
pins_step n night pins more row are =
    in_either n (is_word row (codes "block")) _ _ more (AreInRange night more)
    (λ word e. let s = says n (blocks_of night pins row) more e in subst (AreInRange night) s.1 (blocks_hold night pins row are s.0))
    (λ e. absurd cc)

pub pins_formed : (night : Night) (rows : List (List (List ℕ))) (pins : List Block) → reading (pins_format night) rows ≡ Ok pins → AreInRange night pins
pins_formed night = formed (pins_format night) (AreInRange night) (AreInRange night) (pins_start night) (λ n s t row. pins_step n night s t row) (λ s is. is)

arr_held : (night : Night) (row : List (List ℕ)) (k : ℕ) → AllHold (arr_in night row k).checks → (arr_in night row k).value.0 < length night.arrive
arr_held night row k h = arr_within night (at row k) (arr_in night row k).value (there (record { 0 = 0 }) (arr_of_name night (at row k)) h.0)

dep_held : (night : Night) (row : List (List ℕ)) (k : ℕ) → AllHold (dep_in night row k).checks → (dep_in night row k).value.0 < length night.depart
dep_held night row k h = dep_within night (at row k) (dep_in night row k).value (there (record { 0 = 0 }) (dep_of_name night (at row k)) h.0)

-- a turn that a file can state, where there was room for it
abbrev Formed : Night → ℕ → Turn → Type 0
Formed night before t = (before < 10000) × IsTurn night t

abbrev RunsFormed : Night → ℕ → Shape → Type 0
RunsFormed night before s = (before < 10000) × AreRunsStated night s

runs_formed : (night : Night) (before : ℕ) (row : List (List ℕ)) → AllHold (runs_in night before row).checks → RunsFormed night before (runs_in night before row).value
unfolding runs_in
runs_formed night before row h = (
  ltb-true before 10000 h.1.0,
  record {
    arr = arr_held night row 2 (h.1.1.0, tt);
    p = (within 0 8 _ h.1.1.1.1.0).1;
    n = (within 0 8 _ h.1.1.1.1.1.1.0).1;
    dep = dep_held night row 5 (h.1.1.1.1.1.1.1.0, tt);
    q = (within 0 8 _ h.1.1.1.1.1.1.1.1.1.0).1;
  },
)

add_formed : (night : Night) (before : ℕ) (row : List (List ℕ)) → AllHold (add_of night before row).checks → Formed night before (add_of night before row).value
unfolding add_of
add_formed night before row h =
    let runs = runs_in night before row in
    let park = option_in night.station row 7 in
    let r = runs_formed night before row (hold_first runs.checks (park.checks ++ []) h) in
    (r.0, (r.1, option_holds night.station row 7 (hold_first park.checks [] (hold_rest runs.checks (park.checks ++ []) h))))

turn_formed : (night : Night) (before : ℕ) (row : List (List ℕ)) → AllHold (turn_of night before row).checks → Formed night before (turn_of night before row).value
unfolding turn_of drop_of park_of unpark_of cut_of join_of undo_of redo_of
turn_formed night before row =
    chosen (is_word row (codes "add")) _ _ (Formed night before) (add_formed night before row)
    (chosen (is_word row (codes "drop")) _ _ (Formed night before) (λ h. (room h.1.0, within 1 1000000 _ h.1.1.1.0))
    (chosen (is_word row (codes "park")) _ _ (Formed night before) (λ h. (room h.1.0, (within 1 1000000 _ h.1.1.1.0, track_held night.station row 3 (h.1.1.1.1.0, tt))))
    (chosen (is_word row (codes "unpark")) _ _ (Formed night before) (λ h. (room h.1.0, within 1 1000000 _ h.1.1.1.0))
    (chosen (is_word row (codes "cut")) _ _ (Formed night before) (λ h. (room h.1.0, (within 1 1000000 _ h.1.1.1.0, (within 0 8 _ h.1.1.1.1.1.0).1)))
    (chosen (is_word row (codes "join")) _ _ (Formed night before) (λ h. (room h.1.0, (within 1 1000000 _ h.1.1.1.0, within 1 1000000 _ h.1.1.1.1.1.0)))
    (chosen (is_word row (codes "undo")) _ _ (Formed night before) (λ h. (room h.1.0, tt))
    (chosen (is_word row (codes "redo")) _ _ (Formed night before) (λ h. (room h.1.0, tt)) (λ h. absurd (true≢false (sym h.0))))))))))
  where
    room : nat_lt before 10000 ≡ true → before < 10000
    room e = ltb-true before 10000 e

later_formed : (n : ℕ) (night : Night) (before after : List Turn) (row : List (List ℕ)) → AreTurns night before → answer n (edits_later night before row) ≡ Ok after
    → AreTurns night after
unfolding edits_later
later_formed n night before after row are e =
    let m = turn_of night (length before) row in
    let s = says n (edits_later night before row) after e in
    let f = turn_formed night (length before) row (hold_first m.checks [] s.0) in
    subst (AreTurns night) s.1
    (record {
      few = omega (arith, f.0, length-append before (m.value ∷ []));
      each = All-push (IsTurn night) before m.value are.each f.1;
    })

first_formed : (night : Night) (before : List Turn) (row : List (List ℕ)) → answer 1 (edits_first row) ≡ Ok before → AreTurns night before
unfolding edits_first
first_formed night before row e = subst (AreTurns night) (says 1 (edits_first row) before e).1 (record { few = omega arith; each = All-nil (IsTurn night) })

-- what is stated is turns that a file can state
pub turns_formed : (night : Night) (rows : List (List (List ℕ))) (all : List Turn) → reading (edits_format night) rows ≡ Ok all → AreTurns night all
turns_formed night = formed (edits_format night) (AreTurns night) (AreTurns night) (first_formed night) (λ n s t row. later_formed n night s t row) (λ s is. is)
