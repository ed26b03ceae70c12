-- The records of a plan and of edits state them.
use Rattle.std.proofs.Common.{◌≡◌, ℕ, ◌+◌, ◌-◌, ◌<◌, ◌≤◌, Bool, true, false, not, ◌||◌, List, [], ◌∷◌, ◌++◌, length, length-append, map, refl, ap, subst, ◌∙◌, arith, sym}
use Rattle.std.specs.Prelude.{Ok, ◌==◌, Option, Some, None, option_map, nat_lt, codes}
use Rattle.std.specs.Fmt.{decimal}
use Rattle.std.proofs.lemmas.List.{length-map}
use Rattle.std.proofs.lemmas.Bool.{lt-ltb, eqb-true}
use Rattle.std.proofs.lemmas.Option.{slice_get-get_or}
use Rattle.std.specs.Option.{is_some, unwrap_or}
use Rattle.shunt_lists.specs.defs.Members.{AreDistinct}
use Rattle.shunt_base.specs.declared.ids.ArrId.{ArrId}
use Rattle.shunt_base.specs.declared.ids.DepId.{DepId}
use Rattle.shunt_base.specs.declared.ids.TrackId.{TrackId}
use Rattle.shunt_base.specs.declared.ids.Side.{Side}
use Rattle.shunt_base.specs.declared.ids.Side.TheVariants.{A}
use Rattle.shunt_base.specs.defs.Spelling.{decimal_of}
use Rattle.shunt_rows.specs.defs.Records.{records_of, text_of_rows, ReadsBack}
use Rattle.shunt_rows.specs.defs.Checks.{Judged, answer, must, says, found, ◌>>=◌}
use Rattle.shunt_rows.specs.defs.Fields.{is_within, side_of}
use Rattle.shunt_rows.specs.defs.Formats.{in_state, IsReadByEach, reads, reading}
use Rattle.shunt_rows.specs.defs.Written.{side_text}
use Rattle.shunt_rows.proofs.Again.{again}
use Rattle.shunt_rows.proofs.Answered.{holding}
use Rattle.shunt_rows.proofs.Joins.{part_ok}
use Rattle.shunt_rows.proofs.Named.{not_before, of_middle}
use Rattle.shunt_rows.proofs.Plain.{side_read}
use Rattle.shunt_rows.proofs.Sections.{section_then, one_reads, all_read, section}
use Rattle.shunt_rows.proofs.Spelled.{number_again, in_range, IsRead, number_read}
use Rattle.shunt_instance.specs.declared.records.Station.{Station}
use Rattle.shunt_instance.specs.declared.records.Track.{Track}
use Rattle.shunt_instance.specs.declared.records.Train.{Train}
use Rattle.shunt_instance.specs.defs.Wellformed.{IsStation}
use Rattle.shunt_instance.specs.defs.Instance.{Night, IsInstance, IsOrderedNight, arr_of_name, dep_of_name}
use Rattle.shunt_instance.proofs.Found.{found_there}
use Rattle.shunt_instance.proofs.Orders.{opened}
use Rattle.shunt_blocks.specs.declared.records.Park.{Park}
use Rattle.shunt_blocks.specs.declared.records.Block.{Block}
use Rattle.shunt_blocks.specs.defs.Shapes.{IsOnTrack, IsInRange}
use Rattle.shunt_blocks.specs.defs.Lists.{AreInRange}
use Rattle.shunt_plan.specs.declared.records.Plan.{Plan}
use Rattle.shunt_plan.specs.defs.BlockRecords.{arr_units, dep_units, unparked_in, parked_in, option_in, has_id, runs_of, block_of, blocks_of}
use Rattle.shunt_plan.specs.defs.PlanFormat.{PlanDraft, first_of, more_of, cost_of, later_of, plan_format}
use Rattle.shunt_plan.specs.defs.Plans.{IsPlanInRange}
use Rattle.shunt_plan.specs.defs.PlanRows.{arr_name, dep_name, track_name, option_fields, head_row, block_row, cost_row, rows_of, ReadsAsPlan, rest_rows}
use Rattle.shunt_plan.proofs.Parts.{block_is, one_more, add_is, one_turn}
use Rattle.shunt_plan.proofs.Plain.{small_runs, plan_plain, edits_plain}
use Rattle.shunt_blocks.specs.declared.records.Shape.{Shape}
use Rattle.shunt_blocks.proofs.Made.{made_shape, made_park}
use Rattle.shunt_plan.specs.declared.edits.Turn.{Turn}
use Rattle.shunt_plan.specs.defs.Edits.{IsId, AreRunsStated, IsTurn, AreTurns, runs_in, drop_of, park_of, unpark_of, cut_of, join_of, undo_of, redo_of, turn_of, edits_first, edits_format}
use Rattle.shunt_plan.specs.defs.WrittenEdits.{edit_row, turn_row, edits_head, rows_of_edits, ReadsAsEdits}
use Rattle.shunt_rows.specs.declared.fault.RowKind.TheVariants as kinds
use Rattle.shunt_instance.specs.declared.records.Origin.TheVariants as origin
use Rattle.shunt_instance.specs.defs.Words.{track_of_name}
use Rattle.shunt_base.specs.declared.ids.Side.TheVariants as sides
use Rattle.shunt_plan.specs.declared.edits.Edit.TheVariants as edits
use Rattle.shunt_plan.specs.declared.edits.Turn.TheVariants as turns

-- ---- names

abbrev arr_id : ℕ → ArrId
arr_id k = record { 0 = k }

abbrev dep_id : ℕ → DepId
dep_id k = record { 0 = k }

abbrev track_id : ℕ → TrackId
track_id k = record { 0 = k }

abbrev no_train : Train
no_train = record { name = []; minute = 0; origin = origin.Platform (record { 0 = 0 }); units = []; placed = [] }

abbrev no_track : Track
no_track = record { name = []; length = 0; side_a = false; side_b = false }

pub arr_there : (night : Night) (a : ArrId) → IsOrderedNight night → a.0 < length night.arrive → arr_of_name night (arr_name night a) ≡ Some a
arr_there night a h lt =
    ap (option_map arr_id) (found_there (λ (t : Train). t.name) night.arrive (arr_name night a) a.0 no_train h.timetable.arrive.names
    (slice_get-get_or (map (λ (t : Train). t.name) night.arrive) a.0 [] (omega (arith, lt, length-map night.arrive (λ (t : Train). t.name)))))

pub dep_there : (night : Night) (d : DepId) → IsOrderedNight night → d.0 < length night.depart → dep_of_name night (dep_name night d) ≡ Some d
dep_there night d h lt =
    ap (option_map dep_id) (found_there (λ (t : Train). t.name) night.depart (dep_name night d) d.0 no_train h.timetable.depart.names
    (slice_get-get_or (map (λ (t : Train). t.name) night.depart) d.0 [] (omega (arith, lt, length-map night.depart (λ (t : Train). t.name)))))

pub track_there : (s : Station) (t : TrackId) → IsStation s → t.0 < length s.tracks → track_of_name s (track_name s t) ≡ Some t
track_there s t f lt =
    ap (option_map track_id) (found_there (λ (t : Track). t.name) s.tracks (track_name s t) t.0 no_track f.track_names
    (slice_get-get_or (map (λ (t : Track). t.name) s.tracks) t.0 [] (omega (arith, lt, length-map s.tracks (λ (t : Track). t.name)))))

-- ---- one block

-- what a parked option says, by what is found of its track and sides
abbrev parked_by : ℕ → Option TrackId → Option Side → Option Side → Judged (Option Park)
parked_by k track entry leave = do
  _ ← must true k kinds.Kind
  t ← found (record { 0 = 0 }) track (k + 1) kinds.Unknown
  a ← found A entry (k + 2) kinds.Kind
  b ← found A leave (k + 3) kinds.Kind
  says (Some record { track = t; side_in = a; side_out = b })

pub option_read : (n : ℕ) (s : Station) (a b c d e f g : List ℕ) (park : Option Park) → IsStation s → IsOnTrack s park
    → answer n (option_in s (a ∷ b ∷ c ∷ d ∷ e ∷ f ∷ g ∷ option_fields s park) 8) ≡ Ok park
unfolding option_in unparked_in parked_in
option_read n s a b c d e f g None is on = refl
option_read n s a b c d e f g (Some k) is on =
    ap (λ o. answer n (parked_by 8 o (side_of (side_text k.side_in)) (side_of (side_text k.side_out)))) (track_there s k.track is on)
    ∙ ap (λ o. answer n (parked_by 8 (Some k.track) o (side_of (side_text k.side_out)))) (side_read k.side_in)
    ∙ ap (λ o. answer n (parked_by 8 (Some k.track) (Some k.side_in) o)) (side_read k.side_out)

-- a record of a block has 8 or 11 fields
pub fields_fit : (s : Station) (a b c d e f g : List ℕ) (park : Option Park) → (length (a ∷ b ∷ c ∷ d ∷ e ∷ f ∷ g ∷ option_fields s park) == 8 || length
    (a ∷ b ∷ c ∷ d ∷ e ∷ f ∷ g ∷ option_fields s park) == 11) ≡ true
fields_fit s a b c d e f g None = refl
fields_fit s a b c d e f g (Some k) = refl

-- what the runs of a block say, by what is found of them
abbrev runs_by : Night → List Block → Bool → Option ℕ → Option ArrId → Option ℕ → Option ℕ → Option DepId → Option ℕ → Judged Block
runs_by night blocks fits id arr p n dep q = do
  _ ← must fits 1 kinds.Fields
  _ ← must (nat_lt (length blocks) 400) 1 kinds.Limit
  i ← found 0 id 2 kinds.Number
  _ ← must (not (has_id blocks i)) 2 kinds.Repeat
  _ ← must (is_within 1 1000000 i) 2 kinds.Limit
  a ← found (record { 0 = 0 }) arr 3 kinds.Unknown
  first ← found 0 p 4 kinds.Number
  _ ← must (is_within 1 (arr_units night a) first) 4 kinds.Limit
  count ← found 0 n 5 kinds.Number
  _ ← must (is_within 1 (arr_units night a + 1 - first) count) 5 kinds.Limit
  d ← found (record { 0 = 0 }) dep 6 kinds.Unknown
  place ← found 0 q 7 kinds.Number
  _ ← must (is_within 1 (dep_units night d + 1 - count) place) 7 kinds.Limit
  says record { id = i; arr = a; p = first; n = count; dep = d; q = place; park = None }

-- a run that ends inside its train is within the limits that are read
inside : (p n units : ℕ) → 1 ≤ n → p + n ≤ units + 1 → (p ≤ units) × (n ≤ units + 1 - p)
inside p n units some le = (omega (arith, some, le), omega (arith, some, le))

runs_hold : (k : ℕ) (night : Night) (xs : List Block) (y : Block) → length xs < 400 → has_id xs y.id ≡ false → IsInRange night y
    → answer k (runs_by night xs true (Some y.id) (Some y.arr) (Some y.p) (Some y.n) (Some y.dep) (Some y.q)) ≡ Ok (record y { park = None })
unfolding arr_units dep_units
runs_hold k night xs y room new is =
    let r = is.within.runs in
    let units = inside y.p y.n (arr_units night y.arr) r.n r.units in
    let places = inside y.n y.q (dep_units night y.dep) r.q (let le = r.positions in omega (arith, le)) in
    let m = runs_by night xs true (Some y.id) (Some y.arr) (Some y.p) (Some y.n) (Some y.dep) (Some y.q) in
    holding k m.checks m.value (
      refl,
      (
        lt-ltb (length xs) 400 room,
        (
          refl,
          (
            ap not new,
            (
              in_range 1 1000000 y.id is.from is.to,
              (
                refl,
                (
                  refl,
                  (
                    in_range 1 (arr_units night y.arr) y.p r.p units.0,
                    (
                      refl,
                      (in_range 1 (arr_units night y.arr + 1 - y.p) y.n r.n units.1, (refl, (refl, (in_range 1 (dep_units night y.dep + 1 - y.n) y.q r.q places.1, tt)))),
                    ),
                  ),
                ),
              ),
            ),
          ),
        ),
      ),
    )

runs_read : (k : ℕ) (night : Night) (xs : List Block) (y : Block) → IsOrderedNight night → length xs < 400 → has_id xs y.id ≡ false → IsInRange night y
    → answer k (runs_of night xs (block_row night y)) ≡ Ok (record y { park = None })
unfolding runs_of
runs_read k night xs y h room new is =
    let small = small_runs night y h is in
    let by = runs_by night xs in
    let id = decimal_of (decimal y.id) in
    let arr = arr_of_name night (arr_name night y.arr) in
    let p = decimal_of (decimal y.p) in
    let n = decimal_of (decimal y.n) in
    let dep = dep_of_name night (dep_name night y.dep) in
    let q = decimal_of (decimal y.q) in
    ap (λ o. answer k (by o id arr p n dep q)) (fields_fit night.station (codes "block") (decimal y.id) (arr_name night y.arr) (decimal y.p) (decimal y.n) (dep_name night y.dep)
    (decimal y.q) y.park)
    ∙ ap (λ o. answer k (by true o arr p n dep q)) (number_again y.id (let le = is.to in omega (arith, le)))
    ∙ ap (λ o. answer k (by true (Some y.id) o p n dep q)) (arr_there night y.arr h is.within.runs.arr)
    ∙ ap (λ o. answer k (by true (Some y.id) (Some y.arr) o n dep q)) (number_again y.p (let le = small.p in omega (arith, le)))
    ∙ ap (λ o. answer k (by true (Some y.id) (Some y.arr) (Some y.p) o dep q)) (number_again y.n (let le = small.n in omega (arith, le)))
    ∙ ap (λ o. answer k (by true (Some y.id) (Some y.arr) (Some y.p) (Some y.n) o q)) (dep_there night y.dep h is.within.runs.dep)
    ∙ ap (λ o. answer k (by true (Some y.id) (Some y.arr) (Some y.p) (Some y.n) (Some y.dep) o)) (number_again y.q (let le = small.q in omega (arith, le)))
    ∙ runs_hold k night xs y room new is

pub block_read : (k : ℕ) (night : Night) (xs : List Block) (y : Block) → IsOrderedNight night → length xs < 400 → has_id xs y.id ≡ false → IsInRange night y
    → answer k (block_of night xs (block_row night y)) ≡ Ok y
block_read k night xs y h room new is =
    block_is k night xs (block_row night y) (record y { park = None }) y.park (runs_read k night xs y h room new is)
    (option_read k night.station (codes "block") (decimal y.id) (arr_name night y.arr) (decimal y.p) (decimal y.n) (dep_name night y.dep)
    (decimal y.q) y.park h.station is.within.track)

-- ---- the whole plan

pub id_new : (xs zs : List Block) (y : Block) → AreDistinct (map (λ (b : Block). b.id) (xs ++ y ∷ zs)) → has_id xs y.id ≡ false
unfolding has_id
id_new xs zs y all = not_before (λ (b : Block). b.id) (λ b. b.id == y.id) xs zs y (λ b. eqb-true b.id y.id) all

-- a plan of which that many blocks were read
abbrev partial : List Block → PlanDraft
partial blocks = record { blocks = blocks; cost = None }

more_read : (night : Night) (all : List Block) → IsOrderedNight night → AreInRange night all → IsReadByEach (plan_format night) (block_row night) partial all
unfolding later_of more_of
more_read night all h are n xs y zs e =
    let inside = subst (AreInRange night) e are in
    let few = inside.few in
    let room : length xs < 400 = omega (arith, few, length-append xs (y ∷ zs)) in
    let block = block_read n night xs y h room (id_new xs zs y inside.ids) (of_middle (IsInRange night) all xs zs y are.each e) in
    part_ok n (blocks_of night xs (block_row night y)) (λ blocks. says (partial blocks)) (xs ++ y ∷ []) (one_more n night xs (xs ++ y ∷ []) (block_row night y) y block refl)

abbrev whole : Plan → PlanDraft
whole plan = record { blocks = plan.blocks; cost = Some plan.cost }

-- what a stated cost says, by what is found of it
abbrev cost_by : PlanDraft → Option ℕ → Judged PlanDraft
cost_by d cost = do
  _ ← must true 1 kinds.Fields
  x ← found 0 cost 2 kinds.Number
  _ ← must (is_within 0 1000000000000 x) 2 kinds.Limit
  says record d { cost = Some x }

cost_read : (night : Night) (plan : Plan) (n : ℕ) → plan.cost ≤ 1000000000000 → answer n (in_state (plan_format night) (partial plan.blocks) (cost_row plan.cost)) ≡ Ok (whole plan)
unfolding later_of cost_of is_within
cost_read night plan n le =
    let m = cost_by (partial plan.blocks) (Some plan.cost) in
    ap (λ o. answer n (cost_by (partial plan.blocks) o)) (number_again plan.cost (omega (arith, le)))
    ∙ holding n m.checks m.value (refl, (refl, (in_range 0 1000000000000 plan.cost (omega arith) le, tt)))

-- what the first record says, by what is found of its version
abbrev head_by : Option ℕ → Judged PlanDraft
head_by version = do
  _ ← must true 1 kinds.Kind
  _ ← must true 1 kinds.Fields
  x ← found 0 version 2 kinds.Number
  _ ← must (is_within 1 1 x) 2 kinds.Limit
  says (partial [])

head_read : answer 1 (first_of head_row) ≡ Ok (partial [])
unfolding first_of is_within
head_read = ap (λ o. answer 1 (head_by o)) (number_again 1 (omega arith))

rest_read : (night : Night) (plan : Plan) → IsOrderedNight night → IsPlanInRange night plan → reads (plan_format night) (partial []) 2 (rest_rows night plan) ≡ Ok (whole plan)
rest_read night plan h is =
    let f = plan_format night in
    section_then f (block_row night) partial plan.blocks (whole plan) (cost_row plan.cost ∷ []) (more_read night plan.blocks h is.blocks)
    (λ k. one_reads f (partial plan.blocks) (whole plan) k (cost_row plan.cost) (cost_read night plan k is.cost)) 2

-- the records of a plan state it
plan_back : (night : Night) (plan : Plan) → IsOrderedNight night → IsPlanInRange night plan → reading (plan_format night) (rows_of night plan) ≡ Ok plan
plan_back night plan h is = all_read (plan_format night) head_row (rest_rows night plan) (partial []) (whole plan) head_read (rest_read night plan h is) refl

pub records_back : (night : Night) (plan : Plan) → IsInstance night → IsPlanInRange night plan → reading (plan_format night) (rows_of night plan) ≡ Ok plan
records_back night plan h is = plan_back night plan (opened night h) is

-- the plan's text is read back
pub back_from : (night : Night) (plan : Plan) → IsInstance night → IsPlanInRange night plan → (text bytes : List ℕ) → text ≡ text_of_rows (rows_of night plan)
    → ReadsBack text bytes → ReadsAsPlan night plan bytes
back_from night plan h is text bytes e back =
    let rows = back (rows_of night plan) (plan_plain night plan (opened night h) is) e in
    record { rows = rows; value = ap (reading (plan_format night)) rows ∙ records_back night plan h is }

pub text_back : (night : Night) (plan : Plan) → IsInstance night → IsPlanInRange night plan → ReadsAsPlan night plan (text_of_rows (rows_of night plan))
text_back night plan h is = back_from night plan h is (text_of_rows (rows_of night plan)) (text_of_rows (rows_of night plan)) refl
    (λ rows plain e. ap records_of e ∙ again rows plain)

id_read : (id : ℕ) → IsId id → IsRead 1 1000000 id
id_read id is = number_read 1 1000000 id is.0 is.1 (omega arith)

count_read : (k : ℕ) → k ≤ 8 → IsRead 0 8 k
count_read k le = number_read 0 8 k (omega arith) le (omega arith)

-- what is read of a track and two sides
park_same : (s : Station) → IsStation s → (park : Park) → park.track.0 < length s.tracks
    → made_park (unwrap_or (track_of_name s (track_name s park.track)) (track_id 0)) (unwrap_or (side_of (side_text park.side_in)) sides.A)
    (unwrap_or (side_of (side_text park.side_out)) sides.A) ≡ park
park_same s f park lt =
    let a = unwrap_or (side_of (side_text park.side_in)) sides.A in
    let b = unwrap_or (side_of (side_text park.side_out)) sides.A in
    ap (λ o. made_park (unwrap_or o (track_id 0)) a b) (track_there s park.track f lt)
    ∙ ap (λ o. made_park park.track (unwrap_or o sides.A) b) (side_read park.side_in)
    ∙ ap (λ o. made_park park.track park.side_in (unwrap_or o sides.A)) (side_read park.side_out)

edit_runs_read : (night : Night) → IsOrderedNight night → (n before : ℕ) → before < 10000 → (s : Shape) → AreRunsStated night s → (word : List ℕ) (option : List (List ℕ))
    → (length (word ∷ arr_name night s.arr ∷ decimal s.p ∷ decimal s.n ∷ dep_name night s.dep ∷ decimal s.q ∷ option) == 7 || length
    (word ∷ arr_name night s.arr ∷ decimal s.p ∷ decimal s.n ∷ dep_name night s.dep ∷ decimal s.q ∷ option) == 10) ≡ true
    → answer n (runs_in night before (word ∷ arr_name night s.arr ∷ decimal s.p ∷ decimal s.n ∷ dep_name night s.dep ∷ decimal s.q ∷ option)) ≡ Ok s
unfolding runs_in
edit_runs_read night f n before room s is word option size =
    let row = word ∷ arr_name night s.arr ∷ decimal s.p ∷ decimal s.n ∷ dep_name night s.dep ∷ decimal s.q ∷ option in
    let m = runs_in night before row in
    let a = arr_there night s.arr f is.arr in
    let d = dep_there night s.dep f is.dep in
    let p = count_read s.p is.p in
    let k = count_read s.n is.n in
    let q = count_read s.q is.q in
    let av = unwrap_or (arr_of_name night (arr_name night s.arr)) (arr_id 0) in
    let dv = unwrap_or (dep_of_name night (dep_name night s.dep)) (dep_id 0) in
    let pv = unwrap_or (decimal_of (decimal s.p)) 0 in
    let kv = unwrap_or (decimal_of (decimal s.n)) 0 in
    let qv = unwrap_or (decimal_of (decimal s.q)) 0 in
    let same = ap (λ o. made_shape (unwrap_or o (arr_id 0)) pv kv dv qv) a ∙ ap (λ x. made_shape s.arr x kv dv qv) p.value ∙ ap (λ x. made_shape s.arr s.p x dv qv) k.value
    ∙ ap (λ o. made_shape s.arr s.p s.n (unwrap_or o (dep_id 0)) qv) d ∙ ap (λ x. made_shape s.arr s.p s.n s.dep x) q.value in
    holding n m.checks m.value (size, (lt-ltb before 10000 room, (ap is_some a, (p.there, (p.range, (k.there, (k.range, (ap is_some d, (q.there, (q.range, tt))))))))))
    ∙ ap (λ (x : Shape). Ok x) same

unparked_read : (n : ℕ) (s : Station) (w a p k d q : List ℕ) → answer n (option_in s (w ∷ a ∷ p ∷ k ∷ d ∷ q ∷ codes "unparked" ∷ []) 7) ≡ Ok None
unfolding option_in unparked_in
unparked_read n s w a p k d q = refl

parked_read : (n : ℕ) (s : Station) → IsStation s → (park : Park) → park.track.0 < length s.tracks → (w a p k d q : List ℕ)
    → answer n (option_in s (w ∷ a ∷ p ∷ k ∷ d ∷ q ∷ codes "park" ∷ track_name s park.track ∷ side_text park.side_in ∷ side_text park.side_out ∷ []) 7) ≡ Ok (Some park)
unfolding option_in parked_in
parked_read n s f park lt w a p k d q =
    let row = w ∷ a ∷ p ∷ k ∷ d ∷ q ∷ codes "park" ∷ track_name s park.track ∷ side_text park.side_in ∷ side_text park.side_out ∷ [] in
    let m = parked_in s row 7 in
    holding n m.checks m.value (refl, (ap is_some (track_there s park.track f lt), (ap is_some (side_read park.side_in), (ap is_some (side_read park.side_out), tt))))
    ∙ ap (λ (x : Park). Ok (Some x)) (park_same s f park lt)

-- an edit that adds a block, from its parts
abbrev added : Shape → Option Park → Turn
added s park = turns.Edit (edits.Add s.arr s.p s.n s.dep s.q park)

add_read : (night : Night) → IsOrderedNight night → (n before : ℕ) → before < 10000 → (s : Shape) (park : Option Park) → AreRunsStated night s → IsOnTrack night.station park
    → answer n (turn_of night before (turn_row night (added s park))) ≡ Ok (added s park)
unfolding turn_of
add_read night f n before room s None is on =
    sym (add_is n night before (turn_row night (added s None)) s None (sym (edit_runs_read night f n before room s is (codes "add") (codes "unparked" ∷ []) refl))
    (sym (unparked_read n night.station (codes "add") (arr_name night s.arr) (decimal s.p) (decimal s.n) (dep_name night s.dep) (decimal s.q))))
add_read night f n before room s (Some park) is on =
    sym (add_is n night before (turn_row night (added s (Some park))) s (Some park)
    (sym (edit_runs_read night f n before room s is (codes "add") (codes "park" ∷ track_name night.station park.track ∷ side_text park.side_in ∷ side_text park.side_out ∷
    []) refl))
    (sym (parked_read n night.station f.station park on (codes "add") (arr_name night s.arr) (decimal s.p) (decimal s.n) (dep_name night s.dep) (decimal s.q))))

drop_read : (night : Night) (n before : ℕ) → before < 10000 → (id : ℕ) → IsId id → answer n (turn_of night before (edit_row night (edits.Drop id)))
    ≡ Ok (turns.Edit (edits.Drop id))
unfolding turn_of drop_of is_within
drop_read night n before room id is =
    let i = id_read id is in
    let m = drop_of before (edit_row night (edits.Drop id)) in
    holding n m.checks m.value (refl, (lt-ltb before 10000 room, (i.there, (i.range, tt)))) ∙ ap (λ x. Ok (turns.Edit (edits.Drop x))) i.value

unpark_read : (night : Night) (n before : ℕ) → before < 10000 → (id : ℕ) → IsId id
    → answer n (turn_of night before (edit_row night (edits.Unpark id))) ≡ Ok (turns.Edit (edits.Unpark id))
unfolding turn_of unpark_of is_within
unpark_read night n before room id is =
    let i = id_read id is in
    let m = unpark_of before (edit_row night (edits.Unpark id)) in
    holding n m.checks m.value (refl, (lt-ltb before 10000 room, (i.there, (i.range, tt)))) ∙ ap (λ x. Ok (turns.Edit (edits.Unpark x))) i.value

park_read : (night : Night) → IsOrderedNight night → (n before : ℕ) → before < 10000 → (id : ℕ) (park : Park) → IsId id → park.track.0 < length night.station.tracks
    → answer n (turn_of night before (edit_row night (edits.Park id park))) ≡ Ok (turns.Edit (edits.Park id park))
unfolding turn_of park_of is_within
park_read night f n before room id park is lt =
    let s = night.station in
    let i = id_read id is in
    let m = park_of night before (edit_row night (edits.Park id park)) in
    let read = made_park (unwrap_or (track_of_name s (track_name s park.track)) (track_id 0)) (unwrap_or (side_of (side_text park.side_in)) sides.A)
    (unwrap_or (side_of (side_text park.side_out)) sides.A) in
    holding n m.checks m.value (
      refl,
      (
        lt-ltb before 10000 room,
        (
          i.there,
          (
            i.range,
            (ap is_some (track_there s park.track f.station lt), (ap is_some (side_read park.side_in), (ap is_some (side_read park.side_out), tt))),
          ),
        ),
      ),
    )
    ∙ ap (λ x. Ok (turns.Edit (edits.Park x read))) i.value ∙ ap (λ x. Ok (turns.Edit (edits.Park id x))) (park_same s f.station park lt)

cut_read : (night : Night) (n before : ℕ) → before < 10000 → (id k : ℕ) → IsId id → k ≤ 8
    → answer n (turn_of night before (edit_row night (edits.Cut id k))) ≡ Ok (turns.Edit (edits.Cut id k))
unfolding turn_of cut_of is_within
cut_read night n before room id k is le =
    let i = id_read id is in
    let j = count_read k le in
    let m = cut_of before (edit_row night (edits.Cut id k)) in
    holding n m.checks m.value (refl, (lt-ltb before 10000 room, (i.there, (i.range, (j.there, (j.range, tt))))))
    ∙ ap (λ x. Ok (turns.Edit (edits.Cut x (unwrap_or (decimal_of (decimal k)) 0)))) i.value ∙ ap (λ x. Ok (turns.Edit (edits.Cut id x))) j.value

join_read : (night : Night) (n before : ℕ) → before < 10000 → (a b : ℕ) → IsId a → IsId b
    → answer n (turn_of night before (edit_row night (edits.Join a b))) ≡ Ok (turns.Edit (edits.Join a b))
unfolding turn_of join_of is_within
join_read night n before room a b is js =
    let i = id_read a is in
    let j = id_read b js in
    let m = join_of before (edit_row night (edits.Join a b)) in
    holding n m.checks m.value (refl, (lt-ltb before 10000 room, (i.there, (i.range, (j.there, (j.range, tt))))))
    ∙ ap (λ x. Ok (turns.Edit (edits.Join x (unwrap_or (decimal_of (decimal b)) 0)))) i.value ∙ ap (λ x. Ok (turns.Edit (edits.Join a x))) j.value

undo_read : (night : Night) (n before : ℕ) → before < 10000 → answer n (turn_of night before (turn_row night turns.Undo)) ≡ Ok turns.Undo
unfolding turn_of undo_of is_within
undo_read night n before room = let m = undo_of before (turn_row night turns.Undo) in holding n m.checks m.value (refl, (lt-ltb before 10000 room, tt))

redo_read : (night : Night) (n before : ℕ) → before < 10000 → answer n (turn_of night before (turn_row night turns.Redo)) ≡ Ok turns.Redo
unfolding turn_of redo_of is_within
redo_read night n before room = let m = redo_of before (turn_row night turns.Redo) in holding n m.checks m.value (refl, (lt-ltb before 10000 room, tt))

-- a turn is read from its record
turn_read : (night : Night) → IsOrderedNight night → (n before : ℕ) → before < 10000 → (t : Turn) → IsTurn night t → answer n (turn_of night before (turn_row night t)) ≡ Ok t
turn_read night f n before room (turns.Edit (edits.Add arr p k dep q park)) is = add_read night f n before room (made_shape arr p k dep q) park is.0 is.1
turn_read night f n before room (turns.Edit (edits.Drop id)) is = drop_read night n before room id is
turn_read night f n before room (turns.Edit (edits.Park id park)) is = park_read night f n before room id park is.0 is.1
turn_read night f n before room (turns.Edit (edits.Unpark id)) is = unpark_read night n before room id is
turn_read night f n before room (turns.Edit (edits.Cut id k)) is = cut_read night n before room id k is.0 is.1
turn_read night f n before room (turns.Edit (edits.Join a b)) is = join_read night n before room a b is.0 is.1
turn_read night f n before room turns.Undo is = undo_read night n before room
turn_read night f n before room turns.Redo is = redo_read night n before room

-- so are turns, one after the other
turns_read : (night : Night) → IsOrderedNight night → (all : List Turn) → AreTurns night all → IsReadByEach (edits_format night) (turn_row night) (λ turns. turns) all
turns_read night f all are n before t coming e =
    let few = are.few in
    let room : length before < 10000 = omega (arith, few, ap length e, length-append before (t ∷ coming)) in
    one_turn n night before (before ++ t ∷ []) (length before) (turn_row night t) t refl
    (sym (turn_read night f n (length before) room t (of_middle (IsTurn night) all before coming t are.each e))) refl

edits_head_read : answer 1 (edits_first edits_head) ≡ Ok []
unfolding edits_first is_within
edits_head_read =
    let v = number_read 1 1 1 (omega arith) (omega arith) (omega arith) in
    let m = edits_first edits_head in
    holding 1 m.checks m.value (refl, (refl, (v.there, (v.range, tt))))

-- the records of turns state them
pub turns_again : (night : Night) → IsOrderedNight night → (all : List Turn) → AreTurns night all → reading (edits_format night) (rows_of_edits night all) ≡ Ok all
turns_again night f all are =
    let g = edits_format night in
    all_read g edits_head (map (turn_row night) all) [] all edits_head_read (section g (turn_row night) (λ turns. turns) all (turns_read night f all are) 2 [] all refl) refl

pub edits_again : (night : Night) → IsInstance night → (all : List Turn) → AreTurns night all → reading (edits_format night) (rows_of_edits night all) ≡ Ok all
edits_again night is all are = turns_again night (opened night is) all are

pub edits_back_from : (night : Night) → IsInstance night → (all : List Turn) → AreTurns night all → (text bytes : List ℕ) → text ≡ text_of_rows (rows_of_edits night all)
    → ReadsBack text bytes → ReadsAsEdits night all bytes
edits_back_from night is all are text bytes e back =
    let f = opened night is in
    let rows = back (rows_of_edits night all) (edits_plain night f all are) e in
    record { rows = rows; value = ap (reading (edits_format night)) rows ∙ turns_again night f all are }

pub edits_text_back : (night : Night) → IsInstance night → (all : List Turn) → AreTurns night all → ReadsAsEdits night all (text_of_rows (rows_of_edits night all))
edits_text_back night is all are = edits_back_from night is all are (text_of_rows (rows_of_edits night all)) (text_of_rows (rows_of_edits night all)) refl
    (λ rows plain e. ap records_of e ∙ again rows plain)
