-- The texts of plans and of edits, and how long they are.
use Rattle.std.proofs.Common.{ℕ, ◌≤◌, ◌++◌, length, length-append, map, ap, arith, ◌≡◌, List, [], ◌∷◌, sym, ◌∙◌, subst}
use Rattle.std.specs.Prelude.{Option, Some, None, codes}
use Rattle.std.specs.Fmt.{decimal}
use Rattle.std.proofs.lemmas.Fmt.{length-decimal-le}
use Rattle.std.proofs.lemmas.List.Concat.{flat_map-cons, flat_map-append}
use Rattle.std.proofs.lemmas.List.{append_assoc}
use Rattle.shunt_rows.specs.defs.Records.{text_of_row, text_of_rows, width}
use Rattle.shunt_rows.proofs.Plain.{side_short}
use Rattle.shunt_rows.proofs.Widths.{row_width, rows_width, one_text}
use Rattle.shunt_instance.specs.declared.records.Station.{Station}
use Rattle.shunt_instance.specs.defs.Wellformed.{IsStation}
use Rattle.shunt_instance.specs.defs.Instance.{Night, IsInstance, IsOrderedNight}
use Rattle.shunt_instance.proofs.Orders.{opened}
use Rattle.shunt_blocks.specs.declared.records.Park.{Park}
use Rattle.shunt_blocks.specs.declared.records.Block.{Block}
use Rattle.shunt_blocks.specs.defs.Shapes.{IsOnTrack, IsInRange}
use Rattle.shunt_plan.specs.declared.records.Plan.{Plan}
use Rattle.shunt_plan.specs.defs.Plans.{IsPlanInRange}
use Rattle.shunt_plan.specs.defs.PlanRows.{option_fields, head_row, block_row, cost_row, rows_of}
use Rattle.shunt_plan.proofs.Plain.{small_runs, arr_named, dep_named, track_named, plain_head, plain_block, plain_cost, turn_plain, head_plain}
use Rattle.shunt_blocks.specs.declared.records.Shape.{Shape}
use Rattle.shunt_plan.specs.declared.edits.Turn.{Turn}
use Rattle.shunt_plan.specs.defs.Edits.{IsId, AreRunsStated, IsTurn, AreTurns}
use Rattle.shunt_plan.specs.defs.WrittenEdits.{number_row, numbers_row, turn_row, edits_head, rows_of_edits}
use Rattle.shunt_rows.specs.defs.Written.{Written}
use Rattle.shunt_plan.specs.declared.edits.Edit.TheVariants as edits
use Rattle.shunt_plan.specs.declared.edits.Turn.TheVariants as turns

pub whole_text : (night : Night) (plan : Plan) → text_of_rows (rows_of night plan) ≡ text_of_row head_row
    ++ (text_of_rows (map (block_row night) plan.blocks) ++ text_of_row (cost_row plan.cost))
whole_text night plan =
    flat_map-cons text_of_row head_row (map (block_row night) plan.blocks ++ cost_row plan.cost ∷ [])
    ∙ ap (λ t. text_of_row head_row ++ t) (flat_map-append text_of_row (map (block_row night) plan.blocks) (cost_row plan.cost ∷ [])
    ∙ ap (λ t. text_of_rows (map (block_row night) plan.blocks) ++ t) (one_text (cost_row plan.cost)))

pub plan_written : (night : Night) (plan : Plan) (blocks : List Block) (w a b c : Written)
    → blocks ≡ plan.blocks
    → w ≡ record { text = []; row = [] }
    → a ≡ record { text = w.text ++ text_of_row head_row; row = [] }
    → b ≡ record { text = a.text ++ text_of_rows (map (block_row night) blocks); row = [] }
    → c ≡ record { text = b.text ++ text_of_row (cost_row plan.cost); row = [] }
    → c.text ≡ text_of_rows (rows_of night plan)
plan_written night plan blocks w a b c same start first more last =
    let head = text_of_row head_row in
    let rest = λ (l : List Block). text_of_rows (map (block_row night) l) in
    let cost = text_of_row (cost_row plan.cost) in
    ap (λ (x : Written). x.text) last
    ∙ ap (λ (x : Written). x.text ++ cost) more
    ∙ ap (λ (x : Written). x.text ++ rest blocks ++ cost) first
    ∙ ap (λ (x : Written). x.text ++ head ++ rest blocks ++ cost) start
    ∙ ap (λ l. head ++ rest l ++ cost) same
    ∙ append_assoc head (rest plan.blocks) cost
    ∙ sym (whole_text night plan)

pub option_short : (s : Station) (park : Option Park) → IsStation s → IsOnTrack s park → width (option_fields s park) ≤ 26
option_short s None f on = omega arith
option_short s (Some k) f on =
    let n = (track_named s k.track f on).1 in
    let a = side_short k.side_in in
    let b = side_short k.side_out in
    omega (arith, n, a, b)

pub place_short : (p : ℕ) → p ≤ 8 → length (decimal p) ≤ 1
place_short p le = length-decimal-le 1 p (omega arith) (omega (arith, le)) (omega (arith, le))

pub block_short : (night : Night) → IsOrderedNight night → (b : Block) → IsInRange night b → length (text_of_row (block_row night b)) ≤ 80
block_short night h b is =
    let w = row_width (block_row night b) (plain_block night h b is) in
    let small = small_runs night b h is in
    let id = length-decimal-le 7 b.id (omega arith) (let le = is.to in omega (arith, le)) (let le = is.to in omega (arith, le)) in
    let arr = (arr_named night b.arr h is.within.runs.arr).1 in
    let dep = (dep_named night b.dep h is.within.runs.dep).1 in
    let p = place_short b.p small.p in
    let n = place_short b.n small.n in
    let q = place_short b.q small.q in
    let o = option_short night.station b.park h.station is.within.track in
    omega (arith, w, id, arr, dep, p, n, q, o)

head_short : length (text_of_row head_row) ≤ 7
head_short =
    let w = row_width head_row plain_head in
    let a = length-decimal-le 1 1 (omega arith) (omega arith) (omega arith) in
    omega (arith, w, a)

cost_short : (stated : ℕ) → stated ≤ 1000000000000 → length (text_of_row (cost_row stated)) ≤ 19
cost_short stated le =
    let w = row_width (cost_row stated) (plain_cost stated le) in
    let a = length-decimal-le 13 stated (omega arith) (omega (arith, le)) (omega (arith, le)) in
    omega (arith, w, a)

-- the text of a plan in range has at most 32,026 bytes
pub plan_short : (night : Night) (plan : Plan) → IsInstance night → IsPlanInRange night plan → length (text_of_rows (rows_of night plan)) ≤ 32026
plan_short night plan i is =
    let h = opened night i in
    let blocks = text_of_rows (map (block_row night) plan.blocks) in
    let few = is.blocks.few in
    let all = rows_width (IsInRange night) (block_row night) 80 plan.blocks (block_short night h) is.blocks.each in
    let head = head_short in
    let cost = cost_short plan.cost is.cost in
    let whole = ap length (whole_text night plan) in
    omega (
      arith,
      few,
      all,
      head,
      cost,
      whole,
      length-append (text_of_row head_row) (blocks ++ text_of_row (cost_row plan.cost)),
      length-append blocks (text_of_row (cost_row plan.cost)),
    )

id_short : (id : ℕ) → IsId id → length (decimal id) ≤ 7
id_short id is = let le = is.1 in length-decimal-le 7 id (omega arith) (omega arith) (omega arith)

add_short : (night : Night) → IsOrderedNight night → (s : Shape) (park : Option Park) → AreRunsStated night s → IsOnTrack night.station park
    → length (text_of_row (turn_row night (turns.Edit (edits.Add s.arr s.p s.n s.dep s.q park)))) ≤ 70
add_short night f s park r on =
    let turn = turns.Edit (edits.Add s.arr s.p s.n s.dep s.q park) in
    let w = row_width (turn_row night turn) (turn_plain night f turn (r, on)) in
    let a = (arr_named night s.arr f r.arr).1 in
    let d = (dep_named night s.dep f r.dep).1 in
    omega (arith, w, a, d, place_short s.p r.p, place_short s.n r.n, place_short s.q r.q, option_short night.station park f.station on)

turn_short : (night : Night) → IsOrderedNight night → (t : Turn) → IsTurn night t → length (text_of_row (turn_row night t)) ≤ 70
turn_short night f (turns.Edit (edits.Add arr p n dep q park)) is = add_short night f (record { arr = arr; p = p; n = n; dep = dep; q = q }) park is.0 is.1
turn_short night f (turns.Edit (edits.Drop id)) is =
    let w = row_width (number_row (codes "drop") id) (turn_plain night f (turns.Edit (edits.Drop id)) is) in
    omega (arith, w, id_short id is)
turn_short night f (turns.Edit (edits.Park id park)) is =
    let w = row_width (turn_row night (turns.Edit (edits.Park id park))) (turn_plain night f (turns.Edit (edits.Park id park)) is) in
    let t = (track_named night.station park.track f.station is.1).1 in
    omega (arith, w, id_short id is.0, t, side_short park.side_in, side_short park.side_out)
turn_short night f (turns.Edit (edits.Unpark id)) is =
    let w = row_width (number_row (codes "unpark") id) (turn_plain night f (turns.Edit (edits.Unpark id)) is) in
    omega (arith, w, id_short id is)
turn_short night f (turns.Edit (edits.Cut id k)) is =
    let w = row_width (numbers_row (codes "cut") id k) (turn_plain night f (turns.Edit (edits.Cut id k)) is) in
    omega (arith, w, id_short id is.0, place_short k is.1)
turn_short night f (turns.Edit (edits.Join a b)) is =
    let w = row_width (numbers_row (codes "join") a b) (turn_plain night f (turns.Edit (edits.Join a b)) is) in
    omega (arith, w, id_short a is.0, id_short b is.1)
turn_short night f turns.Undo is = let w = row_width (codes "undo" ∷ []) (turn_plain night f turns.Undo is) in omega (arith, w)
turn_short night f turns.Redo is = let w = row_width (codes "redo" ∷ []) (turn_plain night f turns.Redo is) in omega (arith, w)

-- the text has at most 700,008 bytes
pub edits_short : (night : Night) → IsInstance night → (all : List Turn) → AreTurns night all → length (text_of_rows (rows_of_edits night all)) ≤ 700008
edits_short night is all are =
    let f = opened night is in
    let few = are.few in
    let rest = rows_width (IsTurn night) (turn_row night) 70 all (turn_short night f) are.each in
    let head = row_width edits_head head_plain in
    let one = place_short 1 (omega arith) in
    omega (
      arith,
      few,
      rest,
      head,
      one,
      ap length (flat_map-cons text_of_row edits_head (map (turn_row night) all)),
      length-append (text_of_row edits_head) (text_of_rows (map (turn_row night) all)),
    )

pub short_from : (night : Night) → IsInstance night → (all : List Turn) → AreTurns night all → (text bytes : List ℕ) → text ≡ text_of_rows (rows_of_edits night all) → bytes ≡ text
    → length bytes ≤ 700008
short_from night is all are text bytes e same = subst (λ (t : List ℕ). length t ≤ 700008) (sym (same ∙ e)) (edits_short night is all are)
