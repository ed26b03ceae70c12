-- What is told of turns on a workbench, and which blocks they leave.
use Rattle.std.proofs.Common.{◌≡◌, inl, inr, ℕ, ◌+◌, cond, List, [], ◌∷◌, length, refl, subst, ap, ◌∙◌, arith}
use Rattle.std.specs.Prelude.{◌==◌, count_by, Result, Ok, Err, IfOk, Vec}
use Rattle.std.specs.List.{AllByRecursion}
use Rattle.std.proofs.lemmas.List.Sums.{sum_by-cons}
use Rattle.shunt_lists.specs.defs.Members.{In}
use Rattle.shunt_instance.specs.defs.Instance.{Night}
use Rattle.shunt_blocks.specs.declared.records.Block.{Block}
use Rattle.shunt_blocks.specs.defs.Lists.{AreInRange, total_cost}
use Rattle.shunt_plan.specs.declared.edits.Edit.{Edit}
use Rattle.shunt_plan.specs.declared.edits.Turn.{Turn}
use Rattle.shunt_plan.specs.declared.edits.Turn.TheVariants as turns
use Rattle.shunt_audit.specs.declared.types.Finding.{Finding}
use Rattle.shunt_audit.specs.declared.types.Finding.TheVariants.{UnitBare, UnitTwice, PlaceBare, PlaceTwice, WrongType, TooSoon, NoRouteIn, NoRouteOut, Crossing, TooLong, StatedCost}
use Rattle.shunt_audit.specs.defs.Findings.{IsFinding, kind_of}
use Rattle.shunt_audit.specs.defs.Listed.{by_id, findings_in}
use Rattle.shunt_audit.proofs.Exactly.{exactly}
use Rattle.shunt_moves.specs.declared.types.MoveError.{MoveError}
use Rattle.shunt_moves.specs.declared.types.Tally.{Tally}
use Rattle.shunt_moves.specs.defs.States.{State, IsState, greatest_id}
use Rattle.shunt_moves.specs.defs.Edits.{edit}
use Rattle.shunt_moves.specs.defs.Benches.{Bench, started, applied, gone_back, gone_on}
use Rattle.shunt_moves.specs.defs.Tallies.{tally_of, sum_of}
use Rattle.shunt_moves.specs.defs.Kept.{Standing}
use Rattle.shunt_moves.proofs.Edited.{edit_kept}
use Rattle.shunt_moves.proofs.Filled.{start_stands}
use Rattle.shunt_moves.proofs.Places.{ids_distinct}
use Rattle.shunt_report.specs.declared.turns.TurnOutcome.{TurnOutcome}
use Rattle.shunt_report.specs.defs.TurnTexts.{turn_line}
use Rattle.shunt_judging.specs.defs.Replayed.{Replayable, after_turn, after_turns, line_with, bench_of, last_of}

-- ---- the ten counts of a tally are those of all findings

abbrev times : ℕ → List Finding → ℕ
times k fs = count_by (λ f. kind_of f == k) fs

abbrev flag : ℕ → Finding → ℕ
flag k f = cond (kind_of f == k) 1 0

abbrev ten : (ℕ → ℕ) → ℕ
ten count = count 1 + count 2 + count 3 + count 4 + count 5 + count 6 + count 7 + count 8 + count 9 + count 10

-- a finding of blocks has one of the ten kinds
one_kind : (night : Night) (blocks : List Block) (f : Finding) → IsFinding night blocks f → ten (λ k. flag k f) ≡ 1
one_kind night blocks (UnitBare u) h = refl
one_kind night blocks (UnitTwice u) h = refl
one_kind night blocks (PlaceBare v) h = refl
one_kind night blocks (PlaceTwice v) h = refl
one_kind night blocks (WrongType id) h = refl
one_kind night blocks (TooSoon id) h = refl
one_kind night blocks (NoRouteIn id) h = refl
one_kind night blocks (NoRouteOut id) h = refl
one_kind night blocks (Crossing i j) h = refl
one_kind night blocks (TooLong id load) h = refl
one_kind night blocks (StatedCost stated real) h = absurd h

all_kinds : (night : Night) (blocks : List Block) (fs : List Finding) → ((f : Finding) → In f fs → IsFinding night blocks f) → ten (λ k. times k fs) ≡ length fs
all_kinds night blocks [] h = refl
all_kinds night blocks (f ∷ fs) h =
    let rest = all_kinds night blocks fs (λ g i. h g (inr i)) in
    let one = one_kind night blocks f (h f (inl refl)) in
    let more : (k : ℕ) → times k (f ∷ fs) ≡ flag k f + times k fs = λ k. sum_by-cons (flag k) f fs in
    omega (arith, more 1, more 2, more 3, more 4, more 5, more 6, more 7, more 8, more 9, more 10)

pub tally_total : (night : Night) (blocks : List Block) → sum_of (tally_of night blocks) ≡ length (findings_in night blocks)
unfolding tally_of
tally_total night blocks = all_kinds night blocks (findings_in night blocks) (λ f. (exactly night blocks f).0)

pub line_is : {A E : Type 0} (r : Result (Vec ℕ A) E) (number : ℕ) (ended : TurnOutcome) (total : ℕ) (tally : Tally) (night : Night) (blocks : List Block)
    → tally ≡ tally_of night blocks → total ≡ sum_of tally → IfOk r (λ v. v.items ≡ turn_line number ended total tally.cost)
    → IfOk r (λ v. v.items ≡ line_with number ended night blocks)
unfolding tally_of
line_is r number ended total tally night blocks is sum h =
    subst (λ n. IfOk r (λ v. v.items ≡ turn_line number ended n (total_cost night blocks))) (sum ∙ ap sum_of is ∙ tally_total night blocks)
    (subst (λ (t : Tally). IfOk r (λ v. v.items ≡ turn_line number ended total t.cost)) is h)

-- ---- the night stays

applied_night : (bench : Bench) (x : Result State MoveError) → (applied bench x).night ≡ bench.night
applied_night bench (Ok next) = refl
applied_night bench (Err error) = refl

back_night : (bench : Bench) (states : List State) → (gone_back bench states).night ≡ bench.night
back_night bench [] = refl
back_night bench (s ∷ states) = refl

on_night : (bench : Bench) (states : List State) → (gone_on bench states).night ≡ bench.night
on_night bench [] = refl
on_night bench (s ∷ states) = refl

turn_night : (bench : Bench) (t : Turn) → (after_turn bench t).night ≡ bench.night
turn_night bench (turns.Edit e) = applied_night bench (edit bench.night bench.present e)
turn_night bench turns.Undo = back_night bench bench.past
turn_night bench turns.Redo = on_night bench bench.undone

pub turns_night : (bench : Bench) (ts : List Turn) → (after_turns bench ts).night ≡ bench.night
turns_night bench [] = refl
turns_night bench (t ∷ ts) = turns_night (after_turn bench t) ts ∙ turn_night bench t

-- ---- states stay states

-- all states of a bench can be
record AreStates (bench : Bench) : Type 0 where
  present : IsState bench.night bench.present
  past : AllByRecursion (IsState bench.night) bench.past
  undone : AllByRecursion (IsState bench.night) bench.undone

abbrev stands : Night → List Block → Standing
stands night blocks = record { night = night; state = record { blocks = by_id blocks; next = greatest_id blocks + 1 } }

start_states : (night : Night) (blocks : List Block) → AreInRange night blocks → AreStates (started night blocks)
start_states night blocks h = record {
  present = start_stands (stands night blocks) (stands night blocks) (greatest_id blocks + 1) night blocks refl refl refl refl h;
  past = tt;
  undone = tt;
}

edit_states : (bench : Bench) (e : Edit) (x : Result State MoveError) → edit bench.night bench.present e ≡ x → AreStates bench → AreStates (applied bench x)
edit_states bench e (Ok next) is h = record { present = edit_kept bench.night bench.present next e h.present is; past = (h.present, h.past); undone = tt }
edit_states bench e (Err error) is h = h

back_states : (bench : Bench) (states : List State) → bench.past ≡ states → AreStates bench → AreStates (gone_back bench states)
back_states bench [] is h = h
back_states bench (s ∷ states) is h =
    let all = subst (AllByRecursion (IsState bench.night)) is h.past in
    record { present = all.0; past = all.1; undone = (h.present, h.undone) }

on_states : (bench : Bench) (states : List State) → bench.undone ≡ states → AreStates bench → AreStates (gone_on bench states)
on_states bench [] is h = h
on_states bench (s ∷ states) is h =
    let all = subst (AllByRecursion (IsState bench.night)) is h.undone in
    record { present = all.0; past = (h.present, h.past); undone = all.1 }

turn_states : (bench : Bench) (t : Turn) → AreStates bench → AreStates (after_turn bench t)
turn_states bench (turns.Edit e) h = edit_states bench e (edit bench.night bench.present e) refl h
turn_states bench turns.Undo h = back_states bench bench.past refl h
turn_states bench turns.Redo h = on_states bench bench.undone refl h

turns_states : (bench : Bench) (ts : List Turn) → AreStates bench → AreStates (after_turns bench ts)
turns_states bench [] h = h
turns_states bench (t ∷ ts) h = turns_states (after_turn bench t) ts (turn_states bench t h)

state_in_range : (night : Night) (s : State) → IsState night s → AreInRange night s.blocks
state_in_range night s h = record { few = h.few; each = h.each; ids = ids_distinct s.blocks h.ascend }

-- the state that turns leave can be
pub last_state : (x : Replayable) → AreInRange x.night x.plan.blocks → IsState x.night (last_of x)
last_state x h =
    let all = turns_states (bench_of x) x.turns (start_states x.night x.plan.blocks h) in
    subst (λ night. IsState night (last_of x)) (turns_night (bench_of x) x.turns) all.present

-- its blocks are in range
pub last_in_range : (x : Replayable) → AreInRange x.night x.plan.blocks → AreInRange x.night (last_of x).blocks
last_in_range x h = state_in_range x.night (last_of x) (last_state x h)
