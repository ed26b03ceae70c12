-- Runs that are added one after the other.
use Rattle.std.proofs.Common.{◌≡◌, ℕ, suc, ◌+◌, ◌-◌, ◌<◌, Bool, true, false, not, List, [], ◌∷◌, ◌++◌, length, get_or, drop, map, filter, refl, sym, ap, ◌∙◌, arith, cond}
use Rattle.std.specs.Prelude.{if◌then◌else◌}
use Rattle.std.specs.List.{range_with_len, flat_map}
use Rattle.std.proofs.lemmas.List.{drop_more}
use Rattle.std.proofs.lemmas.List.Concat.{flat_map-cons}
use Rattle.shunt_instance.specs.declared.records.PlacedRun.{PlacedRun}
use Rattle.shunt_instance.specs.defs.Instance.{Night}
use Rattle.shunt_timetable.specs.defs.TimetableFormat.{with_run}
use Rattle.shunt_blocks.specs.declared.records.Block.{Block}
use Rattle.shunt_blocks.specs.defs.Ways.{has_placed}
use Rattle.shunt_resume.specs.defs.Resumed.{unit_at_place, cleared, cleared_runs, with_runs}

-- ---- units that are cleared away

-- those of that many places from one on that hadn't come
abbrev left : (ℕ → Bool) → ℕ → ℕ → List PlacedRun
left come place n = map cleared (filter (λ k. not (come k)) (range_with_len place n))

one_on : (come : ℕ → Bool) (place n : ℕ) (runs more : List PlacedRun) → more ≡ (if come place then runs else with_run (cleared place) runs)
    → with_runs (left come (place + 1) n) more ≡ with_runs (left come place (suc n)) runs
one_on come place n runs more is = by (come place) is
  where
    by : (t : Bool) → more ≡ (if t then runs else with_run (cleared place) runs)
        → with_runs (left come (place + 1) n) more
        ≡ with_runs (map cleared (cond (not t) (place ∷ filter (λ k. not (come k)) (range_with_len (place + 1) n)) (filter (λ k. not (come k)) (range_with_len (place + 1) n)))) runs
    by true e = ap (with_runs (left come (place + 1) n)) e
    by false e = ap (with_runs (left come (place + 1) n)) e

-- the same of a block
abbrev pub cleared_from : Night → Block → ℕ → ℕ → List PlacedRun
cleared_from night b place n = left (λ k. has_placed night (unit_at_place b k)) place n

pub cleared_next : (night : Night) (b : Block) (place past : ℕ) (runs more : List PlacedRun) → place < past
    → more ≡ (if has_placed night (unit_at_place b place) then runs else with_run (cleared place) runs)
    → with_runs (cleared_from night b (place + 1) (past - (place + 1))) more ≡ with_runs (cleared_from night b place (past - place)) runs
cleared_next night b place past runs more lt is =
    let e : suc (past - (place + 1)) ≡ past - place = omega (arith, lt) in
    one_on (λ k. has_placed night (unit_at_place b k)) place (past - (place + 1)) runs more is
    ∙ ap (λ (n : ℕ). with_runs (cleared_from night b place n) runs) e

pub cleared_first : (night : Night) (b : Block) (runs : List PlacedRun) → with_runs (cleared_from night b b.p (b.p + b.n - b.p)) runs ≡ with_runs (cleared_runs night b) runs
cleared_first night b runs =
    let e : b.p + b.n - b.p ≡ b.n = omega arith in
    ap (λ (n : ℕ). with_runs (cleared_from night b b.p n) runs) e

pub cleared_last : (night : Night) (b : Block) (place past : ℕ) (runs : List PlacedRun) → past ≡ place → with_runs (cleared_from night b place (past - place)) runs ≡ runs
cleared_last night b place past runs end =
    let e : past - place ≡ 0 = omega (arith, end) in
    ap (λ (n : ℕ). with_runs (cleared_from night b place n) runs) e

-- ---- the runs of blocks

runs_then : (xs ys runs : List PlacedRun) → with_runs (xs ++ ys) runs ≡ with_runs ys (with_runs xs runs)
runs_then [] ys runs = refl
runs_then (x ∷ xs) ys runs = runs_then xs ys (with_run x runs)

blocks_next : (f : Block → List PlacedRun) (b : Block) (blocks : List Block) (runs more : List PlacedRun) → more ≡ with_runs (f b) runs
    → with_runs (flat_map f blocks) more ≡ with_runs (flat_map f (b ∷ blocks)) runs
blocks_next f b blocks runs more is = ap (with_runs (flat_map f blocks)) is ∙ sym (runs_then (f b) (flat_map f blocks) runs)
    ∙ ap (λ (xs : List PlacedRun). with_runs xs runs) (sym (flat_map-cons f b blocks))

pub blocks_on : (f : Block → List PlacedRun) (blocks : List Block) (i : ℕ) (d : Block) (runs more : List PlacedRun) → i < length blocks → more ≡ with_runs (f (get_or blocks i d)) runs
    → with_runs (flat_map f (drop (i + 1) blocks)) more ≡ with_runs (flat_map f (drop i blocks)) runs
blocks_on f blocks i d runs more lt is = blocks_next f (get_or blocks i d) (drop (i + 1) blocks) runs more is
    ∙ ap (λ (bs : List Block). with_runs (flat_map f bs) runs) (sym (drop_more blocks i d lt))
