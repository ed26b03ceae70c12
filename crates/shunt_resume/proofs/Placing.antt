-- Runs that are put among others one after the other.
use Rattle.std.proofs.Common.{◌≡◌, suc, ◌≤◌, ◌⊎◌, ⊎_elim, inl, inr, Bool, true, false, List, [], ◌∷◌, get_or, sym, subst, arith, cond}
use Rattle.std.specs.Prelude.{All, AllPairs, nat_lt}
use Rattle.std.proofs.lemmas.List.Elements.{All-tail}
use Rattle.shunt_lists.specs.defs.Members.{In}
use Rattle.shunt_instance.specs.declared.records.PlacedRun.{PlacedRun}
use Rattle.shunt_timetable.specs.defs.TimetableFormat.{with_run}
use Rattle.shunt_instance.proofs.Placed.{Before}
use Rattle.shunt_timetable.proofs.PlacedRuns.{Clear, with_run_next, with_run_all, with_run_apart}
use Rattle.shunt_resume.specs.defs.Resumed.{with_runs}

pub with_runs_all : (P : PlacedRun → Type 0) (more runs : List PlacedRun) → All P more → All P runs → All P (with_runs more runs)
with_runs_all P [] runs new all = all
with_runs_all P (r ∷ more) runs new all = with_runs_all P more (with_run r runs) (All-tail P r more new) (with_run_all P r runs (new 0 r (omega arith)) all)

clear_turned : (r s : PlacedRun) → Clear r s → Clear s r
clear_turned r s c = ⊎_elim (λ a. inr a) (λ b. inl b) c

-- where no two share a unit, they stay in the order of their places
pub with_runs_apart : (more runs : List PlacedRun) → All (λ s. 1 ≤ s.count) more → All (λ s. 1 ≤ s.count) runs → AllPairs Clear more → All (λ r. All (Clear r) runs) more
    → AllPairs Before runs
    → AllPairs Before (with_runs more runs)
with_runs_apart [] runs some each new old apart = apart
with_runs_apart (r ∷ more) runs some each new old apart =
    let one = some 0 r (omega arith) in
    let clear : All (Clear r) runs = old 0 r (omega arith) in
    with_runs_apart more (with_run r runs) (All-tail (λ s. 1 ≤ s.count) r more some) (with_run_all (λ s. 1 ≤ s.count) r runs one each)
    (λ i j d lt within. new (suc i) (suc j) d (omega arith) (omega arith))
    (λ k d lt. with_run_all (Clear (get_or more k d)) r runs (clear_turned r (get_or more k d) (new 0 (suc k) d (omega arith) (omega arith))) (old (suc k) d (omega arith)))
    (with_run_apart r runs one each clear apart)

-- ---- who is among them

in_with : (r : PlacedRun) (runs : List PlacedRun) (x : PlacedRun) → In x (with_run r runs) → (x ≡ r) ⊎ In x runs
in_with r [] x h = h
in_with r (s ∷ runs) x h = by (nat_lt r.first s.first) (subst (λ (l : List PlacedRun). In x l) (with_run_next r s runs) h) (in_with r runs x)
  where
    by : (b : Bool) → In x (cond b (r ∷ s ∷ runs) (s ∷ with_run r runs)) → (In x (with_run r runs) → (x ≡ r) ⊎ In x runs) → (x ≡ r) ⊎ In x (s ∷ runs)
    by true i rest = i
    by false (inl e) rest = inr (inl e)
    by false (inr i) rest = ⊎_elim (λ e. inl e) (λ j. inr (inr j)) (rest i)

with_in : (r : PlacedRun) (runs : List PlacedRun) (x : PlacedRun) → (x ≡ r) ⊎ In x runs → In x (with_run r runs)
with_in r [] x h = h
with_in r (s ∷ runs) x h = subst (λ (l : List PlacedRun). In x l) (sym (with_run_next r s runs)) (by (nat_lt r.first s.first) h (with_in r runs x))
  where
    by : (b : Bool) → (x ≡ r) ⊎ In x (s ∷ runs) → ((x ≡ r) ⊎ In x runs → In x (with_run r runs)) → In x (cond b (r ∷ s ∷ runs) (s ∷ with_run r runs))
    by true i rest = i
    by false (inl e) rest = inr (rest (inl e))
    by false (inr (inl e)) rest = inl e
    by false (inr (inr i)) rest = inr (rest (inr i))

pub of_with_runs : (more runs : List PlacedRun) (x : PlacedRun) → In x (with_runs more runs) → In x more ⊎ In x runs
of_with_runs [] runs x h = inr h
of_with_runs (r ∷ more) runs x h = ⊎_elim (λ i. inl (inr i)) (λ i. ⊎_elim (λ e. inl (inl e)) (λ j. inr j) (in_with r runs x i)) (of_with_runs more (with_run r runs) x h)

pub old_with_runs : (more runs : List PlacedRun) (x : PlacedRun) → In x runs → In x (with_runs more runs)
old_with_runs [] runs x h = h
old_with_runs (r ∷ more) runs x h = old_with_runs more (with_run r runs) x (with_in r runs x (inr h))

pub new_with_runs : (more runs : List PlacedRun) (x : PlacedRun) → In x more → In x (with_runs more runs)
new_with_runs [] runs x h = absurd h
new_with_runs (r ∷ more) runs x (inl e) = old_with_runs more (with_run r runs) x (with_in r runs x (inl e))
new_with_runs (r ∷ more) runs x (inr i) = new_with_runs more (with_run r runs) x i
