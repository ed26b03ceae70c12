-- Ways in of blocks of trains of which more has come.
use Rattle.std.proofs.Common.{◌≡◌, ℕ, ◌+◌, ◌<◌, ◌⊎◌, inl, inr, Bool, true, false, not, List, [], ◌∷◌, refl, sym, ap, ◌∙◌}
use Rattle.std.specs.Prelude.{◌||◌, IsSome, Option, Some, None, if◌then◌else◌}
use Rattle.std.specs.List.{list_any}
use Rattle.std.proofs.lemmas.Bool.{cases_Bool, true≢false, false≢true, ltb-true, eqb-true, eq-eqb, and_parts, and_from, lt-ltb}
use Rattle.shunt_lists.specs.defs.Members.{In}
use Rattle.shunt_base.specs.declared.ids.TrackId.{TrackId}
use Rattle.shunt_base.specs.declared.ids.Side.{Side}
use Rattle.shunt_base.proofs.Sides.{same_side_tells, same_side_itself}
use Rattle.shunt_instance.specs.declared.records.PlacedRun.{PlacedRun}
use Rattle.shunt_instance.specs.declared.records.TrackEnd.{TrackEnd}
use Rattle.shunt_blocks.specs.declared.records.Shape.{Shape}
use Rattle.shunt_blocks.specs.defs.Ways.{meets_run, came_to, is_run_there, may_come}

-- ---- which of a list passes a test

pub any_there : {X : Type 0} (p : X → Bool) (xs : List X) (x : X) → In x xs → p x ≡ true → list_any p xs ≡ true
any_there p [] x i e = absurd i
any_there p (y ∷ xs) x (inl same) e = ap (λ (b : Bool). b || list_any p xs) (ap p (sym same) ∙ e)
any_there p (y ∷ xs) x (inr i) e = by (p y) (any_there p xs x i e)
  where
    by : (b : Bool) → list_any p xs ≡ true → (b || list_any p xs) ≡ true
    by true r = refl
    by false r = r

pub any_found : {X : Type 0} (p : X → Bool) (xs : List X) → list_any p xs ≡ true → (x : X) × In x xs × (p x ≡ true)
any_found p [] e = absurd (false≢true e)
any_found {X} p (y ∷ xs) e = by (p y) refl e (any_found p xs)
  where
    by : (b : Bool) → p y ≡ b → (b || list_any p xs) ≡ true → (list_any p xs ≡ true → (x : X) × In x xs × (p x ≡ true)) → (x : X) × In x (y ∷ xs) × (p x ≡ true)
    by true own r rest = (y, inl refl, own)
    by false own r rest = let more = rest r in (more.0, inr more.1, more.2)

pub any_none : {X : Type 0} (p : X → Bool) (xs : List X) → ((x : X) → In x xs → p x ≡ true → ⊥) → list_any p xs ≡ false
any_none p xs never = elim (cases_Bool (list_any p xs)) [
  | inl some ↦ let at = any_found p xs some in absurd (never at.0 at.1 at.2)
  | inr none ↦ none
]

-- ---- a shape and a run

-- the shape has a unit of the run
pub record Meets (x : Shape) (r : PlacedRun) : Type 0 where
  pub before : x.p < r.first + r.count
  pub behind : r.first < x.p + x.n

pub meets_from : (x : Shape) (r : PlacedRun) → meets_run x r ≡ true → Meets x r
meets_from x r e = let p = and_parts _ _ e in record { before = ltb-true x.p (r.first + r.count) p.0; behind = ltb-true r.first (x.p + x.n) p.1 }

pub meets_to : (x : Shape) (r : PlacedRun) → Meets x r → meets_run x r ≡ true
meets_to x r m = and_from _ _ (lt-ltb x.p (r.first + r.count) m.before) (lt-ltb r.first (x.p + x.n) m.behind)

-- the shape is the run, which came to a track by a side
pub record IsRun (x : Shape) (track : TrackId) (side : Side) (r : PlacedRun) : Type 0 where
  pub first : r.first ≡ x.p
  pub count : r.count ≡ x.n
  pub came_by : r.came_by ≡ Some (record { track = track; side = side })

abbrev end_at : TrackId → Side → Option TrackEnd
end_at track side = Some (record { track = track; side = side })

abbrev track_of : ℕ → TrackId
track_of k = record { 0 = k }

pub came_from : (track : TrackId) (side : Side) (o : Option TrackEnd) → came_to track side o ≡ true → o ≡ end_at track side
came_from track side None e = absurd (false≢true e)
came_from track side (Some at) e =
    let p = and_parts _ _ e in
    ap (λ (k : ℕ). end_at (track_of k) at.side) (eqb-true at.track.0 track.0 p.0) ∙ ap (λ (q : Side). end_at track q) (same_side_tells at.side side p.1)

came_itself : (track : TrackId) (side : Side) → came_to track side (end_at track side) ≡ true
came_itself track side = and_from _ _ (eq-eqb track.0 track.0 refl) (same_side_itself side)

-- who is a run of its own is that run
pub run_itself : (x : Shape) (track : TrackId) (side : Side) (r : PlacedRun) → IsRun x track side r → is_run_there x track side r ≡ true
run_itself x track side r is = and_from _ _ (and_from _ _ (eq-eqb r.first x.p is.first) (eq-eqb r.count x.n is.count))
    (ap (λ (o : Option TrackEnd). came_to track side o) is.came_by ∙ came_itself track side)

pub run_from : (x : Shape) (track : TrackId) (side : Side) (r : PlacedRun) → is_run_there x track side r ≡ true → IsRun x track side r
run_from x track side r e =
    let p = and_parts _ _ e in
    let q = and_parts _ _ p.0 in
    record { first = eqb-true r.first x.p q.0; count = eqb-true r.count x.n q.1; came_by = came_from track side r.came_by p.1 }

-- ---- what may come

pub run_may_come : (runs : List PlacedRun) (x : Shape) (track : TrackId) (side : Side) (r : PlacedRun) → In r runs → is_run_there x track side r ≡ true → may_come runs x track side ≡ true
run_may_come runs x track side r i e = by (not (list_any (meets_run x) runs)) (any_there (is_run_there x track side) runs r i e)
  where
    by : (b : Bool) → list_any (is_run_there x track side) runs ≡ true → (b || list_any (is_run_there x track side) runs) ≡ true
    by true k = refl
    by false k = k

pub none_may_come : (runs : List PlacedRun) (x : Shape) (track : TrackId) (side : Side) → ((r : PlacedRun) → In r runs → Meets x r → ⊥) → may_come runs x track side ≡ true
none_may_come runs x track side never = ap (λ (b : Bool). not b || list_any (is_run_there x track side) runs) (any_none (meets_run x) runs (λ r i e. never r i (meets_from x r e)))

-- none of its units has come, or they came together
pub record IsRunOf (runs : List PlacedRun) (x : Shape) (track : TrackId) (side : Side) : Type 0 where
  pub run : PlacedRun
  pub there : In run runs
  pub is : is_run_there x track side run ≡ true

pub may_cases : (runs : List PlacedRun) (x : Shape) (track : TrackId) (side : Side) → may_come runs x track side ≡ true
    → ((r : PlacedRun) → In r runs → Meets x r → ⊥) ⊎ IsRunOf runs x track side
may_cases runs x track side e = by (list_any (meets_run x) runs) refl e
  where
    by : (b : Bool) → list_any (meets_run x) runs ≡ b → (not b || list_any (is_run_there x track side) runs) ≡ true
        → ((r : PlacedRun) → In r runs → Meets x r → ⊥) ⊎ IsRunOf runs x track side
    by true some k = let at = any_found (is_run_there x track side) runs k in inr (record { run = at.0; there = at.1; is = at.2 })
    by false none k = inl (λ r i m. absurd (true≢false (sym (any_there (meets_run x) runs r i (meets_to x r m)) ∙ none)))

-- ---- costs of ways

pub some_is : (w : Option ℕ) (b : Bool) → IsSome (if b then w else None) → b ≡ true
some_is w true h = refl
some_is w false h = absurd (false≢true h)

pub taken : (w : Option ℕ) (b : Bool) → b ≡ true → ◌≡◌ {A = Option ℕ} (if b then w else None) w
taken w true e = refl
taken w false e = absurd (true≢false (sym e))
