-- When moves run, and how many drivers and which minute that makes.
use Rattle.std.proofs.Common.{◌≡◌, inl, inr, ⊎_elim, ℕ, zero, suc, ◌<◌, ◌≤◌, Bool, true, List, [], ◌∷◌, length, get_or, map, refl, sym, subst, ap, arith}
use Rattle.std.specs.Prelude.{All, AllPairs, Option, Some, None, find, option_map, unwrap_or, IfSome}
use Rattle.std.proofs.lemmas.Bool.{cases_Bool, cases_lt}
use Rattle.std.proofs.lemmas.Bool.Decides.{nat_tests}
use Rattle.std.proofs.lemmas.List.{get_or-map, length-map}
use Rattle.shunt_lists.specs.defs.Members.{In}
use Rattle.shunt_instance.specs.declared.records.Station.{Station}
use Rattle.shunt_instance.specs.defs.Instance.{Night}
use Rattle.shunt_tracks.specs.declared.run.Event.{Event}
use Rattle.shunt_zones.specs.defs.Moves.{train_of, IsMoveOf}
use Rattle.shunt_drivers.specs.declared.records.Takes.{Takes}
use Rattle.shunt_drivers.specs.declared.records.Crew.{Crew}
use Rattle.shunt_drivers.specs.declared.shares.MoveSpan.{MoveSpan}
use Rattle.shunt_drivers.specs.declared.shares.MoveShare.{MoveShare}
use Rattle.shunt_drivers.specs.defs.CrewFormat.{AreMinutes, IsTakes, IsCrew}
use Rattle.shunt_drivers.specs.defs.RosterFormat.{no_move}
use Rattle.shunt_drivers.specs.defs.Spans.{is_between, minutes_of, span_of, spans_of}
use Rattle.shunt_drivers.specs.defs.SharedMoves.{runs_at, IsBusy, IsLeast}
use Rattle.shunt_drivers.proofs.Greedy.{many, one, flag}
use Rattle.shunt_drivers.proofs.MoveNames.{found_in}
use Rattle.shunt_lists.proofs.Members.{each_one}

-- ---- minutes

-- those that are found are of a way, and so in range
found_within : (s : Station) (test : Takes → Bool) (takes : List Takes) (other : ℕ) → All (IsTakes s) takes → AreMinutes other
    → AreMinutes (unwrap_or (option_map (λ (t : Takes). t.minutes) (find test takes)) other)
found_within s test takes other all own = by (find test takes) refl
  where
    by : (o : Option Takes) → find test takes ≡ o → AreMinutes (unwrap_or (option_map (λ (t : Takes). t.minutes) o) other)
    by None found = own
    by (Some t) found = (each_one (IsTakes s) takes t all (found_in test takes t found).0).minutes

pub minutes_within : (night : Night) (s : Station) (crew : Crew) (e : Event) → IsCrew s crew → AreMinutes (minutes_of night crew e)
minutes_within night s crew e is = found_within s (is_between (train_of night e.key).origin e.track e.side) crew.takes crew.other is.takes is.other

pub spans_rise : (night : Night) (crew : Crew) (moves : List Event) → AllPairs (λ (e f : Event). e.key.minute ≤ f.key.minute) moves
    → AllPairs (λ (a b : MoveSpan). a.start ≤ b.start) (spans_of night crew moves)
spans_rise night crew moves rise = λ i j d lt small.
    let inside : j < length moves = omega (arith, small, length-map moves (span_of night crew)) in
    let first : get_or (spans_of night crew moves) i d ≡ span_of night crew (get_or moves i no_move) = get_or-map (span_of night crew) moves i no_move d
    (omega (arith, lt, inside)) in
    let second : get_or (spans_of night crew moves) j d ≡ span_of night crew (get_or moves j no_move) = get_or-map (span_of night crew) moves j no_move d inside in
    omega (arith, rise i j no_move lt inside, ap (λ (a : MoveSpan). a.start) first, ap (λ (a : MoveSpan). a.start) second)

-- what holds of each move's span
each_span : (P : MoveSpan → Type 0) (night : Night) (crew : Crew) (moves : List Event) → ((k : ℕ) → k < length moves → P (span_of night crew (get_or moves k no_move)))
    → All P (spans_of night crew moves)
each_span P night crew moves each = λ k d lt.
    let inside : k < length moves = omega (arith, lt, length-map moves (span_of night crew)) in
    subst P (sym (get_or-map (span_of night crew) moves k no_move d inside)) (each k inside)

pub spans_run : (night : Night) (s : Station) (crew : Crew) (moves : List Event) → IsCrew s crew → All (λ (a : MoveSpan). a.start < a.end) (spans_of night crew moves)
spans_run night s crew moves is = each_span (λ (a : MoveSpan). a.start < a.end) night crew moves
    (λ k lt. let m = (minutes_within night s crew (get_or moves k no_move) is).0 in omega (arith, m))

pub spans_in_time : (night : Night) (crew : Crew) (moves : List Event) → All (λ (e : Event). e.key.minute < 2880) moves
    → All (λ (a : MoveSpan). a.start < 2880) (spans_of night crew moves)
spans_in_time night crew moves all = each_span (λ (a : MoveSpan). a.start < 2880) night crew moves (λ k lt. all k no_move lt)

-- ---- how many drivers there are

pub few_drivers : (spans : List MoveSpan) (shares : List MoveShare) (drivers : ℕ) (busy : Option ℕ) → IsLeast spans shares drivers busy → drivers ≤ length spans
few_drivers spans shares drivers busy least =
    let given = map (λ (s : MoveShare). s.driver) shares in
    omega (arith, least.fewest given given least.sharing (λ d i. i), least.sharing.each)

-- ---- the busy minute is a start

more : {X : Type 0} (p q : X → Bool) (xs : List X) → ((x : X) → In x xs → p x ≡ true → q x ≡ true) → many p xs ≤ many q xs
more p q [] each = omega arith
more p q (x ∷ xs) each =
    let rest = more p q xs (λ y i. each y (inr i)) in
    ⊎_elim (λ t. omega (arith, rest, one p x xs, one q x xs, ap flag t, ap flag (each x (inl refl) t))) (λ f. omega (arith, rest, one p x xs, one q x xs, ap flag f))
    (cases_Bool (p x))

-- what runs at a minute after its start runs at the minute before
earlier : (t : ℕ) (a : MoveSpan) → a.start ≤ t → runs_at (suc t) a ≡ true → runs_at t a ≡ true
earlier t a le e = grind (arith, nat_tests)

pub busy_in_time : (spans : List MoveSpan) (n b : ℕ) → All (λ (a : MoveSpan). a.start < 2880) spans → IsBusy spans n (Some b) → b < 2880
busy_in_time spans n zero all busy = omega arith
busy_in_time spans n (suc t) all busy = ⊎_elim (λ lt. lt) (λ late. absurd (too_late late)) (cases_lt (suc t) 2880)
  where
    too_late : 2880 ≤ suc t → ⊥
    too_late late =
        let few = busy.2 t (omega arith) in
        let least = more (runs_at (suc t)) (runs_at t) spans (λ a i e. earlier t a
        (let start = each_one (λ (b : MoveSpan). b.start < 2880) spans a all i in omega (arith, start, late)) e) in
        absurd (omega (arith, few, least, busy.1))

-- ---- shares of the spans of moves

pub as_many : (night : Night) (crew : Crew) (moves : List Event) (shares : List MoveShare) (drivers : ℕ) (busy : Option ℕ) → IsLeast (spans_of night crew moves) shares drivers busy
    → length shares ≡ length moves
as_many night crew moves shares drivers busy least = let each = least.sharing.each in omega
    (arith, each, length-map shares (λ (s : MoveShare). s.driver), length-map moves (span_of night crew))

pub below_800 : (night : Night) (crew : Crew) (moves : List Event) (shares : List MoveShare) (drivers : ℕ) (busy : Option ℕ)
    → IsLeast (spans_of night crew moves) shares drivers busy
    → length moves ≤ 800 → drivers ≤ 800
below_800 night crew moves shares drivers busy least few = omega (
  arith,
  few_drivers (spans_of night crew moves) shares drivers busy least,
  few,
  length-map moves (span_of night crew),
)

pub each_below : (shares : List MoveShare) (drivers : ℕ) → drivers ≤ 800 → All (λ (s : MoveShare). s.driver < drivers) shares → All (λ (s : MoveShare). s.driver < 800) shares
each_below shares drivers few all = λ k d lt. let less = all k d lt in omega (arith, less, few)

pub in_time : (spans : List MoveSpan) (n : ℕ) (busy : Option ℕ) → All (λ (a : MoveSpan). a.start < 2880) spans → IsBusy spans n busy → IfSome busy (λ b. b < 2880)
in_time spans n None all busy = tt
in_time spans n (Some b) all busy = busy_in_time spans n b all busy

pub minutes_in_time : (night : Night) (moves : List Event) → All (IsMoveOf night) moves → All (λ (e : Event). e.key.minute < 2880) moves
minutes_in_time night moves all = λ k d lt. (all k d lt).minute
