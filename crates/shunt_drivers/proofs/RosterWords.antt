-- The fault of a roster, in words.
use Rattle.std.proofs.Common.{◌≡◌, inl, inr, ⊎_elim, ℕ, ◌<◌, ◌≤◌, Bool, true, false, ◌&&◌, cond, List, [], ◌∷◌, ◌++◌, get_or, map, refl, sym, subst, ap, ◌∙◌, arith}
use Rattle.std.specs.Prelude.{◌==◌, nat_le, nat_lt, Option, Some, None, find, option_map}
use Rattle.std.specs.List.{cons_option}
use Rattle.std.specs.Option.{is_none, option_or}
use Rattle.std.proofs.lemmas.Bool.{cases_Bool, cases_lt, cond-true, cond-false, and_from, and_parts, eqb-true, eq-eqb, le-leb, lt-ltb, leb-true, ltb-true}
use Rattle.std.proofs.lemmas.List.{get_or-map, get_or_default, length-map}
use Rattle.std.proofs.lemmas.Option.{none-some}
use Rattle.shunt_lists.specs.defs.Members.{In, AreDistinct}
use Rattle.shunt_lists.proofs.Members.{in_to, in_right, in_left}
use Rattle.shunt_instance.specs.defs.Instance.{Night}
use Rattle.shunt_tracks.specs.declared.run.Event.{Event}
use Rattle.shunt_plan.specs.declared.records.Plan.{Plan}
use Rattle.shunt_zones.specs.defs.Meetings.{Before}
use Rattle.shunt_zones.specs.defs.Moves.{moves_of}
use Rattle.shunt_drivers.specs.declared.records.Crew.{Crew}
use Rattle.shunt_drivers.specs.declared.records.Duty.{Duty}
use Rattle.shunt_drivers.specs.declared.records.RosterFault.{RosterFault}
use Rattle.shunt_drivers.specs.declared.records.RosterFault.TheVariants as faults
use Rattle.shunt_drivers.specs.declared.shares.MoveSpan.{MoveSpan}
use Rattle.shunt_drivers.specs.declared.faults.Task.{Task}
use Rattle.shunt_drivers.specs.defs.CrewFormat.{IsCrew}
use Rattle.shunt_drivers.specs.defs.RosterFormat.{MoveName, name_of, named_by, is_one, AreDuties}
use Rattle.shunt_drivers.specs.defs.SharedMoves.{runs_at}
use Rattle.shunt_drivers.specs.defs.Spans.{span_of}
use Rattle.shunt_drivers.specs.defs.Shared.{IsDutyOf, HasDuty, Overlap, IsSharingOf}
use Rattle.shunt_drivers.specs.defs.RosterFaults.{duty_for, absence_of, tasks_of, overlaps, overlap_of, overlap_with, overlap_in, fault_of, fault_in, IsFirstAbsent, IsFirstOverlap, InWords}
use Rattle.shunt_drivers.proofs.MoveNames.{found_in, none_passes, one_tells}
use Rattle.shunt_drivers.proofs.SpanCounts.{minutes_within}
use Rattle.shunt_drivers.proofs.MovesShared.{same_place, pick, picked}
use Rattle.shunt_lists.proofs.Options.{some_same}

-- ---- the first of a list that passes

record Split {X : Type 0} (p : X → Bool) (xs : List X) (x : X) : Type 0 where
  pub before : List X
  pub after : List X
  pub place : xs ≡ before ++ x ∷ after
  pub fail : (y : X) → In y before → p y ≡ false
  pub passes : p x ≡ true

split : {X : Type 0} (p : X → Bool) (xs : List X) (x : X) → find p xs ≡ Some x → Split p xs x
split p [] x e = absurd (none-some x e)
split {X = X} p (y ∷ ys) x e = ⊎_elim here (later (λ rest. split p ys x rest)) (cases_Bool (p y))
  where
    here : p y ≡ true → Split p (y ∷ ys) x
    here t =
        let same = some_same y x (sym (cond-true (p y) (Some y) (find p ys) t) ∙ e) in
        record { before = []; after = ys; place = ap (λ (z : X). z ∷ ys) same; fail = λ z i. absurd i; passes = subst (λ z. p z ≡ true) same t }

    later : (find p ys ≡ Some x → Split p ys x) → p y ≡ false → Split p (y ∷ ys) x
    later rest f =
        let s = rest (sym (cond-false (p y) (Some y) (find p ys) f) ∙ e) in
        record {
          before = y ∷ s.before;
          after = s.after;
          place = ap (λ l. y ∷ l) s.place;
          fail = λ z i. ⊎_elim (λ same. subst (λ w. p w ≡ false) (sym same) f)
              (λ j. s.fail z j) i;
          passes = s.passes;
        }

finds_first : {X : Type 0} (p : X → Bool) (before after : List X) (x : X) → ((y : X) → In y before → p y ≡ false) → p x ≡ true → find p (before ++ x ∷ after) ≡ Some x
finds_first p [] after x fail t = cond-true (p x) (Some x) (find p after) t
finds_first p (y ∷ before) after x fail t = cond-false (p y) (Some y) (find p (before ++ x ∷ after)) (fail y (inl refl)) ∙ finds_first p before after x (λ z i. fail z (inr i)) t

finds_none : {X : Type 0} (p : X → Bool) (xs : List X) → ((y : X) → In y xs → p y ≡ false) → find p xs ≡ None
finds_none p [] fail = refl
finds_none p (y ∷ ys) fail = cond-false (p y) (Some y) (find p ys) (fail y (inl refl)) ∙ finds_none p ys (λ z i. fail z (inr i))

either_map : {X Y : Type 0} (g : X → Y) (b : Bool) (x : X) (o : Option X) → cond b (Some (g x)) (option_map g o) ≡ option_map g (cond b (Some x) o)
either_map g true x o = refl
either_map g false x o = refl

find_map : {X Y : Type 0} (p : Y → Bool) (g : X → Y) (xs : List X) → find p (map g xs) ≡ option_map g (find (λ x. p (g x)) xs)
find_map p g [] = refl
find_map p g (x ∷ xs) = ap (λ o. cond (p (g x)) (Some (g x)) o) (find_map p g xs) ∙ either_map g (p (g x)) x (find (λ x. p (g x)) xs)

-- ---- which moves have a duty

module _ (duties : List Duty) where
  abbrev lacks : Event → Bool
  lacks e = is_none (duty_for duties e)

  has_of : (e : Event) → lacks e ≡ false → HasDuty duties e
  has_of e f = by (duty_for duties e) refl f
    where
      by : (o : Option Duty) → duty_for duties e ≡ o → is_none o ≡ false → HasDuty duties e
      by None same f = absurd cc
      by (Some d) same f = let found = found_in (λ (x : Duty). is_one (named_by x) (name_of e)) duties d same in (d, (found.0, one_tells (named_by d) (name_of e) found.1))

  of_has : (e : Event) → HasDuty duties e → lacks e ≡ false
  of_has e has = ap is_none (picked duties e has).0

  of_none : (e : Event) → (HasDuty duties e → ⊥) → lacks e ≡ true
  of_none e never = ⊎_elim (λ t. t) (λ f. absurd (never (has_of e f))) (cases_Bool (lacks e))

  never_both : (b : Bool) → b ≡ true → b ≡ false → ⊥
  never_both b t f = absurd cc

  each_has : (moves : List Event) → find lacks moves ≡ None → (e : Event) → In e moves → HasDuty duties e
  each_has moves none e i = has_of e (none_passes lacks moves e none i)

  none_lacks : (moves : List Event) → ((e : Event) → In e moves → HasDuty duties e) → find lacks moves ≡ None
  none_lacks moves each = finds_none lacks moves (λ e i. of_has e (each e i))

  absent_is : (moves : List Event) (e : Event) (enters : Bool) (id : ℕ) → find lacks moves ≡ Some e → name_of e ≡ (enters, id) → IsFirstAbsent moves duties enters id
  absent_is moves e enters id found named =
      let s = split lacks moves e found in
      record {
        before = s.before;
        move = e;
        after = s.after;
        place = s.place;
        had = λ f i. has_of f (s.fail f i);
        absent = λ has. never_both (lacks e) s.passes
            (of_has e has);
        named = named;
      }

  is_absent : (moves : List Event) (enters : Bool) (id : ℕ) (a : IsFirstAbsent moves duties enters id) → find lacks moves ≡ Some a.move
  is_absent moves enters id a = ap (find lacks) a.place ∙ finds_first lacks a.before a.after a.move (λ e i. of_has e (a.had e i)) (of_none a.move a.absent)

  -- one duty is a move's
  same_duty : AreDistinct (map named_by duties) → (a b : Duty) → In a duties → In b duties → named_by a ≡ named_by b → a ≡ b
  same_duty once a b i j e =
      let c = in_to duties a i in
      let d = in_to duties b j in
      let long = length-map duties named_by in
      let first : get_or (map named_by duties) c.0 (named_by a) ≡ named_by a = get_or-map named_by duties c.0 a (named_by a) c.1 ∙ ap named_by c.2 in
      let second : get_or (map named_by duties) d.0 (named_by a) ≡ named_by b = get_or-map named_by duties d.0 b (named_by a) d.1 ∙ ap named_by d.2 in
      let same : c.0 ≡ d.0 = same_place (map named_by duties) c.0 d.0 (named_by a) once (let lt = c.1 in omega (arith, lt, long)) (let lt = d.1 in omega (arith, lt, long))
      (first ∙ e ∙ sym second) in
      sym c.2 ∙ ap (λ k. get_or duties k a) same ∙ get_or_default duties d.0 a b d.1 ∙ d.2

-- ---- which moves overlap

module _ (night : Night) (crew : Crew) (is : IsCrew night.station crew) (duties : List Duty) (once : AreDistinct (map named_by duties)) where
  abbrev task : Event → Task
  task e = record { span = span_of night crew e; duty = pick duties e }

  abbrev hit : Event → Event → Bool
  hit e f = overlaps (task e) (task f)

  runs : (t : ℕ) (a : MoveSpan) → a.start ≤ t → t < a.end → runs_at t a ≡ true
  runs t a from lt = and_from (nat_le a.start t) (nat_lt t a.end) (le-leb a.start t from) (lt-ltb t a.end lt)

  runs_from : (t : ℕ) (a : MoveSpan) → runs_at t a ≡ true → (a.start ≤ t) × (t < a.end)
  runs_from t a e = let both = and_parts (nat_le a.start t) (nat_lt t a.end) e in (leb-true a.start t both.0, ltb-true t a.end both.1)

  some_minutes : (e : Event) → (span_of night crew e).start < (span_of night crew e).end
  some_minutes e = let m = (minutes_within night night.station crew e is).0 in omega (arith, m)

  hit_is : (e f : Event) → HasDuty duties e → HasDuty duties f → hit e f ≡ true → Overlap night crew duties e f (pick duties e) (pick duties f)
  hit_is e f has too t =
      let a = span_of night crew e in
      let b = span_of night crew f in
      let both = and_parts ((pick duties e).driver == (pick duties f).driver && nat_lt a.start b.end) (nat_lt b.start a.end) t in
      let first = and_parts ((pick duties e).driver == (pick duties f).driver) (nat_lt a.start b.end) both.0 in
      let before = ltb-true a.start b.end first.1 in
      let behind = ltb-true b.start a.end both.1 in
      let driver = eqb-true (pick duties e).driver (pick duties f).driver first.0 in
      let some_a = some_minutes e in
      let some_b = some_minutes f in
      ⊎_elim
      (λ lt. let r : Overlap night crew duties e f (pick duties e) (pick duties f) = record {
        first = (picked duties e has).1;
        second = (picked duties f too).1;
        driver = driver;
        minute = b.start;
        runs = runs b.start a
            (omega (arith, lt)) behind;
        runs_too = runs b.start b (omega arith) some_b;
      } in r)
      (λ ge. let r : Overlap night crew duties e f (pick duties e) (pick duties f) = record {
        first = (picked duties e has).1;
        second = (picked duties f too).1;
        driver = driver;
        minute = a.start;
        runs = runs a.start a
            (omega arith) some_a;
        runs_too = runs a.start b ge before;
      } in r)
      (cases_lt a.start b.start)

  picks : (e : Event) (a : Duty) → IsDutyOf duties e a → pick duties e ≡ a
  picks e a own = let p = (picked duties e (a, own)).1 in same_duty duties once (pick duties e) a p.0 own.0 (p.1 ∙ sym own.1)

  is_hit : (e f : Event) (a b : Duty) → Overlap night crew duties e f a b → hit e f ≡ true
  is_hit e f a b o =
      let r = runs_from o.minute (span_of night crew e) o.runs in
      let s = runs_from o.minute (span_of night crew f) o.runs_too in
      let driver : (pick duties e).driver ≡ (pick duties f).driver = ap (λ (d : Duty). d.driver) (picks e a o.first) ∙ o.driver
      ∙ sym (ap (λ (d : Duty). d.driver) (picks f b o.second)) in
      and_from _ _ (and_from _ _ (eq-eqb (pick duties e).driver (pick duties f).driver driver)
      (lt-ltb (span_of night crew e).start (span_of night crew f).end (let from = r.0 in let lt = s.1 in omega (arith, from, lt))))
      (lt-ltb (span_of night crew f).start (span_of night crew e).end (let from = s.0 in let lt = r.1 in omega (arith, from, lt)))

  no_hit : (e f : Event) → ((a b : Duty) → Overlap night crew duties e f a b → ⊥) → HasDuty duties e → HasDuty duties f → hit e f ≡ false
  no_hit e f never has too = ⊎_elim (λ t. absurd (never (pick duties e) (pick duties f) (hit_is e f has too t))) (λ f. f) (cases_Bool (hit e f))

  never_hit : (b : Bool) → b ≡ true → b ≡ false → ⊥
  never_hit b t f = absurd cc

  hit_never : (e f : Event) (a b : Duty) → hit e f ≡ false → Overlap night crew duties e f a b → ⊥
  hit_never e f a b no_one o = never_hit (hit e f) (is_hit e f a b o) no_one

  tasks_are : (moves : List Event) → ((e : Event) → In e moves → HasDuty duties e) → tasks_of night crew duties moves ≡ map task moves
  tasks_are [] each = refl
  tasks_are (e ∷ moves) each =
      ap (λ o. cons_option (option_map (λ (d : Duty). let t : Task = record { span = span_of night crew e; duty = d } in t) o) (tasks_of night crew duties moves))
      (picked duties e (each e (inl refl))).0
      ∙ ap (λ l. task e ∷ l) (tasks_are moves (λ f i. each f (inr i)))

  behind_is : (e f : Event) (moves : List Event) → Before e f moves → In e moves × In f moves
  behind_is e f [] b = absurd b
  behind_is e f (m ∷ moves) (inl b) = (inl b.0, inr b.1)
  behind_is e f (m ∷ moves) (inr b) = let p = behind_is e f moves b in (inr p.0, inr p.1)

  -- the first pair that overlaps
  record Pair (moves : List Event) (fault : RosterFault) : Type 0 where
    before : List Event
    first : Event
    between : List Event
    second : Event
    after : List Event
    place : moves ≡ (before ++ first ∷ between) ++ second ∷ after
    fault_is : fault ≡ overlap_of (task first) (task second)
    hits : hit first second ≡ true
    earlier : (e f : Event) → In e before → Before e f moves → hit e f ≡ false
    nearer : (f : Event) → In f between → hit first f ≡ false

  abbrev later_in : Event → List Event → Option Event
  later_in m moves = find (hit m) moves

  with_is : (m : Event) (moves : List Event) → overlap_with (task m) (map task moves) ≡ option_map (λ f. overlap_of (task m) (task f)) (later_in m moves)
  with_is m moves = ap (option_map (overlap_of (task m))) (find_map (overlaps (task m)) task moves) ∙ twice (later_in m moves)
    where
      twice : (o : Option Event) → option_map (overlap_of (task m)) (option_map task o) ≡ option_map (λ f. overlap_of (task m) (task f)) o
      twice None = refl
      twice (Some f) = refl

  sooner : (m : Event) (moves : List Event) (fault : RosterFault) (p : Pair moves fault) → later_in m moves ≡ None → (g h : Event) → In g (m ∷ p.before) → Before g h (m ∷ moves)
      → hit g h ≡ false
  sooner m moves fault p none g h (inl e) (inl b) = subst (λ x. hit x h ≡ false) (sym e) (none_passes (hit m) moves h none b.1)
  sooner m moves fault p none g h (inl e) (inr b) = subst (λ x. hit x h ≡ false) (sym e) (none_passes (hit m) moves h none (behind_is g h moves b).1)
  sooner m moves fault p none g h (inr i) (inl b) = subst (λ x. hit x h ≡ false) (sym b.0) (none_passes (hit m) moves h none b.1)
  sooner m moves fault p none g h (inr i) (inr b) = p.earlier g h i b

  abbrev pair_of : Event → Event → RosterFault
  pair_of m f = overlap_of (task m) (task f)

  pair_is : (moves : List Event) (fault : RosterFault) → overlap_in (map task moves) ≡ Some fault → Pair moves fault
  pair_is [] fault e = absurd (none-some fault e)
  pair_is (m ∷ moves) fault e = by (later_in m moves) refl (λ rest. pair_is moves fault rest)
    where
      by : (o : Option Event) → later_in m moves ≡ o → (overlap_in (map task moves) ≡ Some fault → Pair moves fault) → Pair (m ∷ moves) fault
      by (Some f) found rest =
          let s = split (hit m) moves f found in
          let here : overlap_with (task m) (map task moves) ≡ Some (pair_of m f) = with_is m moves ∙ ap (option_map (pair_of m)) found in
          let same : Some (pair_of m f) ≡ Some fault = sym (ap (λ o. option_or o (overlap_in (map task moves))) here) ∙ e in
          record {
            before = [];
            first = m;
            between = s.before;
            second = f;
            after = s.after;
            place = ap (λ l. m ∷ l) s.place;
            fault_is = sym (some_same (pair_of m f) fault same);
            hits = s.passes;
            earlier = λ g h i b. absurd i;
            nearer = s.fail;
          }
      by None found rest =
          let here : overlap_with (task m) (map task moves) ≡ None = with_is m moves ∙ ap (option_map (pair_of m)) found in
          let p = rest (sym (ap (λ o. option_or o (overlap_in (map task moves))) here) ∙ e) in
          record {
            before = m ∷ p.before;
            first = p.first;
            between = p.between;
            second = p.second;
            after = p.after;
            place = ap (λ l. m ∷ l) p.place;
            fault_is = p.fault_is;
            hits = p.hits;
            earlier = sooner m moves fault p found;
            nearer = p.nearer;
          }

  is_pair : (before : List Event) (first : Event) (between : List Event) (second : Event) (after : List Event) → hit first second ≡ true
      → ((e f : Event) → In e before → Before e f ((before ++ first ∷ between) ++ second ∷ after) → hit e f ≡ false) → ((f : Event) → In f between → hit first f ≡ false)
      → overlap_in (map task ((before ++ first ∷ between) ++ second ∷ after)) ≡ Some (pair_of first second)
  is_pair [] first between second after t earlier nearer =
      let rest = between ++ second ∷ after in
      ap (λ o. option_or o (overlap_in (map task rest))) (with_is first rest ∙ ap (option_map (pair_of first)) (finds_first (hit first) between after second nearer t))
  is_pair (m ∷ before) first between second after t earlier nearer =
      let rest = (before ++ first ∷ between) ++ second ∷ after in
      ap (λ o. option_or o (overlap_in (map task rest))) (with_is m rest ∙ ap (option_map (pair_of m)) (finds_none (hit m) rest (λ f i. earlier m f (inl refl) (inl (refl, i)))))
      ∙ is_pair before first between second after t (λ e f i b. earlier e f (inr i) (inr b)) nearer

  none_hit : (moves : List Event) → overlap_in (map task moves) ≡ None → (e f : Event) → Before e f moves → hit e f ≡ false
  none_hit [] none e f b = absurd b
  none_hit (m ∷ moves) none e f b = by (later_in m moves) refl b (λ rest c. none_hit moves rest e f c)
    where
      by : (o : Option Event) → later_in m moves ≡ o → Before e f (m ∷ moves) → (overlap_in (map task moves) ≡ None → Before e f moves → hit e f ≡ false) → hit e f ≡ false
      by (Some g) found c rest =
          let here : overlap_with (task m) (map task moves) ≡ Some (pair_of m g) = with_is m moves ∙ ap (option_map (pair_of m)) found in
          absurd (none-some (pair_of m g) (sym none ∙ ap (λ o. option_or o (overlap_in (map task moves))) here))
      by None found (inl c) rest = subst (λ x. hit x f ≡ false) (sym c.0) (none_passes (hit m) moves f found c.1)
      by None found (inr c) rest =
          let here : overlap_with (task m) (map task moves) ≡ None = with_is m moves ∙ ap (option_map (pair_of m)) found in
          rest (sym (ap (λ o. option_or o (overlap_in (map task moves))) here) ∙ none) c

  hit_none : (moves : List Event) → ((e f : Event) → Before e f moves → hit e f ≡ false) → overlap_in (map task moves) ≡ None
  hit_none [] never = refl
  hit_none (m ∷ moves) never =
      ap (λ o. option_or o (overlap_in (map task moves))) (with_is m moves ∙ ap (option_map (pair_of m)) (finds_none (hit m) moves (λ f i. never m f (inl (refl, i)))))
      ∙ hit_none moves (λ e f b. never e f (inr b))

  -- ---- the fault

  module _ (moves : List Event) where
    abbrev fault : Option RosterFault
    fault = fault_of night crew moves duties

    -- where each move has a duty, what is left is the first pair
    of_pairs : ((e : Event) → In e moves → HasDuty duties e) → fault ≡ overlap_in (map task moves)
    of_pairs each =
        ap (λ o. option_or (option_map absence_of o) (overlap_in (tasks_of night crew duties moves))) (none_lacks duties moves each)
        ∙ ap overlap_in (tasks_are moves each)

    of_absent : (e : Event) → find (lacks duties) moves ≡ Some e → fault ≡ Some (absence_of e)
    of_absent e found = ap (λ o. option_or (option_map absence_of o) (overlap_in (tasks_of night crew duties moves))) found

    no_fault : fault ≡ None → IsSharingOf night crew moves duties
    no_fault none = by (find (lacks duties) moves) refl
      where
        by : (o : Option Event) → find (lacks duties) moves ≡ o → IsSharingOf night crew moves duties
        by (Some e) found = absurd (none-some (absence_of e) (sym none ∙ of_absent e found))
        by None found =
            let each = each_has duties moves found in
            let none_left = sym (of_pairs each) ∙ none in
            record { each = each; once = once; apart = λ e f a b before o. hit_never e f a b (none_hit moves none_left e f before) o }

    sharing_is : IsSharingOf night crew moves duties → fault ≡ None
    sharing_is s =
        of_pairs s.each ∙ hit_none moves (λ e f b. let in_both = behind_is e f moves b in no_hit e f (λ c d o. s.apart e f c d b o) (s.each e in_both.0) (s.each f in_both.1))

    absent_name : (a b : Bool) (i j : ℕ) → faults.Absent a i ≡ faults.Absent b j → (a ≡ b) × (i ≡ j)
    absent_name a b i j e = (cc, cc)

    overlap_both : (a b c d : Duty) → faults.Overlap a b ≡ faults.Overlap c d → (a ≡ c) × (b ≡ d)
    overlap_both a b c d e = (cc, cc)

    not_both : (a b : Duty) (enters : Bool) (id : ℕ) → faults.Absent enters id ≡ faults.Overlap a b → ⊥
    not_both a b enters id e = absurd cc

    fault_absent : (enters : Bool) (id : ℕ) → fault ≡ Some (faults.Absent enters id) → IsFirstAbsent moves duties enters id
    fault_absent enters id e = by (find (lacks duties) moves) refl
      where
        by : (o : Option Event) → find (lacks duties) moves ≡ o → IsFirstAbsent moves duties enters id
        by (Some m) found =
            let same = absent_name m.key.enters enters m.key.id id (some_same (absence_of m) (faults.Absent enters id) (sym (of_absent m found) ∙ e)) in
            absent_is duties moves m enters id found (ap (λ (x : Bool). let n : MoveName = (x, m.key.id) in n) same.0 ∙ ap (λ (x : ℕ). let n : MoveName = (enters, x) in n) same.1)
        by None found =
            let p = pair_is moves (faults.Absent enters id) (sym (of_pairs (each_has duties moves found)) ∙ e) in
            absurd (not_both (pick duties p.first) (pick duties p.second) enters id p.fault_is)

    absent_fault : (enters : Bool) (id : ℕ) → IsFirstAbsent moves duties enters id → fault ≡ Some (faults.Absent enters id)
    absent_fault enters id a = of_absent a.move (is_absent duties moves enters id a) ∙ ap (λ (n : MoveName). Some (faults.Absent n.0 n.1)) a.named

    fault_overlap : (a b : Duty) → fault ≡ Some (faults.Overlap a b) → IsFirstOverlap night crew moves duties a b
    fault_overlap a b e = by (find (lacks duties) moves) refl
      where
        by : (o : Option Event) → find (lacks duties) moves ≡ o → IsFirstOverlap night crew moves duties a b
        by (Some m) found = absurd (not_both a b m.key.enters m.key.id (some_same (absence_of m) (faults.Overlap a b) (sym (of_absent m found) ∙ e)))
        by None found =
            let each = each_has duties moves found in
            let p = pair_is moves (faults.Overlap a b) (sym (of_pairs each) ∙ e) in
            let same = overlap_both a b (pick duties p.first) (pick duties p.second) p.fault_is in
            let first_in : In p.first moves = subst (In p.first) (sym p.place) (in_left (p.before ++ p.first ∷ p.between) (p.second ∷ p.after) p.first
            (in_right p.before (p.first ∷ p.between) p.first (inl refl))) in
            let second_in : In p.second moves = subst (In p.second) (sym p.place) (in_right (p.before ++ p.first ∷ p.between) (p.second ∷ p.after) p.second (inl refl)) in
            let both = hit_is p.first p.second (each p.first first_in) (each p.second second_in) p.hits in
            record {
              each = each;
              before = p.before;
              first = p.first;
              between = p.between;
              second = p.second;
              after = p.after;
              place = p.place;
              overlap = subst (λ x. Overlap night crew duties p.first p.second x b) (sym same.0)
                  (subst (Overlap night crew duties p.first p.second (pick duties p.first)) (sym same.1) both);
              earlier = λ g h c d i before o. hit_never g h c d (p.earlier g h i before) o;
              nearer = λ h d i o. hit_never p.first h a d (p.nearer h i) o;
            }

    overlap_fault : (a b : Duty) → IsFirstOverlap night crew moves duties a b → fault ≡ Some (faults.Overlap a b)
    overlap_fault a b x =
        let start = x.before ++ x.first ∷ x.between in
        let rest = x.second ∷ x.after in
        let all = start ++ rest in
        let has : (e : Event) → In e all → HasDuty duties e = λ e i. x.each e (subst (In e) (sym x.place) i) in
        let first_in : In x.first all = in_left start rest x.first (in_right x.before (x.first ∷ x.between) x.first (inl refl)) in
        of_pairs x.each ∙ ap (λ l. overlap_in (map task l)) x.place
        ∙ is_pair x.before x.first x.between x.second x.after (is_hit x.first x.second a b x.overlap)
        (λ e f i before. let in_both = behind_is e f all before in no_hit e f (λ c d o. x.earlier e f c d i (subst (Before e f) (sym x.place) before) o) (has e in_both.0)
        (has f in_both.1))
        (λ f i. no_hit x.first f
        (λ c d o. x.nearer f d i (subst (λ y. Overlap night crew duties x.first f y d) (sym (picks x.first c o.first) ∙ picks x.first a x.overlap.first) o))
        (has x.first first_in) (has f (in_left start rest f (in_right x.before (x.first ∷ x.between) f (inr i)))))
        ∙ ap (λ c. Some (faults.Overlap c (pick duties x.second))) (picks x.first a x.overlap.first)
        ∙ ap (λ d. Some (faults.Overlap a d)) (picks x.second b x.overlap.second)

-- ---- of a plan

pub words : (night : Night) (crew : Crew) (plan : Plan) (duties : List Duty) → IsCrew night.station crew → AreDuties (moves_of night plan.blocks) duties
    → InWords night crew plan duties
unfolding fault_in
words night crew plan duties is own =
    let moves = moves_of night plan.blocks in
    record {
      none = (no_fault night crew is duties own.once moves, sharing_is night crew is duties own.once moves);
      absent = λ enters id. (fault_absent night crew is duties own.once moves enters id, absent_fault night crew is duties own.once moves enters id);
      overlap = λ a b. (fault_overlap night crew is duties own.once moves a b, overlap_fault night crew is duties own.once moves a b);
    }
