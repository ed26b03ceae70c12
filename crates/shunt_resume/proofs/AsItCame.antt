-- The feasible plans from a minute on are those of the night that leave what has come as it is, and the blocks that have gone are all of them.
use Rattle.std.proofs.Common.{◌≡◌, ℕ, suc, ◌+◌, ◌<◌, ◌≤◌, ⊎_elim, inl, inr, true, false, not, List, [], ◌∷◌, length, filter, map, refl, sym, ap, subst, ◌∙◌, arith}
use Rattle.std.specs.Prelude.{AllPairs, IsTrue, Option, Some, None, unwrap_or}
use Rattle.std.specs.List.{range_with_len, list_any}
use Rattle.std.proofs.lemmas.Bool.{cases_Bool, true≢false, cond-true}
use Rattle.shunt_lists.specs.defs.Members.{In}
use Rattle.shunt_lists.proofs.Members.{each_one, in_map, filter_from, filter_to}
use Rattle.shunt_lists.proofs.Ranges.{in_range}
use Rattle.shunt_base.specs.declared.ids.TrackId.{TrackId}
use Rattle.shunt_base.specs.declared.ids.Side.{Side}
use Rattle.shunt_instance.specs.declared.records.Station.{Station}
use Rattle.shunt_instance.specs.declared.records.Origin.TheVariants as origin
use Rattle.shunt_instance.specs.declared.records.PlacedRun.{PlacedRun}
use Rattle.shunt_instance.specs.declared.records.Timetable.{Timetable}
use Rattle.shunt_instance.specs.declared.records.TrackEnd.{TrackEnd}
use Rattle.shunt_instance.specs.declared.records.Train.{Train}
use Rattle.shunt_instance.specs.defs.Words.{train_at, is_standing}
use Rattle.shunt_instance.specs.defs.Wellformed.{IsStation, IsTimetable}
use Rattle.shunt_instance.specs.defs.Instance.{sort_by_minute, Night, night_of, IsOrderedNight}
use Rattle.shunt_instance.proofs.Orders.{night_is}
use Rattle.shunt_instance.proofs.Placed.{Before}
use Rattle.shunt_blocks.specs.declared.records.Block.{Block}
use Rattle.shunt_blocks.specs.declared.records.Park.{Park}
use Rattle.shunt_blocks.specs.defs.Shapes.{shape_of}
use Rattle.shunt_blocks.specs.defs.Ways.{has_placed, may_come, meets_run}
use Rattle.shunt_blocks.specs.defs.Blocks.{IsBlock}
use Rattle.shunt_blocks.specs.defs.Lists.{IsFeasible}
use Rattle.shunt_audit.proofs.ById.{there}
use Rattle.shunt_resume.specs.defs.Resumed.{has_come_by, has_gone_by, unit_at_place, cleared, option_runs, run_of, new_runs, train_runs, with_runs, resumed, next_night, gone, ShareUnits, IsAsItCame, LeaveAsItCame}
use Rattle.shunt_resume.proofs.Alike.{with_placed, come_alike, come_at}
use Rattle.shunt_resume.proofs.Comers.{Comes, FromBlock, from_block, in_train, one_name, parked_new}
use Rattle.shunt_resume.proofs.Goings.{come_stays, formed_on}
use Rattle.shunt_resume.proofs.Nights.{next_is, plan_stays}
use Rattle.shunt_resume.proofs.Placing.{of_with_runs, old_with_runs, new_with_runs}
use Rattle.shunt_resume.proofs.Timetables.{Open, Shares, sort_stays}
use Rattle.shunt_resume.proofs.Ways.{any_there, any_found, Meets, meets_to, meets_from, IsRun, run_itself, run_may_come, none_may_come, may_cases}

-- ---- runs of one train

-- of runs in the order of their places, two that share a unit are one
same_run : (runs : List PlacedRun) (r q : PlacedRun) → AllPairs Before runs → In r runs → In q runs → r.first < q.first + q.count → q.first < r.first + r.count → r ≡ q
same_run [] r q apart i j a b = absurd i
same_run (x ∷ runs) r q apart (inl e) (inl d) a b = e ∙ sym d
same_run (x ∷ runs) r q apart (inl e) (inr j) a b =
    let le : Before r q = subst (λ (z : PlacedRun). Before z q) (sym e) (each_one (Before x) runs q (λ k d lt. apart 0 (suc k) d (omega arith) (omega arith)) j) in
    absurd (omega (arith, le, b))
same_run (x ∷ runs) r q apart (inr i) (inl d) a b =
    let le : Before q r = subst (λ (z : PlacedRun). Before z r) (sym d) (each_one (Before x) runs r (λ k e lt. apart 0 (suc k) e (omega arith) (omega arith)) i) in
    absurd (omega (arith, le, a))
same_run (x ∷ runs) r q apart (inr i) (inr j) a b = same_run runs r q (λ k l d lt within. apart (suc k) (suc l) d (omega arith) (omega arith)) i j a b

-- a unit that was cleared away is new
cleared_new : (night : Night) (m : ℕ) (b : Block) (place : ℕ) → has_come_by night m b ≡ true → b.park ≡ None → b.p ≤ place → place < b.p + b.n
    → has_placed night (unit_at_place b place) ≡ false → In (cleared place) (new_runs night m b)
unfolding new_runs
cleared_new night m b place come none from to fresh =
    let fresh_at = λ (k : ℕ). not (has_placed night (unit_at_place b k)) in
    subst (λ (l : List PlacedRun). In (cleared place) l)
    (sym (cond-true (has_come_by night m b) (option_runs night b b.park) [] come ∙ ap (option_runs night b) none))
    (in_map cleared (filter fresh_at (range_with_len b.p b.n)) place (filter_to fresh_at (range_with_len b.p b.n) place (in_range b.p b.n place from to) (ap not fresh)))

-- ---- the night from the minute on

-- a block that came to a track is one of the runs of its train
record Stands (night : Night) (b : Block) (k : Park) : Type 0 where
  run : PlacedRun
  there : In run (train_at night.arrive b.arr.0).placed
  is : IsRun (shape_of b) k.track k.side_in run

abbrev no_train : Train
no_train = record { name = []; minute = 0; origin = origin.Platform (record { 0 = 0 }); units = []; placed = [] }

module _ (s : Station) (t : Timetable) (m : ℕ) (blocks : List Block) (f : IsStation s) (g : IsTimetable s t) (plan : IsFeasible (night_of s t) blocks) (opens : Open) (shares : Shares) where
  abbrev night : Night
  night = night_of s t

  abbrev next : Night
  next = next_night s t m blocks

  abbrev arrive : List Train
  arrive = sort_by_minute t.arrive

  abbrev depart : List Train
  depart = sort_by_minute t.depart

  abbrev come : Train → List PlacedRun
  come u = with_runs (train_runs night m blocks u.name) u.placed

  abbrev other : List Train
  other = map (with_placed come) arrive

  abbrev runs : ℕ → List PlacedRun
  runs a = (train_at arrive a).placed

  abbrev more : ℕ → List PlacedRun
  more a = train_runs night m blocks (train_at arrive a).name

  ordered : IsOrderedNight night
  ordered = night_is s t f g

  after : IsOrderedNight next
  after = night_is s (resumed night m blocks t) f (formed_on s t m blocks f g plan opens shares)

  low : (b : Block) → In b blocks → b.arr.0 < length arrive
  low b i = (each_one (IsBlock night) blocks b plan.each i).in_range.within.runs.arr

  come_is : (a : ℕ) → a < length arrive → (train_at other a).placed ≡ with_runs (more a) (runs a)
  come_is a lt = ap (λ (u : Train). u.placed) (come_at come arrive a lt)

  placed_is : (a : ℕ) → a < length arrive → (train_at next.arrive a).placed ≡ with_runs (more a) (runs a)
  placed_is a lt = ap (λ (ts : List Train). (train_at ts a).placed) (sort_stays come t.arrive) ∙ come_is a lt

  in_next : (b : Block) (r : PlacedRun) → In b blocks → In r (with_runs (more b.arr.0) (runs b.arr.0)) → In r (train_at next.arrive b.arr.0).placed
  in_next b r i j = subst (λ (rs : List PlacedRun). In r rs) (sym (placed_is b.arr.0 (low b i))) j

  new_in_next : (b : Block) (r : PlacedRun) → In b blocks → In r (new_runs night m b) → In r (train_at next.arrive b.arr.0).placed
  new_in_next b r i j = in_next b r i (new_with_runs (more b.arr.0) (runs b.arr.0) r (in_train night m blocks b r i j))

  stands : (b : Block) (k : Park) → In b blocks → has_come_by night m b ≡ true → b.park ≡ Some k → is_standing (train_at arrive b.arr.0) ≡ false → Stands next b k
  stands b k i come is moves = elim (cases_Bool (has_placed night (shape_of b))) [
    | inl some ↦ let at = come_stays night blocks b k plan i is some in record {
      run = at.run;
      there = in_next b at.run i (old_with_runs (more b.arr.0) (runs b.arr.0) at.run at.there);
      is = record { first = at.first; count = at.count; came_by = at.came_by };
    }
    | inr none ↦ record {
      run = run_of b k;
      there = new_in_next b (run_of b k) i (parked_new night m b k come is moves none);
      is = record { first = refl; count = refl; came_by = refl };
    }
  ]

  -- a parked block with a unit of a run is that run
  own_run : (others : List Block) → IsFeasible next others → (c : Block) (j : Park) → In c others → c.park ≡ Some j → (r : PlacedRun) → In r (train_at next.arrive c.arr.0).placed
      → Meets (shape_of c) r → IsRun (shape_of c) j.track j.side_in r
  own_run others is c j i park r there met =
      let placed = (train_at next.arrive c.arr.0).placed in
      let at = come_stays next others c j is i park (any_there (meets_run (shape_of c)) placed r there (meets_to (shape_of c) r met)) in
      let lt = (each_one (IsBlock next) others c is.each i).in_range.within.runs.arr in
      let first = at.first in let count = at.count in let before = met.before in let behind = met.behind in
      let one = same_run placed at.run r (after.timetable.arrive.each c.arr.0 no_train lt).placed.apart at.there there (omega (arith, first, before)) (omega (arith, first, count, behind)) in
      subst (IsRun (shape_of c) j.track j.side_in) one (record { first = at.first; count = at.count; came_by = at.came_by })

  parked_stay : (others : List Block) → IsFeasible next others → (b : Block) (k : Park) (c : Block) (j : Park) → In b blocks → has_come_by night m b ≡ true → b.park ≡ Some k
      → is_standing (train_at arrive b.arr.0) ≡ false → In c others → c.park ≡ Some j → ShareUnits b c → IsAsItCame b k c j
  parked_stay others is b k c j i come bp moves h cp share =
      let at = stands b k i come bp moves in
      let there = subst (λ (a : ℕ). In at.run (train_at next.arrive a).placed) share.train at.there in
      let first = at.is.first in let count = at.is.count in let before = share.before in let behind = share.behind in
      let own = own_run others is c j h cp at.run there (record { before = omega (arith, first, count, before); behind = omega (arith, first, behind) }) in
      let same = sym own.came_by ∙ at.is.came_by in
      let here : TrackEnd = record { track = k.track; side = k.side_in } in
      record {
        first = sym own.first ∙ at.is.first;
        count = sym own.count ∙ at.is.count;
        track = ap (λ (o : Option TrackEnd). (unwrap_or o here).track) same;
        side_in = ap (λ (o : Option TrackEnd). (unwrap_or o here).side) same;
      }

  cleared_stay : (others : List Block) → IsFeasible next others → (b c : Block) (j : Park) (place : ℕ) → In b blocks → has_come_by night m b ≡ true → b.park ≡ None → In c others
      → c.park ≡ Some j → b.arr.0 ≡ c.arr.0 → b.p ≤ place → place < b.p + b.n → c.p ≤ place → place < c.p + c.n → has_placed night (unit_at_place b place) ≡ true
  cleared_stay others is b c j place i come none h cp same from to from' to' = elim (cases_Bool (has_placed night (unit_at_place b place))) [
    | inl some ↦ some
    | inr fresh ↦
        let there = subst (λ (a : ℕ). In (cleared place) (train_at next.arrive a).placed) same (new_in_next b (cleared place) i (cleared_new night m b place come none from to fresh)) in
        let own = own_run others is c j h cp (cleared place) there (record { before = omega (arith, from'); behind = to' }) in
        absurd (let e : None ≡ Some (record { track = j.track; side = j.side_in }) = own.came_by in cc)
  ]

  pub leave_on : (others : List Block) → IsFeasible next others → LeaveAsItCame night m blocks others
  leave_on others is = record { parked = parked_stay others is; cleared = cleared_stay others is }

  -- ---- and all that leave it so

  module _ (others : List Block) (leave : LeaveAsItCame night m blocks others) (c : Block) (j : Park) (h : In c others) (cp : c.park ≡ Some j) (lt : c.arr.0 < length arrive) where
    abbrev now : List PlacedRun
    now = with_runs (more c.arr.0) (runs c.arr.0)

    abbrev Here : PlacedRun → Type 0
    Here r = IsRun (shape_of c) j.track j.side_in r

    of_new : (r : PlacedRun) → In r (more c.arr.0) → Meets (shape_of c) r → Here r
    of_new r q met = by from.comes
      where
        from : FromBlock night m blocks (train_at arrive c.arr.0).name r
        from = from_block night m blocks (train_at arrive c.arr.0).name r q

        same : from.block.arr.0 ≡ c.arr.0
        same = one_name night from.block.arr.0 c.arr.0 ordered (low from.block from.there) lt from.named

        by : Comes night from.block r → Here r
        by (inl p) =
            let at = subst (Meets (shape_of c)) p.same met in
            let before = at.before in let behind = at.behind in
            let is = leave.parked from.block p.option c j from.there from.come p.park p.moves h cp (record { train = same; before = before; behind = behind }) in
            subst Here (sym p.same) (record {
              first = sym is.first;
              count = sym is.count;
              came_by = ap (λ (k : TrackId). Some (record { track = k; side = p.option.side_in })) (sym is.track)
                  ∙ ap (λ (side : Side). Some (record { track = j.track; side = side })) (sym is.side_in);
            })
        by (inr p) =
            let at = subst (Meets (shape_of c)) p.same met in
            let before = at.before in let behind = at.behind in
            absurd (true≢false (sym (leave.cleared from.block c j p.place from.there from.come p.park h cp same p.from p.to (omega (arith, before)) behind) ∙ p.none))

    new_may : may_come (runs c.arr.0) (shape_of c) j.track j.side_in ≡ true → may_come (train_at other c.arr.0).placed (shape_of c) j.track j.side_in ≡ true
    new_may may =
        subst (λ (rs : List PlacedRun). may_come rs (shape_of c) j.track j.side_in ≡ true) (sym (come_is c.arr.0 lt))
        (⊎_elim
        (λ never. elim (cases_Bool (list_any (meets_run (shape_of c)) (more c.arr.0))) [
          | inl some ↦
              let at = any_found (meets_run (shape_of c)) (more c.arr.0) some in
              run_may_come now (shape_of c) j.track j.side_in at.0 (new_with_runs (more c.arr.0) (runs c.arr.0) at.0 at.1)
              (run_itself (shape_of c) j.track j.side_in at.0 (of_new at.0 at.1 (meets_from (shape_of c) at.0 at.2)))
          | inr none ↦ none_may_come now (shape_of c) j.track j.side_in (λ r i met. ⊎_elim
              (λ q. true≢false (sym (any_there (meets_run (shape_of c)) (more c.arr.0) r q (meets_to (shape_of c) r met)) ∙ none)) (λ q. never r q met)
              (of_with_runs (more c.arr.0) (runs c.arr.0) r i))
        ])
        (λ own. run_may_come now (shape_of c) j.track j.side_in own.run (old_with_runs (more c.arr.0) (runs c.arr.0) own.run own.there) own.is)
        (may_cases (runs c.arr.0) (shape_of c) j.track j.side_in may))

  pub all_on : (others : List Block) → IsFeasible night others → LeaveAsItCame night m blocks others → IsFeasible next others
  all_on others is leave = subst (λ (n : Night). IsFeasible n others) (sym (next_is shares s t m blocks f g plan))
      (plan_stays s depart arrive other (come_alike come arrive) others
      (λ c i j cp may. new_may others leave c j i cp (each_one (IsBlock night) others c is.each i).in_range.within.runs.arr may) is)

-- ---- the blocks that have gone

pub gone_from : (night : Night) (m : ℕ) (blocks : List Block) (b : Block) → In b (gone night m blocks) → In b blocks × IsTrue (has_gone_by night m b)
unfolding gone
gone_from night m blocks b i = filter_from (has_gone_by night m) blocks b ((there (filter (has_gone_by night m) blocks) b).0 i)

pub gone_to : (night : Night) (m : ℕ) (blocks : List Block) (b : Block) → In b blocks → IsTrue (has_gone_by night m b) → In b (gone night m blocks)
unfolding gone
gone_to night m blocks b i is = (there (filter (has_gone_by night m) blocks) b).1 (filter_to (has_gone_by night m) blocks b i is)
