-- The timetable with what has come is well formed.
use Rattle.std.proofs.Common.{◌≡◌, ℕ, suc, ◌+◌, ◌<◌, ◌≤◌, inl, inr, Bool, true, false, not, List, [], ◌∷◌, ◌++◌, length, get_or, map, filter, refl, sym, ap, subst, ◌∙◌, arith}
use Rattle.std.specs.Prelude.{All, nat_le, IsTrue, IsSome, IfSome, Option, Some, None, if◌then◌else◌}
use Rattle.std.proofs.lemmas.Bool.{cases_Bool, true≢false, false≢true}
use Rattle.std.proofs.lemmas.List.{map-append, length-map}
use Rattle.std.proofs.lemmas.List.Elements.{All-map}
use Rattle.shunt_lists.specs.defs.Members.{In, AreDistinct}
use Rattle.shunt_lists.proofs.Members.{each_one, in_place, filter_yes, filter_no}
use Rattle.shunt_base.specs.declared.ids.PlatformId.{PlatformId}
use Rattle.shunt_base.specs.declared.ids.TrackId.{TrackId}
use Rattle.shunt_base.specs.declared.ids.Side.{Side}
use Rattle.shunt_stays.proofs.SortedEvents.{in_permuted}
use Rattle.shunt_instance.specs.declared.records.Station.{Station}
use Rattle.shunt_instance.specs.declared.records.Origin.{Origin}
use Rattle.shunt_instance.specs.declared.records.Origin.TheVariants as origin
use Rattle.shunt_instance.specs.declared.records.PlacedRun.{PlacedRun}
use Rattle.shunt_instance.specs.declared.records.Train.{Train}
use Rattle.shunt_instance.specs.declared.records.Timetable.{Timetable}
use Rattle.shunt_instance.specs.defs.Words.{train_at, names_of, is_standing, is_open_at, route_cost}
use Rattle.shunt_instance.specs.defs.Wellformed.{IsStation, IsPlacedRun, ArePlaced, IsTrain, AreTrains, StandingFirst, IsTimetable}
use Rattle.shunt_instance.specs.defs.Instance.{insert_by_minute, sort_by_minute, Night, night_of, IsOrderedNight}
use Rattle.shunt_instance.proofs.Orders.{night_is, sort_moves}
use Rattle.shunt_timetable.proofs.Lengths.{few_runs}
use Rattle.shunt_timetable.proofs.PlacedRuns.{Clear}
use Rattle.shunt_blocks.specs.declared.records.Block.{Block}
use Rattle.shunt_blocks.specs.declared.records.Park.{Park}
use Rattle.shunt_blocks.specs.defs.Shapes.{shape_of, IsInRange}
use Rattle.shunt_blocks.specs.defs.Ways.{way_from, may_come, train_way_in}
use Rattle.shunt_blocks.specs.defs.Blocks.{IsBlock, IsOption, IsParkable}
use Rattle.shunt_blocks.specs.defs.Lists.{IsFeasible, ShareNothing}
use Rattle.shunt_resume.specs.defs.Resumed.{train_runs, with_runs, resumed}
use Rattle.shunt_resume.proofs.Alike.{with_placed, counts_stay}
use Rattle.shunt_resume.proofs.Comers.{Comes, comes_of, comes_clear, FromBlock, from_block, one_name, runs_apart}
use Rattle.shunt_resume.proofs.Placing.{with_runs_all, with_runs_apart}
use Rattle.shunt_resume.proofs.Ways.{some_is, taken}

-- ---- trains of which more has come, in their order

module _ (placed : Train → List PlacedRun) where
  abbrev grown : Train → Train
  grown t = with_placed placed t

  insert_stays : (t : Train) (us : List Train) → insert_by_minute (grown t) (map grown us) ≡ map grown (insert_by_minute t us)
  insert_stays t [] = refl
  insert_stays t (u ∷ us) = by (nat_le t.minute u.minute) (insert_stays t us)
    where
      by : (b : Bool) → insert_by_minute (grown t) (map grown us) ≡ map grown (insert_by_minute t us)
          → (if b then grown t ∷ grown u ∷ map grown us else grown u ∷ insert_by_minute (grown t) (map grown us)) ≡ map grown (if b then t ∷ u ∷ us else u ∷ insert_by_minute t us)
      by true rest = refl
      by false rest = ap (λ (l : List Train). grown u ∷ l) rest

  pub sort_stays : (ts : List Train) → sort_by_minute (map grown ts) ≡ map grown (sort_by_minute ts)
  sort_stays [] = refl
  sort_stays (t ∷ ts) = ap (insert_by_minute (grown t)) (sort_stays ts) ∙ insert_stays t (sort_by_minute ts)

  pub names_stay : (ts : List Train) → names_of (map grown ts) ≡ names_of ts
  names_stay [] = refl
  names_stay (t ∷ ts) = ap (λ (l : List (List ℕ)). t.name ∷ l) (names_stay ts)

  filter_stays : (p : Train → Bool) → ((t : Train) → p (grown t) ≡ p t) → (ts : List Train) → filter p (map grown ts) ≡ map grown (filter p ts)
  filter_stays p same [] = refl
  filter_stays p same (t ∷ ts) = elim (cases_Bool (p t)) [
    | inl is ↦ filter_yes p (grown t) (map grown ts) (same t ∙ is) ∙ ap (λ (l : List Train). grown t ∷ l) (filter_stays p same ts) ∙ sym (ap (map grown) (filter_yes p t ts is))
    | inr other ↦ filter_no p (grown t) (map grown ts) (same t ∙ other) ∙ filter_stays p same ts ∙ sym (ap (map grown) (filter_no p t ts other))
  ]

  standing_stays : (ts : List Train) → StandingFirst ts → StandingFirst (map grown ts)
  standing_stays ts first =
      let moves = λ (t : Train). not (is_standing t) in
      ap (map grown) first
      ∙ map-append grown (filter is_standing ts) (filter moves ts)
      ∙ ap (λ (l : List Train). l ++ map grown (filter moves ts)) (sym (filter_stays is_standing (λ t. refl) ts))
      ∙ ap (λ (l : List Train). filter is_standing (map grown ts) ++ l) (sym (filter_stays moves (λ t. refl) ts))

  train_stays : (s : Station) (t : Train) → IsTrain s t → ArePlaced s (grown t) → IsTrain s (grown t)
  train_stays s t h are = record {
    name = h.name;
    minute = h.minute;
    origin = h.origin;
    some = h.some;
    few = h.few;
    kinds = h.kinds;
    placed = are;
  }

  trains_stay : (s : Station) (ts : List Train) → AreTrains s ts → ((t : Train) → In t ts → ArePlaced s (grown t)) → AreTrains s (map grown ts)
  trains_stay s ts h are = record {
    few = subst (λ (n : ℕ). n ≤ 100) (sym (length-map ts grown)) h.few;
    units = subst (λ (n : ℕ). n ≤ 160) (sym (counts_stay placed ts)) h.units;
    each = All-map (IsTrain s) grown ts (λ k d lt. train_stays s (get_or ts k d) (h.each k d lt) (are (get_or ts k d) (in_place ts k d lt)));
    names = subst AreDistinct (sym (names_stay ts)) h.names;
  }

  pub timetable_stays : (s : Station) (t : Timetable) → IsTimetable s t → ((u : Train) → In u t.arrive → ArePlaced s (grown u))
      → IsTimetable s (record t { arrive = map grown t.arrive })
  timetable_stays s t h are = record {
    arrive = trains_stay s t.arrive h.arrive are;
    depart = h.depart;
    first = standing_stays t.arrive h.first;
    at_start = All-map (λ r. IsTrue (is_standing r) → r.minute ≡ 0) grown t.arrive h.at_start;
    from_platform = h.from_platform;
    to_come = h.to_come;
  }

-- ---- the runs of one train

-- routes lead to open sides
abbrev pub Open : Type 0
Open = (s : Station) (p : PlatformId) (t : TrackId) (side : Side) → IsStation s → IfSome (route_cost s p t side) (λ c. IsTrue (is_open_at s t side))

-- blocks of feasible plans share nothing
abbrev pub Shares : Type 0
Shares = (night : Night) (blocks : List Block) → IsFeasible night blocks → ShareNothing night blocks

if_there : (o : Option ℕ) (P : Type 0) → IsSome o → IfSome o (λ c. P) → P
if_there None P some h = absurd (false≢true some)
if_there (Some c) P some h = h

open_by : Open → (s : Station) (t : Train) (track : TrackId) (side : Side) → IsStation s → is_standing t ≡ false → IsSome (way_from s t.origin track side)
    → IsTrue (is_open_at s track side)
open_by opens s t track side f off some = at t.origin refl
  where
    at : (o : Origin) → t.origin ≡ o → IsTrue (is_open_at s track side)
    at (origin.Platform p) e = if_there (route_cost s p track side) (IsTrue (is_open_at s track side)) (subst (λ (o : Origin). IsSome (way_from s o track side)) e some)
        (opens s p track side f)
    at (origin.Track own) e = absurd (true≢false (sym (ap (λ (x : Origin). is_standing (record t { origin = x })) e) ∙ off))

option_at : (night : Night) (b : Block) (k : Park) → IsOption night (shape_of b) b.park → b.park ≡ Some k → IsParkable night (shape_of b) k
option_at night b k h is = subst (IsOption night (shape_of b)) is h

module _ (opens : Open) (shares : Shares) (s : Station) (t : Timetable) (m : ℕ) (blocks : List Block) (f : IsStation s) (g : IsTimetable s t)
    (plan : IsFeasible (night_of s t) blocks) where
  abbrev night : Night
  night = night_of s t

  h : IsOrderedNight night
  h = night_is s t f g

  pub each : All (IsInRange night) blocks
  each = λ k d lt. (plan.each k d lt).in_range

  -- a train of the timetable at its place
  train_there : (u : Train) → In u t.arrive → (k : ℕ) × (k < length night.arrive) × (train_at night.arrive k ≡ u)
  train_there u i = at night.arrive (in_permuted t.arrive night.arrive u (sort_moves t.arrive) i)
    where
      at : (ts : List Train) → In u ts → (k : ℕ) × (k < length ts) × (train_at ts k ≡ u)
      at [] j = absurd j
      at (x ∷ ts) (inl e) = (0, omega arith, sym e)
      at (x ∷ ts) (inr j) = let r = at ts j in (suc r.0, let lt = r.1 in omega arith, r.2)

  -- a block of a train with its name is the train's
  pub own_train : (u : Train) (b : Block) → In u t.arrive → In b blocks → (train_at night.arrive b.arr.0).name ≡ u.name → train_at night.arrive b.arr.0 ≡ u
  own_train u b i j same =
      let at = train_there u i in
      let range = each_one (IsInRange night) blocks b each j in
      ap (train_at night.arrive) (one_name night b.arr.0 at.0 h range.within.runs.arr at.1 (same ∙ sym (ap (λ (x : Train). x.name) at.2))) ∙ at.2

  run_formed : (b : Block) (r : PlacedRun) → In b blocks → Comes night b r → IsPlacedRun s (train_at night.arrive b.arr.0) r
  run_formed b r j comes =
      let range = each_one (IsInRange night) blocks b each j in
      let of = comes_of night b r range.within.runs.n comes in
      let p = range.within.runs.p in let le = range.within.runs.units in let a = of.from in let e = of.to in
      record {
        first = omega (arith, p, a);
        some = of.some;
        within = omega (arith, le, e);
        moved = moved comes;
        track = track comes;
        open_at = open_at comes;
      }
    where
      u : Train
      u = train_at night.arrive b.arr.0

      block : IsBlock night b
      block = each_one (IsBlock night) blocks b plan.each j

      moved : Comes night b r → IfSome r.came_by (λ e. is_standing u ≡ false)
      moved (inl c) = subst (λ (x : PlacedRun). IfSome x.came_by (λ e. is_standing u ≡ false)) (sym c.same) c.moves
      moved (inr c) = subst (λ (x : PlacedRun). IfSome x.came_by (λ e. is_standing u ≡ false)) (sym c.same) tt

      track : Comes night b r → IfSome r.came_by (λ e. e.track.0 < length s.tracks)
      track (inl c) = subst (λ (x : PlacedRun). IfSome x.came_by (λ e. e.track.0 < length s.tracks)) (sym c.same) (option_at night b c.option block.option c.park).track
      track (inr c) = subst (λ (x : PlacedRun). IfSome x.came_by (λ e. e.track.0 < length s.tracks)) (sym c.same) tt

      open_at : Comes night b r → IfSome r.came_by (λ e. IsTrue (is_open_at s e.track e.side))
      open_at (inl c) =
          let k = c.option in
          let way = (option_at night b k block.option c.park).way_in in
          let may = some_is (train_way_in night b.arr k.track k.side_in) (may_come u.placed (shape_of b) k.track k.side_in) way in
          subst (λ (x : PlacedRun). IfSome x.came_by (λ e. IsTrue (is_open_at s e.track e.side))) (sym c.same)
          (open_by opens s u k.track k.side_in f c.moves (subst IsSome (taken (train_way_in night b.arr k.track k.side_in)
          (may_come u.placed (shape_of b) k.track k.side_in) may) way))
      open_at (inr c) = subst (λ (x : PlacedRun). IfSome x.came_by (λ e. IsTrue (is_open_at s e.track e.side))) (sym c.same) tt

  abbrev pub placed : Train → List PlacedRun
  placed u = with_runs (train_runs night m blocks u.name) u.placed

  placed_formed : (u : Train) → In u t.arrive → ArePlaced s u → ArePlaced s (with_placed placed u)
  placed_formed u i old = record {
    each = with_runs_all (IsPlacedRun s (with_placed placed u)) more u.placed
        (λ k d lt. again (get_or more k d) (new (get_or more k d) (in_place more k d lt)))
        (λ k d lt. again (get_or u.placed k d) (old.each k d lt));
    apart = with_runs_apart more u.placed
        (λ k d lt. (new (get_or more k d) (in_place more k d lt)).some)
        (λ k d lt. (old.each k d lt).some)
        (runs_apart night m u.name blocks h (shares night blocks plan) each blocks (λ b j. j) plan.ids)
        (λ k d lt. clear (get_or more k d) (in_place more k d lt))
        old.apart;
  }
    where
      more : List PlacedRun
      more = train_runs night m blocks u.name

      from : (r : PlacedRun) → In r more → FromBlock night m blocks u.name r
      from r j = from_block night m blocks u.name r j

      own : (r : PlacedRun) (j : In r more) → train_at night.arrive (from r j).block.arr.0 ≡ u
      own r j = own_train u (from r j).block i (from r j).there (from r j).named

      new : (r : PlacedRun) → In r more → IsPlacedRun s u r
      new r j = subst (λ (x : Train). IsPlacedRun s x r) (own r j) (run_formed (from r j).block r (from r j).there (from r j).comes)

      again : (r : PlacedRun) → IsPlacedRun s u r → IsPlacedRun s (with_placed placed u) r
      again r is = record { first = is.first; some = is.some; within = is.within; moved = is.moved; track = is.track; open_at = is.open_at }

      clear : (r : PlacedRun) → In r more → All (Clear r) u.placed
      clear r j = λ k d lt. comes_clear night (from r j).block r (get_or u.placed k d) (from r j).comes
          (subst (λ (x : Train). In (get_or u.placed k d) x.placed) (sym (own r j)) (in_place u.placed k d lt))

  pub timetable_goes_on : IsTimetable s (resumed night m blocks t)
  timetable_goes_on = timetable_stays placed s t g (λ u i. placed_formed u i (each_one (IsTrain s) t.arrive u g.arrive.each i).placed)

-- ---- how many runs a train has

pub few_placed : (s : Station) (t : Timetable) → IsTimetable s t → All (λ r. length r.placed ≤ 8) t.arrive
few_placed s t g = λ k d lt. few (get_or t.arrive k d) (g.arrive.each k d lt)
  where
    few : (u : Train) → IsTrain s u → length u.placed ≤ 8
    few u is =
        let p = is.placed in
        let n = few_runs u.placed 1 (length u.units + 1) (omega arith) (λ k d lt. (p.each k d lt).some) (λ k d lt. (p.each k d lt).within)
        (λ k d lt. (p.each k d lt).first) p.apart in
        let le = is.few in
        omega (arith, n, le)
