-- The night from a minute on, beside the night itself: ways in of blocks, and blocks.
use Rattle.std.proofs.Common.{◌≡◌, ℕ, ◌+◌, ◌<◌, ⊎_elim, inl, inr, true, List, length, get_or, map, refl, sym, ap, subst, ◌∙◌, arith}
use Rattle.std.specs.Prelude.{All, IsSome, Option, Some, None, unwrap_or}
use Rattle.std.specs.List.{list_any}
use Rattle.std.proofs.lemmas.Bool.{cases_Bool, true≢false}
use Rattle.shunt_lists.specs.defs.Members.{In}
use Rattle.shunt_lists.proofs.Members.{each_one, in_place}
use Rattle.shunt_lists.proofs.Sums.{sum_alike}
use Rattle.shunt_instance.specs.declared.records.Station.{Station}
use Rattle.shunt_instance.specs.declared.records.Origin.{Origin}
use Rattle.shunt_instance.specs.declared.records.PlacedRun.{PlacedRun}
use Rattle.shunt_instance.specs.declared.records.Train.{Train}
use Rattle.shunt_instance.specs.declared.records.Timetable.{Timetable}
use Rattle.shunt_instance.specs.defs.Words.{train_at}
use Rattle.shunt_instance.specs.defs.Wellformed.{IsStation, IsTimetable}
use Rattle.shunt_instance.specs.defs.Instance.{sort_by_minute, Night, night_of, IsOrderedNight}
use Rattle.shunt_instance.proofs.Orders.{night_is}
use Rattle.shunt_blocks.specs.declared.records.Block.{Block}
use Rattle.shunt_blocks.specs.declared.records.Park.{Park}
use Rattle.shunt_blocks.specs.declared.records.Shape.{Shape}
use Rattle.shunt_blocks.specs.defs.Shapes.{shape_of, IsInRange}
use Rattle.shunt_blocks.specs.defs.Ways.{way_from, may_come, is_run_there, meets_run, train_way_in, park_way_in, park_way_out}
use Rattle.shunt_blocks.specs.defs.Blocks.{IsBlock, IsOption}
use Rattle.shunt_blocks.specs.defs.Costs.{shape_cost, option_cost, block_cost}
use Rattle.shunt_blocks.specs.defs.Lists.{IsFeasible, total_cost}
use Rattle.shunt_resume.specs.defs.Resumed.{run_of, train_runs, with_runs, next_night}
use Rattle.shunt_resume.proofs.Alike.{Alike, turned, with_placed, come_alike, come_at, night_with, shape_stays, range_stays, permits_stay, covers_stay, through_stays}
use Rattle.shunt_resume.proofs.Comers.{Comes, comes_of, comes_clear, from_block, one_name, one_block, one_train}
use Rattle.shunt_resume.proofs.Placing.{of_with_runs, old_with_runs, new_with_runs}
use Rattle.shunt_resume.proofs.Timetables.{Shares, sort_stays}
use Rattle.shunt_resume.proofs.Ways.{any_there, any_found, Meets, meets_to, meets_from, IsRun, run_from, run_itself, run_may_come, none_may_come, may_cases, some_is, taken}

-- ---- two nights with the same trains but for what has come of them

module _ (s : Station) (depart arrive other : List Train) (h : Alike arrive other) where
  abbrev old : Night
  old = night_with s depart arrive

  abbrev new : Night
  new = night_with s depart other

  abbrev pub MayOld : Shape → Park → Type 0
  MayOld x k = may_come (train_at arrive x.arr.0).placed x k.track k.side_in ≡ true

  abbrev pub MayNew : Shape → Park → Type 0
  MayNew x k = may_come (train_at other x.arr.0).placed x k.track k.side_in ≡ true

  -- where a shape may come in both, its way in is the same
  pub way_same : (x : Shape) (k : Park) → MayOld x k → MayNew x k → park_way_in new x k ≡ park_way_in old x k
  way_same x k a b =
      taken (train_way_in new x.arr k.track k.side_in) (may_come (train_at other x.arr.0).placed x k.track k.side_in) b
      ∙ ap (λ (o : Origin). way_from s o k.track k.side_in) (h.origins x.arr.0)
      ∙ sym (taken (train_way_in old x.arr k.track k.side_in) (may_come (train_at arrive x.arr.0).placed x k.track k.side_in) a)

  pub option_stays : (x : Shape) (o : Option Park) → ((k : Park) → o ≡ Some k → MayOld x k → MayNew x k) → IsOption old x o → IsOption new x o
  option_stays x None may is = tt
  option_stays x (Some k) may is =
      let a = some_is (train_way_in old x.arr k.track k.side_in) (may_come (train_at arrive x.arr.0).placed x k.track k.side_in) is.way_in in
      record {
        track = is.track;
        permitted = permits_stay s depart arrive other h x k.track ∙ is.permitted;
        way_in = subst IsSome (sym (way_same x k a (may k refl a))) is.way_in;
        way_out = is.way_out;
      }

  pub block_stays : (b : Block) → ((k : Park) → b.park ≡ Some k → MayOld (shape_of b) k → MayNew (shape_of b) k) → IsBlock old b → IsBlock new b
  block_stays b may is = record {
    in_range = range_stays s depart arrive other h b is.in_range;
    shape = shape_stays s depart arrive other h (shape_of b) is.shape;
    option = option_stays (shape_of b) b.park may is.option;
  }

  option_cost_stays : (x : Shape) (o : Option Park) → ((k : Park) → o ≡ Some k → MayOld x k → MayNew x k) → IsOption old x o → option_cost new x o ≡ option_cost old x o
  option_cost_stays x None may is = refl
  option_cost_stays x (Some k) may is =
      let a = some_is (train_way_in old x.arr k.track k.side_in) (may_come (train_at arrive x.arr.0).placed x k.track k.side_in) is.way_in in
      ap (λ (w : Option ℕ). unwrap_or w 0 + unwrap_or (park_way_out old x.dep k) 0) (way_same x k a (may k refl a))

  pub cost_stays : (b : Block) → ((k : Park) → b.park ≡ Some k → MayOld (shape_of b) k → MayNew (shape_of b) k) → IsBlock old b → block_cost new b ≡ block_cost old b
  cost_stays b may is = ap (λ (n : ℕ). shape_cost old (shape_of b) + n) (option_cost_stays (shape_of b) b.park may is.option)

  -- so a feasible plan of the one is one of the other, and costs the same
  pub plan_stays : (blocks : List Block) → ((b : Block) → In b blocks → (k : Park) → b.park ≡ Some k → MayOld (shape_of b) k → MayNew (shape_of b) k) → IsFeasible old blocks
      → IsFeasible new blocks
  plan_stays blocks may is = record {
    ids = is.ids;
    each = λ k d lt. block_stays (get_or blocks k d) (may (get_or blocks k d) (in_place blocks k d lt)) (is.each k d lt);
    covers = covers_stay s depart arrive other h blocks is.covers;
    through = through_stays s depart arrive other h blocks is.through;
  }

  pub total_stays : (blocks : List Block) → ((b : Block) → In b blocks → (k : Park) → b.park ≡ Some k → MayOld (shape_of b) k → MayNew (shape_of b) k) → IsFeasible old blocks
      → total_cost new blocks ≡ total_cost old blocks
  total_stays blocks may is = sum_alike (block_cost new) (block_cost old) blocks (λ b i. cost_stays b (may b i) (each_one (IsBlock old) blocks b is.each i))

-- ---- the night, and that from the minute on

module _ (shares : Shares) (s : Station) (t : Timetable) (m : ℕ) (blocks : List Block) (f : IsStation s) (g : IsTimetable s t) (plan : IsFeasible (night_of s t) blocks) where
  abbrev pub arrive : List Train
  arrive = sort_by_minute t.arrive

  abbrev pub depart : List Train
  depart = sort_by_minute t.depart

  abbrev night : Night
  night = night_of s t

  abbrev pub come : Train → List PlacedRun
  come u = with_runs (train_runs night m blocks u.name) u.placed

  abbrev pub other : List Train
  other = map (with_placed come) arrive

  pub alike : Alike arrive other
  alike = come_alike come arrive

  pub next_is : next_night s t m blocks ≡ night_with s depart other
  next_is = ap (λ (ts : List Train). night_with s depart ts) (sort_stays come t.arrive)

  h : IsOrderedNight night
  h = night_is s t f g

  each : All (IsInRange night) blocks
  each = λ k d lt. (plan.each k d lt).in_range

  abbrev runs : ℕ → List PlacedRun
  runs a = (train_at arrive a).placed

  abbrev more : ℕ → List PlacedRun
  more a = train_runs night m blocks (train_at arrive a).name

  come_is : (a : ℕ) → a < length arrive → (train_at other a).placed ≡ with_runs (more a) (runs a)
  come_is a lt = ap (λ (u : Train). u.placed) (come_at come arrive a lt)

  -- a block of the plan may come where it could before
  pub may_new : (b : Block) (k : Park) → In b blocks → b.park ≡ Some k → may_come (runs b.arr.0) (shape_of b) k.track k.side_in ≡ true
      → may_come (train_at other b.arr.0).placed (shape_of b) k.track k.side_in ≡ true
  may_new b k i is may =
      subst (λ (rs : List PlacedRun). may_come rs (shape_of b) k.track k.side_in ≡ true) (sym (come_is b.arr.0 range.within.runs.arr))
      (⊎_elim
      (λ never. elim (cases_Bool (list_any (meets_run (shape_of b)) (more b.arr.0))) [
        | inl some ↦ let at = any_found (meets_run (shape_of b)) (more b.arr.0) some in itself at.0 at.1 (meets_from (shape_of b) at.0 at.2)
        | inr none ↦ none_may_come (with_runs (more b.arr.0) (runs b.arr.0)) (shape_of b) k.track k.side_in (λ r j met. ⊎_elim
            (λ q. true≢false (sym (met_there (more b.arr.0) r q met) ∙ none)) (λ q. never r q met) (of_with_runs (more b.arr.0) (runs b.arr.0) r j))
      ])
      (λ own. run_may_come (with_runs (more b.arr.0) (runs b.arr.0)) (shape_of b) k.track k.side_in own.run (old_with_runs (more b.arr.0) (runs b.arr.0) own.run own.there) own.is)
      (may_cases (runs b.arr.0) (shape_of b) k.track k.side_in may))
    where
      range : IsInRange night b
      range = each_one (IsInRange night) blocks b each i

      met_there : (rs : List PlacedRun) (r : PlacedRun) → In r rs → Meets (shape_of b) r → list_any (meets_run (shape_of b)) rs ≡ true
      met_there rs r q met = any_there (meets_run (shape_of b)) rs r q (meets_to (shape_of b) r met)

      -- the only new run that meets the block is its own
      of_itself : (r : PlacedRun) → In r (more b.arr.0) → Comes night b r → may_come (with_runs (more b.arr.0) (runs b.arr.0)) (shape_of b) k.track k.side_in ≡ true
      of_itself r q (inl c) =
          let one : c.option ≡ k = let e : Some c.option ≡ Some k = sym c.park ∙ is in cc in
          let own : r ≡ run_of b k = c.same ∙ ap (run_of b) one in
          run_may_come (with_runs (more b.arr.0) (runs b.arr.0)) (shape_of b) k.track k.side_in r (new_with_runs (more b.arr.0) (runs b.arr.0) r q)
          (run_itself (shape_of b) k.track k.side_in r (subst (IsRun (shape_of b) k.track k.side_in) (sym own) (record { first = refl; count = refl; came_by = refl })))
      of_itself r q (inr c) = absurd (let e : None ≡ Some k = sym c.park ∙ is in cc)

      itself : (r : PlacedRun) → In r (more b.arr.0) → Meets (shape_of b) r → may_come (with_runs (more b.arr.0) (runs b.arr.0)) (shape_of b) k.track k.side_in ≡ true
      itself r q met =
          let from = from_block night m blocks (train_at arrive b.arr.0).name r q in
          let of = comes_of night from.block r (each_one (IsInRange night) blocks from.block each from.there).within.runs.n from.comes in
          let own : PlacedRun = record { first = b.p; count = b.n; came_by = None } in
          ⊎_elim
          (λ clear. absurd (⊎_elim (λ le. let lt = met.behind in omega (arith, le, lt)) (λ le. let lt = met.before in omega (arith, le, lt)) clear))
          (λ same. of_itself r q (subst (λ (c : Block). Comes night c r) (sym same) from.comes))
          (one_block night m (train_at arrive b.arr.0).name blocks h (shares night blocks plan) each b from.block own r i from.there
          (one_train night m (train_at arrive b.arr.0).name blocks h (shares night blocks plan) each b from.block i from.there (sym from.named))
          (record { some = range.within.runs.n; from = omega arith; to = omega arith }) of)

  -- what may come from the minute on could before
  pub may_old : (x : Shape) (k : Park) → x.arr.0 < length arrive → may_come (train_at other x.arr.0).placed x k.track k.side_in ≡ true
      → may_come (runs x.arr.0) x k.track k.side_in ≡ true
  may_old x k lt may = ⊎_elim
      (λ never. none_may_come (runs x.arr.0) x k.track k.side_in (λ r i met. never r (old_with_runs (more x.arr.0) (runs x.arr.0) r i) met))
      (λ own. ⊎_elim (λ new. of_new own.run new own.is) (λ old. run_may_come (runs x.arr.0) x k.track k.side_in own.run old own.is)
      (of_with_runs (more x.arr.0) (runs x.arr.0) own.run own.there))
      (may_cases (with_runs (more x.arr.0) (runs x.arr.0)) x k.track k.side_in
      (subst (λ (rs : List PlacedRun). may_come rs x k.track k.side_in ≡ true) (come_is x.arr.0 lt) may))
    where
      of_new : (r : PlacedRun) → In r (more x.arr.0) → is_run_there x k.track k.side_in r ≡ true → may_come (runs x.arr.0) x k.track k.side_in ≡ true
      of_new r q is =
          let from = from_block night m blocks (train_at arrive x.arr.0).name r q in
          let own = run_from x k.track k.side_in r is in
          let range = each_one (IsInRange night) blocks from.block each from.there in
          let same : from.block.arr.0 ≡ x.arr.0 = one_name night from.block.arr.0 x.arr.0 h range.within.runs.arr lt from.named in
          none_may_come (runs x.arr.0) x k.track k.side_in (λ z i met.
          let clear = comes_clear night from.block r z from.comes (subst (λ (a : ℕ). In z (train_at arrive a).placed) (sym same) i) in
          let a = own.first in let c = own.count in let before = met.before in let behind = met.behind in
          ⊎_elim (λ le. omega (arith, le, a, c, behind)) (λ le. omega (arith, le, a, before)) clear)

  -- the plan goes on
  pub goes_on : IsFeasible (night_with s depart other) blocks
  goes_on = plan_stays s depart arrive other alike blocks (λ b i k is may. may_new b k i is may) plan

  pub costs_on : total_cost (night_with s depart other) blocks ≡ total_cost night blocks
  costs_on = total_stays s depart arrive other alike blocks (λ b i k is may. may_new b k i is may) plan

  -- a plan from the minute on is one of the night
  low : (others : List Block) → IsFeasible (night_with s depart other) others → (b : Block) → In b others → b.arr.0 < length arrive
  low others is b i = subst (λ (n : ℕ). b.arr.0 < n) alike.many (each_one (IsBlock (night_with s depart other)) others b is.each i).in_range.within.runs.arr

  pub was_one : (others : List Block) → IsFeasible (night_with s depart other) others → IsFeasible night others
  was_one others is = plan_stays s depart other arrive (turned arrive other alike) others (λ b i k e may. may_old (shape_of b) k (low others is b i) may) is

  pub cost_was : (others : List Block) → IsFeasible (night_with s depart other) others → total_cost night others ≡ total_cost (night_with s depart other) others
  cost_was others is = total_stays s depart other arrive (turned arrive other alike) others (λ b i k e may. may_old (shape_of b) k (low others is b i) may) is
