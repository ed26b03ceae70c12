-- The blocks that have gone, and what has come.
use Rattle.std.proofs.Common.{◌≡◌, ◌≢◌, ℕ, ◌<◌, ◌≤◌, ⊎_elim, Bool, List, [], ◌∷◌, length, get_or, map, filter, refl, sym, ap, subst, ◌∙◌, arith}
use Rattle.std.specs.Prelude.{AllPairs, IsTrue, Some, count_by, cond}
use Rattle.std.proofs.lemmas.List.{get_or-map, length-map}
use Rattle.std.proofs.lemmas.List.Elements.{All-filter}
use Rattle.std.proofs.lemmas.List.Kept.{AllPairs-filter}
use Rattle.std.proofs.lemmas.List.Sums.{length-filter, count_by-le-length}
use Rattle.std.proofs.lemmas.List.Sorted.{sum_by-IsPermutation}
use Rattle.shunt_lists.specs.defs.Members.{In, AreDistinct}
use Rattle.shunt_lists.proofs.Members.{each_one, in_place, filter_from}
use Rattle.shunt_lists.proofs.Sums.{filter_least}
use Rattle.shunt_instance.specs.declared.records.Station.{Station}
use Rattle.shunt_instance.specs.declared.records.Timetable.{Timetable}
use Rattle.shunt_instance.specs.defs.Words.{train_at}
use Rattle.shunt_instance.specs.defs.Wellformed.{IsStation, IsTimetable}
use Rattle.shunt_instance.specs.defs.Instance.{Night, IsInstance, night_of}
use Rattle.shunt_instance.proofs.Orders.{night_is, closed}
use Rattle.shunt_blocks.specs.declared.records.Block.{Block}
use Rattle.shunt_blocks.specs.declared.records.Park.{Park}
use Rattle.shunt_blocks.specs.defs.Shapes.{shape_of, IsInRange}
use Rattle.shunt_blocks.specs.defs.Ways.{has_placed, may_come, meets_run, train_way_in}
use Rattle.shunt_blocks.specs.defs.Blocks.{IsBlock, IsOption}
use Rattle.shunt_blocks.specs.defs.Lists.{has_unit, has_position, ShareNothing, AreInRange, CanStand, IsFeasible, RunsThrough, total_cost}
use Rattle.shunt_blocks.specs.defs.Pins.{AreUsable, Keeps, without_id}
use Rattle.shunt_audit.specs.defs.Listed.{by_id}
use Rattle.shunt_audit.proofs.ById.{moves, there, id_of, range_permuted}
use Rattle.shunt_resume.specs.defs.Resumed.{has_gone_by, gone, resumed, next_night, IsPlacedAsItIs}
use Rattle.shunt_resume.proofs.Nights.{depart, other, next_is, goes_on, costs_on, was_one, cost_was}
use Rattle.shunt_resume.proofs.Alike.{night_with}
use Rattle.shunt_resume.proofs.Timetables.{Open, Shares, timetable_goes_on}
use Rattle.shunt_resume.proofs.Ways.{any_found, meets_from, run_from, may_cases, some_is}

-- ---- a part of a list, in another order

gone_in : (night : Night) (m : ℕ) (blocks : List Block) (b : Block) → In b (gone night m blocks) → In b blocks
unfolding gone
gone_in night m blocks b i = (filter_from (has_gone_by night m) blocks b ((there (filter (has_gone_by night m) blocks) b).0 i)).0

pub keeps_gone : (night : Night) (m : ℕ) (blocks : List Block) → Keeps blocks (gone night m blocks)
keeps_gone night m blocks = λ k d lt.
    let b = get_or (gone night m blocks) k d in
    record { block = b; there = gone_in night m blocks b (in_place (gone night m blocks) k d lt); same = refl }

-- no more of them pass a test than of the whole list
gone_fewer : (night : Night) (m : ℕ) (blocks : List Block) (test : Block → Bool) → count_by test (gone night m blocks) ≤ count_by test blocks
unfolding gone
gone_fewer night m blocks test =
    let part = filter (has_gone_by night m) blocks in
    let e = sum_by-IsPermutation (λ (b : Block). cond (test b) 1 0) part (by_id part) (moves part) in
    let le = filter_least (λ (b : Block). cond (test b) 1 0) (has_gone_by night m) blocks in
    omega (arith, e, le)

gone_apart : (night other : Night) (m : ℕ) (blocks : List Block) → ShareNothing other blocks → ShareNothing other (gone night m blocks)
gone_apart night other m blocks apart = record {
  units = λ u. let le = gone_fewer night m blocks (λ b. has_unit other (shape_of b) u) in let few = apart.units u in omega (arith, le, few);
  positions = λ v. let le = gone_fewer night m blocks (λ b. has_position other (shape_of b) v) in let few = apart.positions v in omega (arith, le, few);
}

abbrev Differ : Block → Block → Type 0
Differ b c = b.id ≢ c.id

pairs_from : (blocks : List Block) → AreDistinct (map id_of blocks) → AllPairs Differ blocks
pairs_from blocks h = λ i j d lt within same. h i j 0 lt (omega (arith, within, length-map blocks id_of))
    (get_or-map id_of blocks i d 0 (omega (arith, lt, within)) ∙ same ∙ sym (get_or-map id_of blocks j d 0 within))

pairs_to : (blocks : List Block) → AllPairs Differ blocks → AreDistinct (map id_of blocks)
pairs_to [] h = λ i j n lt within. absurd (omega (arith, within))
pairs_to (b ∷ blocks) h = λ i j n lt within same.
    let inside : j < length (b ∷ blocks) = omega (arith, within, length-map (b ∷ blocks) id_of) in
    h i j b lt inside (sym (get_or-map id_of (b ∷ blocks) i b n (omega (arith, lt, inside))) ∙ same ∙ get_or-map id_of (b ∷ blocks) j b n inside)

pub ids_part : (p : Block → Bool) (blocks : List Block) → AreDistinct (map id_of blocks) → AreDistinct (map id_of (filter p blocks))
ids_part p blocks ids = pairs_to (filter p blocks) (AllPairs-filter Differ p blocks (pairs_from blocks ids))

length_part : (p : Block → Bool) (blocks : List Block) → length (filter p blocks) ≤ length blocks
length_part p blocks = omega (arith, length-filter p blocks, count_by-le-length p blocks)

pub gone_range : (night other : Night) (m : ℕ) (blocks : List Block) → AreInRange other blocks → AreInRange other (gone night m blocks)
unfolding gone
gone_range night other m blocks are =
    let part = filter (has_gone_by night m) blocks in
    range_permuted other part (by_id part) (moves part) (record {
      few = omega (arith, length_part (has_gone_by night m) blocks, are.few);
      each = All-filter (has_gone_by night m) (IsInRange other) blocks are.each;
      ids = ids_part (has_gone_by night m) blocks are.ids;
    })

pub sorted_gone : (night : Night) (m : ℕ) (blocks part sorted : List Block) → AreInRange night blocks → part ≡ filter (has_gone_by night m) blocks → sorted ≡ by_id part
    → AreInRange night sorted
unfolding gone
sorted_gone night m blocks part sorted are e is = subst (AreInRange night) (sym (is ∙ ap by_id e)) (gone_range night night m blocks are)

-- ---- usable pins

-- of blocks whose run goes through, that of a part does
abbrev pub Part : Type 0
Part = (night : Night) (blocks others : List Block) → IsInstance night → CanStand night blocks → CanStand night others → ShareNothing night others
    → ((c : Block) → In c others → (b : Block) × In b blocks × (without_id b ≡ without_id c)) → RunsThrough night blocks → RunsThrough night others

abbrev pub Ranges : Type 0
Ranges = (night : Night) (blocks : List Block) → IsInstance night → IsFeasible night blocks → AreInRange night blocks

abbrev pub Stands : Type 0
Stands = (night : Night) (blocks : List Block) → AreInRange night blocks → CanStand night blocks

pub gone_usable : Part → Ranges → Stands → Shares → (night other : Night) (m : ℕ) (blocks : List Block) → IsInstance other → IsFeasible other blocks
    → AreUsable other (gone night m blocks)
gone_usable part ranges stands shares night other m blocks of_night plan =
    let range = ranges other blocks of_night plan in
    let pins = gone night m blocks in
    let in_range = gone_range night other m blocks range in
    let apart = gone_apart night other m blocks (shares other blocks plan) in
    record {
      in_range = in_range;
      each = λ k d lt. each_one (IsBlock other) blocks (get_or pins k d) plan.each (gone_in night m blocks (get_or pins k d) (in_place pins k d lt));
      apart = apart;
      through = part other blocks pins of_night (stands other blocks range) (stands other pins in_range) apart (λ c i. (c, gone_in night m blocks c i, refl)) plan.through;
    }

-- ---- what has come stays

pub come_stays : (night : Night) (blocks : List Block) (b : Block) (k : Park) → IsFeasible night blocks → In b blocks → b.park ≡ Some k → IsTrue (has_placed night (shape_of b))
    → IsPlacedAsItIs night b k
come_stays night blocks b k plan i is placed =
    let can = subst (IsOption night (shape_of b)) is (each_one (IsBlock night) blocks b plan.each i).option in
    let runs = (train_at night.arrive b.arr.0).placed in
    let met = any_found (meets_run (shape_of b)) runs placed in
    let may = some_is (train_way_in night b.arr k.track k.side_in) (may_come runs (shape_of b) k.track k.side_in) can.way_in in
    ⊎_elim
    (λ never. absurd (never met.0 met.1 (meets_from (shape_of b) met.0 met.2)))
    (λ own. let run = run_from (shape_of b) k.track k.side_in own.run own.is in record { run = own.run; there = own.there; first = run.first; count = run.count; came_by = run.came_by })
    (may_cases runs (shape_of b) k.track k.side_in may)

-- ---- the night from the minute on

module _ (s : Station) (t : Timetable) (m : ℕ) (blocks : List Block) (f : IsStation s) (g : IsTimetable s t) (plan : IsFeasible (night_of s t) blocks) (opens : Open) (shares : Shares) where
  pub formed_on : IsTimetable s (resumed (night_of s t) m blocks t)
  formed_on = timetable_goes_on opens shares s t m blocks f g plan

  pub feasible_on : IsFeasible (next_night s t m blocks) blocks
  feasible_on = subst (λ (n : Night). IsFeasible n blocks) (sym (next_is shares s t m blocks f g plan)) (goes_on shares s t m blocks f g plan)

  pub cost_on : total_cost (next_night s t m blocks) blocks ≡ total_cost (night_of s t) blocks
  cost_on = ap (λ (n : Night). total_cost n blocks) (next_is shares s t m blocks f g plan) ∙ costs_on shares s t m blocks f g plan

  pub usable_on : Part → Ranges → Stands → AreUsable (next_night s t m blocks) (gone (night_of s t) m blocks)
  usable_on part ranges stands = gone_usable part ranges stands shares (night_of s t) (next_night s t m blocks) m blocks
      (closed (next_night s t m blocks) (night_is s (resumed (night_of s t) m blocks t) f formed_on)) feasible_on

  here : (others : List Block) → IsFeasible (next_night s t m blocks) others
      → IsFeasible (night_with s (depart shares s t m blocks f g plan) (other shares s t m blocks f g plan)) others
  here others is = subst (λ (n : Night). IsFeasible n others) (next_is shares s t m blocks f g plan) is

  pub was_feasible : (others : List Block) → IsFeasible (next_night s t m blocks) others → IsFeasible (night_of s t) others
  was_feasible others is = was_one shares s t m blocks f g plan others (here others is)

  pub cost_before : (others : List Block) → IsFeasible (next_night s t m blocks) others → total_cost (next_night s t m blocks) others ≡ total_cost (night_of s t) others
  cost_before others is = ap (λ (n : Night). total_cost n others) (next_is shares s t m blocks f g plan) ∙ sym (cost_was shares s t m blocks f g plan others (here others is))
