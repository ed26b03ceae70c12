-- What a search is behind its root.
use Rattle.std.specs.Prelude.{◌≤ℤ◌, Option, Some, None, IfSome, IsSome}
use Rattle.std.proofs.Common.{◌≡◌, ◌≢◌, ⊎_elim, ℕ, ◌+◌, ◌<◌, ◌≤◌, List, [], ◌∷◌, ◌++◌, length, ℤ, pos, refl, sym, subst, ap, ◌∙◌, arith, IsPermutation}
use Rattle.std.proofs.lemmas.Int.{ints, by_lt_z}
use Rattle.std.proofs.lemmas.List.Sums.{sum_by-cons}
use Rattle.shunt_base.specs.declared.duals.Case.{Case}
use Rattle.shunt_instance.specs.defs.Instance.{Night, IsInstance, unit_total, position_total}
use Rattle.shunt_blocks.specs.declared.records.Block.{Block}
use Rattle.shunt_blocks.specs.defs.Lists.{IsFeasible, total_cost}
use Rattle.shunt_blocks.specs.defs.Pins.{AreUsable, Keeps, opening_cost}
use Rattle.shunt_choices.specs.defs.Paths.{Masks, Trail, IsTrailOf, IsPartialPlan, masks_of, next_of}
use Rattle.shunt_proof.specs.declared.records.NodeKind.TheVariants.{Branch, Whole}
use Rattle.shunt_proof.specs.declared.records.Node.{Node}
use Rattle.shunt_proof.specs.declared.records.Version.{Version}
use Rattle.shunt_proof.specs.declared.records.Version.TheVariants.{Prices, Stacks}
use Rattle.shunt_proof.specs.defs.Nodes.{AreStatable, FitsNode, CanFollow}
use Rattle.shunt_proof.specs.defs.Certificates.{own_cases, case_total}
use Rattle.shunt_proof.specs.defs.Trees.{IsStart, cases_or, duals_at}
use Rattle.shunt_proof.specs.defs.Versions.{HoldIn, IsBoundIn, ReachesIn}
use Rattle.shunt_search.specs.declared.yard.Yard.{Yard}
use Rattle.shunt_search.specs.declared.known.KnownPlan.{KnownPlan}
use Rattle.shunt_search.specs.declared.walk_stack.Pending.{Pending}
use Rattle.shunt_search.specs.declared.search_state.Search.{Search}
use Rattle.shunt_search.specs.defs.Roots.{IsFloor, IsBase}
use Rattle.shunt_search.specs.defs.Yards.{IsYard}
use Rattle.shunt_search.specs.defs.WalkStates.{cases_in, IsLifted, IsWalk, AddsChildren, OpensAbove, KeepsCheaper, IsBest}
use Rattle.shunt_search.specs.defs.Steady.{IsSteady}
use Rattle.shunt_search.specs.defs.SearchStates.{IsSearch, IsFresh, Begins, Takes, whole_root, branch_root, TellsRoot}
use Rattle.shunt_search.proofs.Lowest.{CostLaw}
use Rattle.shunt_search.proofs.Searched.{RiseLaw, SomeLaw, opens_above, same_walk, same_best}
use Rattle.shunt_blocks.proofs.Shapes.{all_within}

-- what the laws of the walk and of the crates below say
pub record BeginLaws : Type 0 where
  pub branch : (version : Version) (night : Night) (start : List Block) (stock : List (List Case)) (floor : ℤ) (n : Node) (best : ℕ) (low : ℤ) (place : ℕ) (waiting : List Pending)
      → FitsNode night n → n.depth ≡ 0 → n.kind ≡ Branch → cases_or n.duals [] ≡ cases_in stock place → place < length stock
      → best ≤ opening_cost night start → low ≤ℤ pos best → AddsChildren version night stock best start 0 place [] waiting
      → OpensAbove version night start (cases_in stock place) best floor → HoldIn version night start (cases_in stock place) → IsSome (next_of (masks_of night start))
      → IsWalk version night start stock floor (n ∷ []) start waiting best low
  pub whole : (version : Version) (night : Night) (start : List Block) (stock : List (List Case)) (floor : ℤ) (n : Node) (best : ℕ) (low : ℤ) → FitsNode night n → n.depth ≡ 0
      → n.kind ≡ Whole → best ≤ opening_cost night start → best ≤ total_cost night start → low ≤ℤ pos best
      → next_of (masks_of night start) ≡ None → IsWalk version night start stock floor (n ∷ []) start [] best low
  pub kept_plan : (night : Night) (pins : List Block) (t : Trail) (old new : KnownPlan) → IsInstance night → IsTrailOf night t → IsPartialPlan night pins t.blocks
      → next_of t.covered ≡ None → position_total night ≡ unit_total night → IsBest night pins old.blocks.items old.cost → KeepsCheaper night t.blocks old new
      → IsBest night pins new.blocks.items new.cost
  pub opening : (night : Night) (pins others : List Block) → IsPermutation pins others → opening_cost night others ≡ opening_cost night pins
  pub partial : (night : Night) (pins start : List Block) → IsInstance night → AreUsable night pins → IsStart night pins start → IsPartialPlan night pins start
  pub steady : (version : Version) (night : Night) (start : List Block) (n : Node) (path : List Block) (waiting : List Pending) (best : ℕ) (low : ℤ) → low ≡ pos best
      → IsSteady version night start (n ∷ []) path waiting best low
  pub cost : CostLaw
  pub rise : RiseLaw
  pub some : SomeLaw
  pub one : (version : Version) (night : Night) (path : List Block) (cases : List Case) (bound other : ℤ) → IsBoundIn version night path cases bound
      → IsBoundIn version night path cases other → bound ≡ other

one_told : (told now : Option (List Node)) (n : Node) → TellsRoot n told now → IfSome now (λ l. l ≡ n ∷ [])
one_told None None n tells = tt
one_told None (Some b) n tells = absurd tells.1
one_told (Some a) None n tells = absurd tells.1
one_told (Some a) (Some b) n tells = tells.1 ∙ ap (λ (l : List Node). l ++ n ∷ []) tells.0

-- the first node that is told can be a root
pub root_follows : (told : Option (List Node)) (n : Node) → n.depth ≡ 0 → IfSome told (λ l. l ≡ []) → IfSome told (λ l. CanFollow l n)
root_follows None n e is = tt
root_follows (Some a) n e is = subst (λ (l : List Node). CanFollow l n) (sym is) e

-- without cases a path has no bound
no_bound : (version : Version) (night : Night) (path : List Block) (bound : ℤ) → IsBoundIn version night path [] bound → ⊥
no_bound Prices night path bound is = let none : is.number < 0 = is.opens.there in absurd (omega (arith, none))
no_bound Stacks night path bound is = let none : is.least.number < 0 = is.least.opens.there in absurd (omega (arith, none))

not_whole : Branch ≢ Whole
not_whole e = cc

-- the first cases of a stock are as good as those of a root's own
pub first_lifts : RiseLaw → (version : Version) (night : Night) → IsInstance night → (pins : List Block) (stock : List (List Case)) (s : Search)
    → IsFresh version night pins stock s → IsLifted version night stock s.yard.path.blocks s.known.cost s.floor 0
first_lifts rise version night i pins stock s f = record {
  there = f.stocked.some;
  hold = f.rooted.hold;
  opens = opens_above rise version night i s.yard.path f.yard.path (cases_in stock 0) s.known.cost s.floor f.rooted.hold f.lowest.reach;
}

module _ (laws : BeginLaws) (version : Version) (night : Night) (i : IsInstance night) (pins : List Block) (stock : List (List Case)) (told now : Option (List Node))
    (count cases : ℕ) (s : Search) (f : IsFresh version night pins stock s) (first : count ≡ 1) where
  abbrev start : List Block
  start = s.yard.path.blocks

  abbrev floor : ℕ
  floor = f.rooted.floor

  -- a plan that keeps the pins costs at least what cases bound their path by
  costs : (cases : List Case) (least : ℤ) → AreStatable night cases → HoldIn version night start cases → ReachesIn version night start cases least → (plan : List Block)
      → IsFeasible night plan → Keeps plan pins → least ≤ℤ pos (total_cost night plan)
  costs own least statable hold reach plan feasible keeps = laws.cost version night pins start own least plan i f.usable f.begins statable.within hold reach feasible keeps

  abbrev first_cases : List Case
  first_cases = cases_in stock 0

  opened : s.known.cost ≤ opening_cost night start
  opened = let least = f.opening in let same = laws.opening night pins start f.begins.same in omega (arith, least, same)

  lowest_at : (z : Search) → z.floor ≡ s.floor → IsFloor version night start (cases_in stock 0) floor z.floor
  lowest_at z e = subst (λ (x : ℤ). IsFloor version night start (cases_in stock 0) floor x) (sym e) f.lowest

  pub whole_begins : (z w : Search) → TellsRoot whole_root told now → cases ≡ 0 → Begins s z cases → z.waiting.items ≡ [] → next_of (masks_of night start) ≡ None → Takes night z w
      → IsSearch version night pins stock now count cases w.waiting.items w
  whole_begins z w tells none b empty covers takes =
      let yard_is : w.yard ≡ s.yard = takes.yard ∙ b.yard in
      let path_is : w.yard.path.blocks ≡ start = ap (λ (y : Yard). y.path.blocks) yard_is in
      let cheaper : KeepsCheaper night start s.known w.known = subst (λ (l : List Block). KeepsCheaper night l s.known w.known) (ap (λ (y : Yard). y.path.blocks) b.yard)
      (subst (λ (k : KnownPlan). KeepsCheaper night z.yard.path.blocks k w.known) b.known takes.cheaper) in
      let less = cheaper.known in
      let known = opened in
      let low : w.known.cost ≤ opening_cost night start = omega (arith, less, known) in
      let fits : FitsNode night whole_root = record { depth = omega arith; choice = refl; duals = refl } in
      let covered : next_of s.yard.path.covered ≡ None = ap (λ (m : Masks). next_of m) f.yard.path.covered ∙ covers in
      let best = laws.kept_plan night pins s.yard.path s.known w.known i f.yard.path (laws.partial night pins start i f.usable f.begins) covered f.even f.best cheaper in
      let plans = costs first_cases s.floor f.rooted.statable f.rooted.hold f.lowest.reach in
      let cost = plans w.known.blocks.items best.feasible best.keeps in
      let cost_is = best.cost in
      let second = takes.low.second in
      let low_is : z.low ≡ pos s.known.cost = b.low ∙ f.low in
      let walk = laws.whole version night start stock s.floor whole_root w.known.cost w.low fits refl refl low cheaper.path_too second covers in
      let same : w.low ≡ pos w.known.cost = ⊎_elim (λ e. omega (arith, ints, e, low_is, less, second)) (λ e. e) takes.low.either in
      record {
        start = start;
        nodes = whole_root ∷ [];
        usable = f.usable;
        even = f.even;
        begins = f.begins;
        stocked = f.stocked;
        rooted = f.rooted;
        lowest = lowest_at w (takes.floor ∙ b.floor);
        floor = s.floor;
        base = record {
          least = let same_floor : w.floor ≡ s.floor = takes.floor ∙ b.floor in omega (arith, ints, same_floor);
          root = λ bound is. absurd (no_bound version night start bound is);
          plans = plans;
        };
        walk = same_walk version night start stock s.floor (whole_root ∷ []) start w.yard.path.blocks [] w.waiting.items w.known.cost w.known.cost w.low w.low path_is
            (takes.waiting ∙ empty) refl refl walk;
        steady = laws.steady version night start whole_root w.yard.path.blocks w.waiting.items w.known.cost w.low same;
        high = omega (arith, ints, same, cost, cost_is);
        tells = one_told told now whole_root tells;
        many = first;
        counted = takes.counted ∙ b.counted ∙ sym first;
        cases = let e : case_total (whole_root ∷ []) ≡ 0 = refl in omega (arith, e, none);
        cases_counted = takes.cases_counted ∙ b.cases_counted;
        room = omega (arith, none);
        yard = subst (λ (y : Yard). IsYard night y) (sym yard_is) f.yard;
        long = ap (λ (y : Yard). y.path.pins) yard_is ∙ f.long;
        best = best;
        small = let small = f.small in omega (arith, less, small);
        plain = λ e. same;
      }

  -- a floor of what a root's own cases show, with those that they bound its children by
  module _ (place : ℕ) (lifts : IsLifted version night stock start s.known.cost s.floor place) where
    abbrev own : List Case
    own = cases_in stock place

    abbrev root : Node
    root = branch_root own

    abbrev IsLow : ℤ → Type 0
    IsLow low = IsBase version night pins start (root ∷ []) s.floor low × OpensAbove version night start own s.known.cost low

    statable : AreStatable night own
    statable = f.stocked.each place [] lifts.there

    its : (bound : ℤ) × IsBoundIn version night start own bound
    its = let plan = laws.partial night pins start i f.usable f.begins in laws.some version night start own i
        (all_within night start plan.each) plan.apart plan.through statable.within.some

    its_root : (low : ℤ) → its.0 ≤ℤ low → (bound : ℤ) → IsBoundIn version night start (duals_at (root ∷ []) 0) bound → bound ≤ℤ low
    its_root low le bound is = let same = laws.one version night start own bound its.0 is its.1 in omega (arith, ints, le, same)

    -- the floor of the search, or the bound of the root where this is more
    low_floor : (low : ℤ) × IsLow low
    low_floor = by_lt_z s.floor its.0
        (λ lt. (
          its.0,
          (
            record {
              least = omega (arith, ints, lt);
              root = its_root its.0 (omega (arith, ints));
              plans = costs own its.0 statable lifts.hold (its.0, its.1, omega (arith, ints));
            },
            opens_above laws.rise version night i s.yard.path f.yard.path own s.known.cost its.0 lifts.hold (its.0, its.1, omega (arith, ints)),
          ),
        ))
        (λ le. (
          s.floor,
          (
            record {
              least = omega (arith, ints);
              root = its_root s.floor le;
              plans = costs first_cases s.floor f.rooted.statable f.rooted.hold f.lowest.reach;
            },
            lifts.opens,
          ),
        ))

  pub branch_begins : (z : Search) (place : ℕ) → IsLifted version night stock start s.known.cost s.floor place → TellsRoot (branch_root (cases_in stock place)) told now
      → cases ≡ length (cases_in stock place) → Begins s z cases → IsSome (next_of (masks_of night start))
      → AddsChildren version night stock s.known.cost start 0 place [] z.waiting.items
      → IsSearch version night pins stock now count cases z.waiting.items z
  branch_begins z place lifts tells owns b unfinished adds =
      let own = cases_in stock place in
      let root = branch_root (cases_in stock place) in
      let can_state = statable place lifts in
      let fits : FitsNode night (branch_root (cases_in stock place)) = record { depth = omega arith; choice = refl; duals = (not_whole, can_state) } in
      let low = low_floor place lifts in
      let low_is = f.low in
      let walk = laws.branch version night start stock low.0 root s.known.cost s.low place z.waiting.items fits refl refl refl lifts.there opened
      (omega (arith, ints, low_is)) adds low.1.1 lifts.hold unfinished in
      let cost_is : z.known.cost ≡ s.known.cost = ap (λ (k : KnownPlan). k.cost) b.known in
      let cost = low.1.0.plans s.known.blocks.items f.best.feasible f.best.keeps in
      let best_is = f.best.cost in
      let low_too = b.low in
      record {
        start = start;
        nodes = root ∷ [];
        usable = f.usable;
        even = f.even;
        begins = f.begins;
        stocked = f.stocked;
        rooted = f.rooted;
        lowest = lowest_at z b.floor;
        floor = low.0;
        base = subst (λ (x : ℤ). IsBase version night pins start (root ∷ []) x low.0) (sym b.floor) low.1.0;
        walk = same_walk version night start stock low.0 (root ∷ []) start z.yard.path.blocks z.waiting.items z.waiting.items s.known.cost z.known.cost s.low z.low
            (ap (λ (y : Yard). y.path.blocks) b.yard) refl cost_is b.low walk;
        steady = laws.steady version night start root z.yard.path.blocks z.waiting.items z.known.cost z.low (b.low ∙ f.low ∙ ap pos (sym cost_is));
        high = omega (arith, ints, low_too, low_is, cost, best_is);
        tells = one_told told now root tells;
        many = first;
        counted = b.counted ∙ sym first;
        cases = let e : case_total (root ∷ []) ≡ length own + 0 = sum_by-cons (λ (x : Node). own_cases x.duals) root [] in omega (arith, e, owns);
        cases_counted = b.cases_counted;
        room = let two = can_state.within.few in omega (arith, owns, two);
        yard = subst (λ (y : Yard). IsYard night y) (sym b.yard) f.yard;
        long = ap (λ (y : Yard). y.path.pins) b.yard ∙ f.long;
        best = same_best night pins s.known z.known b.known f.best;
        small = let small = f.small in omega (arith, small, cost_is);
        plain = λ e. b.low ∙ f.low ∙ ap pos (sym cost_is);
      }
