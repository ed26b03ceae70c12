-- What a search is when a child becomes a node.
use Rattle.std.specs.Prelude.{All, sum_by, take, ◌<ℤ◌, ◌≤ℤ◌, Option, Some, None, IfSome, IsSome}
use Rattle.std.proofs.Common.{◌≡◌, ◌≢◌, ◌⊎◌, inl, inr, ⊎_elim, ℕ, ◌+◌, ◌<◌, ◌≤◌, List, [], ◌∷◌, ◌++◌, length, ℤ, pos, refl, sym, subst, ap, ◌∙◌, arith}
use Rattle.std.proofs.lemmas.Int.{ints}
use Rattle.std.proofs.lemmas.List.{length-append, length-take-le}
use Rattle.std.proofs.lemmas.List.Sums.{sum_by-append, sum_by-cons}
use Rattle.shunt_store.specs.defs.Files.{BothTold}
use Rattle.shunt_lists.specs.defs.Members.{In}
use Rattle.shunt_lists.proofs.Members.{in_right}
use Rattle.shunt_base.specs.declared.duals.Case.{Case}
use Rattle.shunt_instance.specs.defs.Instance.{Night, IsInstance, unit_total, position_total}
use Rattle.shunt_blocks.specs.declared.records.Block.{Block}
use Rattle.shunt_blocks.specs.defs.Shapes.{shape_of, IsWithinTrains}
use Rattle.shunt_blocks.specs.defs.Lists.{ShareNothing, RunsThrough, placed, total_cost}
use Rattle.shunt_choices.specs.defs.Paths.{Masks, Trail, IsTrailOf, IsPartialPlan, masks_of, next_of}
use Rattle.shunt_choices.specs.defs.Choices.{IsChoice}
use Rattle.shunt_prices.specs.defs.Cases.{IsFreeBlock}
use Rattle.shunt_proof.specs.declared.records.NodeKind.TheVariants.{Branch, Whole}
use Rattle.shunt_proof.specs.declared.records.Node.{Node}
use Rattle.shunt_proof.specs.declared.records.Version.{Version}
use Rattle.shunt_proof.specs.defs.Nodes.{CanFollow}
use Rattle.shunt_proof.specs.defs.Certificates.{own_cases, case_total}
use Rattle.shunt_proof.specs.defs.Trees.{cases_or}
use Rattle.shunt_proof.specs.defs.Versions.{HoldIn, IsBoundIn, IsStepBoundIn, ReachesIn}
use Rattle.shunt_proof.proofs.Fronts.{duals_front}
use Rattle.shunt_search.specs.declared.yard.Yard.{Yard}
use Rattle.shunt_search.specs.declared.known.KnownPlan.{KnownPlan}
use Rattle.shunt_search.specs.declared.walk_stack.Pending.{Pending}
use Rattle.shunt_search.specs.declared.notes.NodeNoted.{NodeNoted}
use Rattle.shunt_search.specs.declared.notes.NodeNoted.TheVariants as noted
use Rattle.shunt_search.specs.declared.search_state.Search.{Search}
use Rattle.shunt_search.specs.defs.Roots.{IsFloor, IsBase}
use Rattle.shunt_search.specs.defs.Yards.{choice_of, IsYard, IsNextBlock}
use Rattle.shunt_search.specs.defs.WalkStates.{kept, goal_of, cases_in, IsWalk, IsNodeOf, node_below, IsInStock, cases_of, AddsChildren, OpensAbove, KeepsCheaper, IsBest, Passes}
use Rattle.shunt_search.specs.defs.Steady.{IsSteady}
use Rattle.shunt_search.specs.defs.SearchStates.{IsSearch, IsReady, Arrives, Takes, Falls}
use Rattle.shunt_search.proofs.YardChanges.{MostLaw}
use Rattle.shunt_search.proofs.Nexts.{at_unit, next_free}
use Rattle.shunt_search.proofs.Visits.{NextLaw}
use Rattle.shunt_search.proofs.Lowest.{PartialLaw, GrowsLaw, parent_plan, pending_plan}
use Rattle.shunt_blocks.proofs.Shapes.{all_within}

-- no bound falls where a path gets a block more: neither that of the path with it, nor that of the longer path behind this one
abbrev pub RiseLaw : Type 0
RiseLaw = (version : Version) (night : Night) (path : List Block) (b : Block) (cases : List Case) (before after : ℤ) → IsInstance night → All (IsWithinTrains night) path
    → ShareNothing night path → IsFreeBlock night (masks_of night path) (shape_of b) b.park
    → RunsThrough night (placed (path ++ b ∷ [])) → HoldIn version night path cases → IsBoundIn version night path cases before
    → IsStepBoundIn version night path (path ++ b ∷ []) cases after → before ≤ℤ after

abbrev pub StepLaw : Type 0
StepLaw = (version : Version) (night : Night) (path : List Block) (b : Block) (cases : List Case) (before after : ℤ) → IsInstance night → All (IsWithinTrains night) path
    → ShareNothing night path → IsFreeBlock night (masks_of night path) (shape_of b) b.park
    → IsStepBoundIn version night path (path ++ b ∷ []) cases before → IsBoundIn version night (path ++ b ∷ []) cases after → before ≤ℤ after

-- a path whose run goes through has a bound by cases
abbrev pub SomeLaw : Type 0
SomeLaw = (version : Version) (night : Night) (path : List Block) (cases : List Case) → IsInstance night → All (IsWithinTrains night) path → ShareNothing night path
    → RunsThrough night (placed path) → 1 ≤ length cases → (bound : ℤ) × IsBoundIn version night path cases bound

-- so no open child of a yard's path has a bound below what the path reaches
pub opens_above : RiseLaw → (version : Version) (night : Night) → IsInstance night → (t : Trail) → IsTrailOf night t → (cases : List Case) (best : ℕ) (least : ℤ)
    → HoldIn version night t.blocks cases → ReachesIn version night t.blocks cases least → OpensAbove version night t.blocks cases best least
opens_above law version night i t trail cases best least hold reach = λ c o.
    let at = at_unit (next_of (masks_of night t.blocks)) (λ u. IsChoice night (masks_of night t.blocks) u (choice_of c.block)) o.next.choice in
    let shape = at.2.shape in
    let rises = law version night t.blocks c.block cases reach.0 c.bound i (λ k d lt. (trail.each k d lt).within) trail.apart
    (record { shape = record { shape = shape.shape; first = refl; units = shape.units; positions = shape.positions }; option = at.2.option }) o.through hold reach.1 o.is in
    let le = reach.2 in
    omega (arith, ints, le, rises)

-- how a walk stays steady
pub record SteadyLaws : Type 0 where
  pub branch : (version : Version) (night : Night) (start : List Block) (stock : List (List Case)) (floor : ℤ) (nodes : List Node) (path : List Block) (left waiting : List Pending)
      (t : Pending) (best : ℕ) (low : ℤ) (n : Node) (place : ℕ)
      → IsInstance night → IsWalk version night start stock floor nodes path (left ++ t ∷ []) best low → IsSteady version night start nodes path (left ++ t ∷ []) best low
      → IsNodeOf night start path t.child n → t.child.bound <ℤ pos best → n.kind ≡ Branch
      → cases_or n.duals (cases_in stock t.cases) ≡ cases_in stock place → place < length stock
      → AddsChildren version night stock best (goal_of path t.child) (length nodes) place left waiting
      → OpensAbove version night (goal_of path t.child) (cases_in stock place) best t.child.bound → HoldIn version night (goal_of path t.child) (cases_in stock place)
      → IsSome (next_of (masks_of night (goal_of path t.child)))
      → IsSteady version night start (nodes ++ n ∷ []) (goal_of path t.child) waiting best low
  pub whole : (version : Version) (night : Night) (start : List Block) (stock : List (List Case)) (floor : ℤ) (nodes : List Node) (path : List Block) (left : List Pending)
      (t : Pending) (best now : ℕ) (low lower : ℤ) (n : Node)
      → IsInstance night → IsWalk version night start stock floor nodes path (left ++ t ∷ []) best low → IsSteady version night start nodes path (left ++ t ∷ []) best low
      → IsNodeOf night start path t.child n → t.child.bound <ℤ pos best → n.kind ≡ Whole
      → now ≤ best → lower ≤ℤ pos now → (lower ≡ low) ⊎ (lower ≡ pos now) → IsSteady version night start (nodes ++ n ∷ []) (goal_of path t.child) left now lower
  pub closed : (version : Version) (night : Night) (start : List Block) (stock : List (List Case)) (floor : ℤ) (nodes : List Node) (path : List Block) (waiting left : List Pending)
      (best : ℕ) (low now : ℤ)
      → IsWalk version night start stock floor nodes path waiting best low → IsSteady version night start nodes path waiting best low → Passes waiting left low now
      → IsSteady version night start nodes path left best now

-- what the laws of the walk and of the crates below say
pub record SearchLaws : Type 0 where
  pub branch : (version : Version) (night : Night) (start : List Block) (stock : List (List Case)) (floor : ℤ) (nodes : List Node) (path : List Block) (left waiting : List Pending)
      (t : Pending) (best : ℕ) (low : ℤ) (n : Node) (place : ℕ)
      → IsInstance night → IsWalk version night start stock floor nodes path (left ++ t ∷ []) best low → IsNodeOf night start path t.child n → t.child.bound <ℤ pos best
      → n.kind ≡ Branch
      → cases_or n.duals (cases_in stock t.cases) ≡ cases_in stock place → place < length stock
      → AddsChildren version night stock best (goal_of path t.child) (length nodes) place left waiting
      → OpensAbove version night (goal_of path t.child) (cases_in stock place) best floor → HoldIn version night (goal_of path t.child) (cases_in stock place)
      → IsSome (next_of (masks_of night (goal_of path t.child)))
      → IsWalk version night start stock floor (nodes ++ n ∷ []) (goal_of path t.child) waiting best low
  pub whole : (version : Version) (night : Night) (start : List Block) (stock : List (List Case)) (floor : ℤ) (nodes : List Node) (path : List Block) (left : List Pending)
      (t : Pending) (best now : ℕ) (low lower : ℤ) (n : Node)
      → IsInstance night → IsWalk version night start stock floor nodes path (left ++ t ∷ []) best low → IsNodeOf night start path t.child n → t.child.bound <ℤ pos best
      → n.kind ≡ Whole
      → now ≤ best → now ≤ total_cost night (goal_of path t.child) → lower ≤ℤ low → lower ≤ℤ pos now → next_of (masks_of night (goal_of path t.child)) ≡ None
      → IsWalk version night start stock floor (nodes ++ n ∷ []) (goal_of path t.child) left now lower
  pub follows : (version : Version) (night : Night) (start : List Block) (stock : List (List Case)) (floor : ℤ) (nodes : List Node) (path : List Block) (left : List Pending)
      (t : Pending) (best : ℕ) (low : ℤ) (n : Node)
      → IsInstance night → IsWalk version night start stock floor nodes path (left ++ t ∷ []) best low → IsNodeOf night start path t.child n → t.child.bound <ℤ pos best
      → CanFollow nodes n
  pub next : (version : Version) (night : Night) (start : List Block) (stock : List (List Case)) (floor : ℤ) (nodes : List Node) (path : List Block) (left : List Pending)
      (t : Pending) (best : ℕ) (low : ℤ)
      → IsWalk version night start stock floor nodes path (left ++ t ∷ []) best low
      → (length start ≤ kept t.child) × (kept t.child ≤ length path) × IsNextBlock night (take (kept t.child) path) t.child.block
  pub hold : (version : Version) (night : Night) (start : List Block) (stock : List (List Case)) (floor : ℤ) (nodes : List Node) (path : List Block) (left : List Pending)
      (t : Pending) (best : ℕ) (low : ℤ)
      → IsWalk version night start stock floor nodes path (left ++ t ∷ []) best low
      → (t.cases < length stock) × HoldIn version night (goal_of path t.child) (cases_in stock t.cases)
      × IsStepBoundIn version night (take (kept t.child) path) (goal_of path t.child) (cases_in stock t.cases) t.child.bound
  pub node : NextLaw
  pub kept_plan : (night : Night) (pins : List Block) (t : Trail) (old new : KnownPlan) → IsInstance night → IsTrailOf night t → IsPartialPlan night pins t.blocks
      → next_of t.covered ≡ None → position_total night ≡ unit_total night → IsBest night pins old.blocks.items old.cost → KeepsCheaper night t.blocks old new
      → IsBest night pins new.blocks.items new.cost
  pub steady : SteadyLaws
  pub rise : RiseLaw
  pub longer : StepLaw
  pub some : SomeLaw
  pub partial : PartialLaw
  pub grows : GrowsLaw
  pub most : MostLaw

of_told : {A : Type 0} (o : Option A) (P Q : A → Type 0) → ((x : A) → P x → Q x) → IfSome o P → IfSome o Q
of_told None P Q turn h = tt
of_told (Some x) P Q turn h = turn x h

told_more : (told now : Option (List Node)) (nodes : List Node) (n m : Node) → n ≡ m → IfSome told (λ l. l ≡ nodes) → BothTold told now (λ a b. b ≡ a ++ n ∷ [])
    → IfSome now (λ l. l ≡ nodes ++ m ∷ [])
told_more None None nodes n m e is both = tt
told_more None (Some b) nodes n m e is both = absurd both
told_more (Some a) None nodes n m e is both = absurd both
told_more (Some a) (Some b) nodes n m e is both = both ∙ ap (λ (l : List Node). l ++ n ∷ []) is ∙ ap (λ (x : Node). nodes ++ x ∷ []) e

-- a walk whose parts are called otherwise
pub same_walk : (version : Version) (night : Night) (start : List Block) (stock : List (List Case)) (floor : ℤ) (nodes : List Node) (path path_too : List Block)
    (waiting waiting_too : List Pending) (best best_too : ℕ) (low low_too : ℤ) → path_too ≡ path → waiting_too ≡ waiting → best_too ≡ best → low_too ≡ low
    → IsWalk version night start stock floor nodes path waiting best low → IsWalk version night start stock floor nodes path_too waiting_too best_too low_too
same_walk version night start stock floor nodes path path_too waiting waiting_too best best_too low low_too p w b l W =
    subst (λ (x : List Block). IsWalk version night start stock floor nodes x waiting_too best_too low_too) (sym p)
    (subst (λ (x : List Pending). IsWalk version night start stock floor nodes path x best_too low_too) (sym w)
    (subst (λ (x : ℕ). IsWalk version night start stock floor nodes path waiting x low_too) (sym b)
    (subst (λ (x : ℤ). IsWalk version night start stock floor nodes path waiting best x) (sym l) W)))

pub same_steady : (version : Version) (night : Night) (start : List Block) (nodes : List Node) (path path_too : List Block) (waiting waiting_too : List Pending) (best best_too : ℕ)
    (low low_too : ℤ) → path_too ≡ path → waiting_too ≡ waiting → best_too ≡ best → low_too ≡ low
    → IsSteady version night start nodes path waiting best low → IsSteady version night start nodes path_too waiting_too best_too low_too
same_steady version night start nodes path path_too waiting waiting_too best best_too low low_too p w b l S =
    subst (λ (x : List Block). IsSteady version night start nodes x waiting_too best_too low_too) (sym p)
    (subst (λ (x : List Pending). IsSteady version night start nodes path x best_too low_too) (sym w)
    (subst (λ (x : ℕ). IsSteady version night start nodes path waiting x low_too) (sym b)
    (subst (λ (x : ℤ). IsSteady version night start nodes path waiting best x) (sym l) S)))

pub same_best : (night : Night) (pins : List Block) (k now : KnownPlan) → now ≡ k → IsBest night pins k.blocks.items k.cost → IsBest night pins now.blocks.items now.cost
same_best night pins k now e h = subst (λ (x : KnownPlan). IsBest night pins x.blocks.items x.cost) (sym e) h

-- how many cases of its own a node has
its_cases : (pins : ℕ) (b : Block) (stock : List (List Case)) (how : NodeNoted) → own_cases (node_below pins b stock how).duals ≡ cases_of stock how
its_cases pins b stock noted.Whole = refl
its_cases pins b stock noted.Same = refl
its_cases pins b stock (noted.Own place) = refl

-- a child's path as that of nodes and one more
module _ (laws : SearchLaws) (version : Version) (night : Night) (i : IsInstance night) (units : unit_total night ≤ 160) (pins : List Block) (stock : List (List Case))
    (told : Option (List Node)) (number owned : ℕ) (left : List Pending) (t : Pending) (s : Search)
    (S : IsSearch version night pins stock told number owned (left ++ t ∷ []) s) where
  abbrev path : List Block
  path = s.yard.path.blocks

  abbrev goal : List Block
  goal = goal_of path t.child

  abbrev floor : ℤ
  floor = S.floor

  ready : (length S.start ≤ kept t.child) × (kept t.child ≤ length path) × IsNextBlock night (take (kept t.child) path) t.child.block
  ready = laws.next version night S.start stock floor S.nodes path left t s.known.cost s.low S.walk

  inherited : (t.cases < length stock) × HoldIn version night goal (cases_in stock t.cases)
      × IsStepBoundIn version night (take (kept t.child) path) goal (cases_in stock t.cases) t.child.bound
  inherited = laws.hold version night S.start stock floor S.nodes path left t s.known.cost s.low S.walk

  above_floor : floor ≤ℤ t.child.bound
  above_floor = (S.walk.pending t (in_right left (t ∷ []) t (inl refl))).above

  lowest_at : (z : Search) → z.floor ≡ s.floor → IsFloor version night S.start (cases_in stock 0) S.rooted.floor z.floor
  lowest_at z e = subst (λ (x : ℤ). IsFloor version night S.start (cases_in stock 0) S.rooted.floor x) (sym e) S.lowest

  -- the first node's cases stay where there is one node more
  base_at : (z : Search) (n : Node) → z.floor ≡ s.floor → IsBase version night pins S.start (S.nodes ++ n ∷ []) z.floor floor
  base_at z n e =
      let some = S.walk.some in
      let first : 0 < length S.nodes = omega (arith, some) in
      record {
        least = subst (λ (x : ℤ). x ≤ℤ floor) (sym e) S.base.least;
        root = λ bound is. S.base.root bound (subst (λ (d : List Case). IsBoundIn version night S.start d bound) (duals_front S.nodes (n ∷ []) 0 first) is);
        plans = S.base.plans;
      }

  pins_kept : s.yard.path.pins ≤ kept t.child
  pins_kept = let le = ready.0 in let long = S.long in omega (arith, le, long)

  plan : IsPartialPlan night pins goal
  plan = pending_plan laws.partial laws.grows version night i pins S.start S.usable S.begins stock floor S.nodes path (left ++ t ∷ []) s.known.cost s.low t S.walk
      (in_right left (t ∷ []) t (inl refl))

  -- its path is bounded by its parent's cases no less than the child was
  reached : ReachesIn version night goal (cases_in stock t.cases) t.child.bound
  reached =
      let own = cases_in stock t.cases in
      let above = parent_plan laws.partial version night i pins S.start S.usable S.begins stock floor S.nodes path (left ++ t ∷ []) s.known.cost s.low t S.walk
      (in_right left (t ∷ []) t (inl refl)) in
      let some = laws.some version night goal own i (all_within night goal plan.each) plan.apart plan.through (S.stocked.each t.cases [] inherited.0).within.some in (
        some.0,
        some.1,
        laws.longer version night (take (kept t.child) path) t.child.block own t.child.bound some.0 i (all_within night (take (kept t.child) path) above.each) above.apart
            (next_free night (take (kept t.child) path) t.child.block ready.2) inherited.2 some.1,
      )

  deep : length S.start < t.child.block.id
  deep = let id = ready.2.id in let le = ready.0 in let size = length-take-le (kept t.child) path ready.1 in omega (arith, id, le, size)

  few : t.child.block.id ≤ length S.start + 160
  few =
      let id = ready.2.id in
      let long : length goal ≡ length (take (kept t.child) path) + 1 = length-append (take (kept t.child) path) (t.child.block ∷ []) in
      let most = laws.most night goal (all_within night goal plan.each) plan.apart in
      omega (arith, id, long, most, units)

  abbrev node : NodeNoted → Node
  node how = node_below (length S.start) t.child.block stock how

  is_node : (how : NodeNoted) → IsInStock stock how → IsNodeOf night S.start path t.child (node how)
  is_node how there = laws.node night stock S.start path t.child how i S.stocked.each there ready.2 deep few

  same_node : (how : NodeNoted) → node_below s.yard.path.pins t.child.block stock how ≡ node how
  same_node how = ap (λ (n : ℕ). node_below n t.child.block stock how) S.long

  module _ (below : t.child.bound <ℤ pos s.known.cost) where
    place : (how : NodeNoted) → IsInStock stock how → IfSome told (λ nodes. CanFollow nodes (node_below s.yard.path.pins t.child.block stock how))
    place how there =
        let can = laws.follows version night S.start stock floor S.nodes path left t s.known.cost s.low (node how) i S.walk (is_node how there) below in
        of_told told (λ l. l ≡ S.nodes) (λ l. CanFollow l (node_below s.yard.path.pins t.child.block stock how))
        (λ l e. subst (λ (x : List Node). CanFollow x (node_below s.yard.path.pins t.child.block stock how)) (sym e)
        (subst (λ (n : Node). CanFollow S.nodes n) (sym (same_node how)) can)) S.tells

    pub is_ready : IsReady night stock told s.yard t
    is_ready = record { pins = pins_kept; there = ready.1; next = ready.2; through = plan.through; inherits = inherited.0; place = place }

    module _ (z : Search) (how : NodeNoted) (a : Arrives version night stock s z t how left) (now : Option (List Node)) (count cases : ℕ) (more : count ≡ number + 1)
        (owns : cases ≡ owned + cases_of stock how) (both : BothTold told now (λ x y. y ≡ x ++ node_below s.yard.path.pins t.child.block stock how ∷ [])) where
      abbrev nodes : List Node
      nodes = S.nodes ++ node how ∷ []

      parent : s.count ≡ length S.nodes
      parent = S.counted ∙ S.many

      counted : count ≡ length nodes
      counted = let many = S.many in let long : length nodes ≡ length S.nodes + 1 = length-append S.nodes (node how ∷ []) in omega (arith, more, many, long)

      owned_now : cases ≡ case_total nodes
      owned_now =
          let sum = sum_by-append (λ (x : Node). own_cases x.duals) S.nodes (node how ∷ []) in
          let one = sum_by-cons (λ (x : Node). own_cases x.duals) (node how) [] in
          let none : sum_by (λ (x : Node). own_cases x.duals) [] ≡ 0 = refl in
          let its = its_cases (length S.start) t.child.block stock how in
          let few = S.cases in
          omega (arith, owns, sum, one, none, its, few)

      same_cost : z.known.cost ≡ s.known.cost
      same_cost = ap (λ (k : KnownPlan). k.cost) a.known

      -- where it is a branch with these cases
      with_cases : (at : ℕ) → at < length stock → IsInStock stock how → (node how).kind ≡ Branch → cases_or (node how).duals (cases_in stock t.cases) ≡ cases_in stock at
          → HoldIn version night goal (cases_in stock at) → OpensAbove version night goal (cases_in stock at) s.known.cost t.child.bound
          → IsSome (next_of (masks_of night goal)) → AddsChildren version night stock s.known.cost goal s.count at left z.waiting.items
          → IsSearch version night pins stock now count cases z.waiting.items z
      with_cases at in_stock there kind own hold rise unfinished adds =
          let above : OpensAbove version night goal (cases_in stock at) s.known.cost floor = (λ c o.
          (let le = rise c o in let low = above_floor in omega (arith, ints, le, low))) in
          let children = subst (λ (k : ℕ). AddsChildren version night stock s.known.cost goal k at left z.waiting.items) parent adds in
          let walk = laws.branch version night S.start stock floor S.nodes path left z.waiting.items t s.known.cost s.low (node how) at i S.walk
          (is_node how there) below kind own in_stock children above hold unfinished in
          record {
            start = S.start;
            nodes = nodes;
            usable = S.usable;
            even = S.even;
            begins = S.begins;
            stocked = S.stocked;
            rooted = S.rooted;
            lowest = lowest_at z a.floor;
            floor = floor;
            base = base_at z (node how) a.floor;
            walk = same_walk version night S.start stock floor nodes goal z.yard.path.blocks z.waiting.items z.waiting.items s.known.cost z.known.cost s.low z.low a.path refl
                same_cost a.low walk;
            steady = same_steady version night S.start nodes goal z.yard.path.blocks z.waiting.items z.waiting.items s.known.cost z.known.cost s.low z.low a.path refl
                same_cost a.low
                (laws.steady.branch version night S.start stock floor S.nodes path left z.waiting.items t s.known.cost s.low (node how) at i S.walk S.steady
                (is_node how there) below kind own in_stock children rise hold unfinished);
            high = subst (λ (x : ℤ). floor ≤ℤ x) (sym a.low) S.high;
            tells = told_more told now S.nodes _ _ (same_node how) S.tells both;
            many = counted;
            counted = let one = a.counted in let was = S.counted in omega (arith, one, was, more);
            cases = owned_now;
            cases_counted = let one = a.cases_counted in let was = S.cases_counted in omega (arith, one, was, owns);
            room = let le = a.room in let one = a.cases_counted in let was = S.cases_counted in omega (arith, le, one, was, owns);
            yard = a.yard;
            long = a.pins ∙ S.long;
            best = same_best night pins s.known z.known a.known S.best;
            small = let small = S.small in omega (arith, small, same_cost);
            plain = λ e. a.low ∙ S.plain (sym a.plain ∙ e) ∙ ap pos (sym same_cost);
          }

  pub branch_search : (below : t.child.bound <ℤ pos s.known.cost) (z : Search) (how : NodeNoted) (a : Arrives version night stock s z t how left) (now : Option (List Node))
      (count cases : ℕ) (more : count ≡ number + 1) (owns : cases ≡ owned + cases_of stock how)
      → BothTold told now (λ x y. y ≡ x ++ node_below s.yard.path.pins t.child.block stock how ∷ []) → how ≢ noted.Whole
      → IsSearch version night pins stock now count cases z.waiting.items z
  branch_search below z noted.Whole a now count cases more owns both not_whole = absurd (not_whole refl)
  branch_search below z noted.Same a now count cases more owns both not_whole =
      let own = cases_in stock t.cases in
      let here = subst (λ (l : List Block). HoldIn version night l own) (sym a.path) inherited.1 in
      let reach = subst (λ (l : List Block). ReachesIn version night l own t.child.bound) (sym a.path) reached in
      let rise = subst (λ (l : List Block). OpensAbove version night l own s.known.cost t.child.bound) a.path
      (opens_above laws.rise version night i z.yard.path a.yard.path own s.known.cost t.child.bound here reach) in
      with_cases below z noted.Same a now count cases more owns both t.cases inherited.0 tt refl refl inherited.1 rise a.is_noted a.opens
  branch_search below z (noted.Own place) a now count cases more owns both not_whole =
      let lifts = a.is_noted.1 in
      with_cases below z (noted.Own place) a now count cases more owns both place lifts.there lifts.there refl refl lifts.hold lifts.opens a.is_noted.0 a.opens

  pub whole_search : (below : t.child.bound <ℤ pos s.known.cost) (z w : Search) (a : Arrives version night stock s z t noted.Whole left) (now : Option (List Node))
      (count cases : ℕ) (more : count ≡ number + 1) (owns : cases ≡ owned + cases_of stock noted.Whole)
      → BothTold told now (λ x y. y ≡ x ++ node_below s.yard.path.pins t.child.block stock noted.Whole ∷ []) → Takes night z w
      → IsSearch version night pins stock now count cases w.waiting.items w
  whole_search below z w a now count cases more owns both takes =
      let nodes = S.nodes ++ node noted.Whole ∷ [] in
      let path_is : w.yard.path.blocks ≡ goal = ap (λ (y : Yard). y.path.blocks) takes.yard ∙ a.path in
      let same = same_cost below z noted.Whole a now count cases more owns both in
      let cheaper = takes.cheaper in
      let known = cheaper.known in
      let path_too : w.known.cost ≤ total_cost night goal = subst (λ (l : List Block). w.known.cost ≤ total_cost night l) a.path cheaper.path_too in
      let first = takes.low.first in
      let second = takes.low.second in
      let low_is = a.low in
      let falls : w.low ≤ℤ s.low = subst (λ (x : ℤ). w.low ≤ℤ x) low_is first in
      let less : w.known.cost ≤ s.known.cost = omega (arith, known, same) in
      let walk = laws.whole version night S.start stock floor S.nodes path left t s.known.cost w.known.cost s.low w.low (node noted.Whole) i S.walk
      (is_node noted.Whole tt) below refl less path_too falls second a.is_noted in
      let covers : next_of z.yard.path.covered ≡ None = ap (λ (m : Masks). next_of m) a.yard.path.covered ∙ ap (λ (l : List Block). next_of (masks_of night l)) a.path
      ∙ a.is_noted in
      let best = laws.kept_plan night pins z.yard.path z.known w.known i a.yard.path (subst (λ (l : List Block). IsPartialPlan night pins l) (sym a.path) plan) covers S.even
      (same_best night pins s.known z.known a.known S.best) cheaper in
      let cost = S.base.plans w.known.blocks.items best.feasible best.keeps in
      let cost_is = best.cost in
      record {
        start = S.start;
        nodes = nodes;
        usable = S.usable;
        even = S.even;
        begins = S.begins;
        stocked = S.stocked;
        rooted = S.rooted;
        lowest = lowest_at w (takes.floor ∙ a.floor);
        floor = floor;
        base = base_at w (node noted.Whole) (takes.floor ∙ a.floor);
        walk = same_walk version night S.start stock floor nodes goal w.yard.path.blocks left w.waiting.items w.known.cost w.known.cost w.low w.low path_is
            (takes.waiting ∙ a.opens) refl refl walk;
        steady = same_steady version night S.start nodes goal w.yard.path.blocks left w.waiting.items w.known.cost w.known.cost w.low w.low path_is
            (takes.waiting ∙ a.opens) refl refl
            (laws.steady.whole version night S.start stock floor S.nodes path left t s.known.cost w.known.cost s.low w.low (node noted.Whole) i S.walk S.steady
            (is_node noted.Whole tt) below refl less second (⊎_elim (λ e. inl (e ∙ low_is)) (λ e. inr e) takes.low.either));
        high = ⊎_elim
            (λ e. let was = S.high in omega (arith, ints, e, low_is, was))
            (λ e. omega (arith, ints, e, cost, cost_is))
            takes.low.either;
        tells = told_more told now S.nodes _ _ (same_node noted.Whole) S.tells both;
        many = counted below z noted.Whole a now count cases more owns both;
        counted = let also = takes.counted in let one = a.counted in let was = S.counted in omega (arith, also, one, was, more);
        cases = owned_now below z noted.Whole a now count cases more owns both;
        cases_counted = let also = takes.cases_counted in let one = a.cases_counted in let was = S.cases_counted in omega (arith, also, one, was, owns);
        room = let le = a.room in let one = a.cases_counted in let was = S.cases_counted in omega (arith, le, one, was, owns);
        yard = subst (λ (y : Yard). IsYard night y) (sym takes.yard) a.yard;
        long = ap (λ (y : Yard). y.path.pins) takes.yard ∙ a.pins ∙ S.long;
        best = best;
        small = let small = S.small in omega (arith, small, less);
        plain = λ e.
            let was = S.plain (sym a.plain ∙ sym takes.plain ∙ e) in
            ⊎_elim (λ l. omega (arith, ints, l, low_is, was, less, second)) (λ l. l) takes.low.either;
      }

-- children that are closed or passed over are no part of it
pub closed_search : ((version : Version) (night : Night) (start : List Block) (stock : List (List Case)) (floor : ℤ) (nodes : List Node) (path : List Block)
    (waiting left : List Pending) (best : ℕ) (low now : ℤ) → IsWalk version night start stock floor nodes path waiting best low → Passes waiting left low now
    → IsWalk version night start stock floor nodes path left best now) → SteadyLaws
    → (version : Version) (night : Night) (pins : List Block) (stock : List (List Case)) (told : Option (List Node)) (number owned : ℕ) (waiting left : List Pending) (s z : Search)
    → IsSearch version night pins stock told number owned waiting s → Falls s z waiting left → IsSearch version night pins stock told number owned left z
closed_search closed steady version night pins stock told number owned waiting left s z S f =
    let p = f.passes in
    let same_cost : z.known.cost ≡ s.known.cost = ap (λ (k : KnownPlan). k.cost) f.known in
    record {
      start = S.start;
      nodes = S.nodes;
      usable = S.usable;
      even = S.even;
      begins = S.begins;
      stocked = S.stocked;
      rooted = S.rooted;
      lowest = subst (λ (x : ℤ). IsFloor version night S.start (cases_in stock 0) S.rooted.floor x) (sym f.floor) S.lowest;
      floor = S.floor;
      base = subst (λ (x : ℤ). IsBase version night pins S.start S.nodes x S.floor) (sym f.floor) S.base;
      walk = same_walk version night S.start stock S.floor S.nodes s.yard.path.blocks z.yard.path.blocks left left s.known.cost z.known.cost z.low z.low
          (ap (λ (y : Yard). y.path.blocks) f.yard) refl same_cost refl
          (closed version night S.start stock S.floor S.nodes s.yard.path.blocks waiting left s.known.cost s.low z.low S.walk p);
      steady = same_steady version night S.start S.nodes s.yard.path.blocks z.yard.path.blocks left left s.known.cost z.known.cost z.low z.low
          (ap (λ (y : Yard). y.path.blocks) f.yard) refl same_cost refl
          (steady.closed version night S.start stock S.floor S.nodes s.yard.path.blocks waiting left s.known.cost s.low z.low S.walk S.steady p);
      high = ⊎_elim
          (λ e. subst (λ (x : ℤ). S.floor ≤ℤ x) (sym e) S.high)
          (λ found. subst (λ (x : ℤ). S.floor ≤ℤ x) (sym found.2) (S.walk.pending found.0
          (subst (λ (l : List Pending). In found.0 l) (sym p.parts) (in_right left p.passed found.0 found.1))).above)
          p.least;
      tells = S.tells;
      many = S.many;
      counted = f.counted ∙ S.counted;
      cases = S.cases;
      cases_counted = f.cases_counted ∙ S.cases_counted;
      room = S.room;
      yard = subst (λ (y : Yard). IsYard night y) (sym f.yard) S.yard;
      long = ap (λ (y : Yard). y.path.pins) f.yard ∙ S.long;
      best = same_best night pins s.known z.known f.known S.best;
      small = let small = S.small in omega (arith, small, same_cost);
      plain = λ e. let plain = sym f.plain ∙ e in f.low plain ∙ S.plain plain ∙ ap pos (sym same_cost);
    }
