-- What a search has found when it ends.
use Rattle.std.specs.Prelude.{◌≤ℤ◌, Option, Some, None, IfSome}
use Rattle.std.proofs.Common.{◌≡◌, ◌↔◌, ⊎_elim, ℕ, ◌<◌, ◌≤◌, List, length, take, drop, ℤ, pos, negsuc, refl, sym, subst, arith, IsPermutation}
use Rattle.std.proofs.lemmas.Int.{ints}
use Rattle.std.proofs.lemmas.List.{length-take, take-append-drop}
use Rattle.std.proofs.Math.Nat.{le-min}
use Rattle.shunt_lists.specs.defs.Members.{In}
use Rattle.shunt_base.specs.declared.duals.Case.{Case}
use Rattle.shunt_instance.specs.defs.Instance.{Night, IsInstance}
use Rattle.shunt_blocks.specs.declared.records.Block.{Block}
use Rattle.shunt_blocks.specs.defs.Lists.{ShareNothing, IsFeasible, total_cost}
use Rattle.shunt_blocks.specs.defs.Pins.{AreUsable, Keeps, opening_cost}
use Rattle.shunt_choices.specs.defs.Choices.{partial_plans}
use Rattle.shunt_plan.specs.declared.records.Plan.{Plan}
use Rattle.shunt_proof.specs.declared.records.NodeKind.TheVariants.{Whole}
use Rattle.shunt_proof.specs.declared.records.Node.{Node}
use Rattle.shunt_proof.specs.declared.records.Certificate.{Certificate}
use Rattle.shunt_proof.specs.declared.records.Version.{Version}
use Rattle.shunt_proof.specs.declared.records.Version.TheVariants.{Prices, Stacks}
use Rattle.shunt_proof.specs.defs.Nodes.{node_at, AreNodes}
use Rattle.shunt_proof.specs.defs.Numbers.{CanBeRead}
use Rattle.shunt_proof.specs.defs.Certificates.{IsCertificate}
use Rattle.shunt_proof.specs.defs.Trees.{IsStart, path_at, duals_at, best_before}
use Rattle.shunt_proof.specs.defs.Versions.{IsBoundIn}
use Rattle.shunt_proof.specs.defs.Proves.{ProvesIn, AreRightIn}
use Rattle.shunt_proof.specs.defs.Accepted.{IsAccepted}
use Rattle.shunt_proof.proofs.LongerLists.{front_nodes}
use Rattle.shunt_search.specs.declared.walk_stack.Pending.{Pending}
use Rattle.shunt_search.specs.declared.search_state.Search.{Search}
use Rattle.shunt_search.specs.defs.Conditions.{IsPlanFor, IsTidy, IsCheap, IsAboveAssignment, IsAboveRoot, AreSteady, AreSpent, MeetConditions, IsBoundForPlans}
use Rattle.shunt_search.specs.defs.WalkStates.{IsWalk}
use Rattle.shunt_search.specs.defs.Steady.{KeepBounds, IsSteady}
use Rattle.shunt_search.specs.defs.SearchStates.{IsSearch}
use Rattle.shunt_search.specs.defs.Endings.{IsLeft, IsDone, IsEnd, certificate_in}

-- what the laws of the walk and of the crates below say
pub record EndLaws : Type 0 where
  pub right : (version : Version) (night : Night) (start : List Block) (stock : List (List Case)) (floor : ℤ) (nodes : List Node) (path : List Block) (waiting : List Pending)
      (best : ℕ) (low bound : ℤ)
      → IsWalk version night start stock floor nodes path waiting best low → bound ≤ℤ low → ((t : Pending) → In t waiting → bound ≤ℤ t.child.bound)
      → AreRightIn version night start nodes bound
  pub exactly : (version : Version) (night : Night) (start : List Block) (nodes : List Node) (L : ℤ) → AreNodes night nodes → 1 ≤ length nodes
      → ProvesIn version night start nodes L 0 ↔ AreRightIn version night start nodes L
  pub left : (version : Version) (night : Night) (start : List Block) (stock : List (List Case)) (floor : ℤ) (nodes : List Node) (path : List Block) (waiting : List Pending)
      (best : ℕ) (low bound : ℤ)
      → IsWalk version night start stock floor nodes path waiting best low → IsSteady version night start nodes path waiting best low → AreRightIn version night start nodes bound
      → bound ≤ℤ pos best → (bound ≤ℤ low) × ((t : Pending) → In t waiting → bound ≤ℤ t.child.bound)
  pub fronts : (version : Version) (night : Night) (start : List Block) (stock : List (List Case)) (floor : ℤ) (nodes : List Node) (path : List Block) (waiting : List Pending)
      (best m : ℕ) (low least bound : ℤ)
      → IsInstance night → IsWalk version night start stock floor nodes path waiting best low → IsSteady version night start nodes path waiting best low
      → AreRightIn version night start nodes least → bound ≤ℤ pos best → 1 ≤ m → AreRightIn version night start (take m nodes) bound
      → AreRightIn version night start nodes bound
  pub costs : (version : Version) (night : Night) (start : List Block) (nodes : List Node) (best now : ℕ) → now ≤ best → KeepBounds version night start nodes best
      → KeepBounds version night start nodes now
  pub one : (night : Night) (pins start other : List Block) → IsStart night pins start → IsStart night pins other → start ≡ other
  pub opening : (night : Night) (pins others : List Block) → IsPermutation pins others → opening_cost night others ≡ opening_cost night pins
  pub before_opening : (night : Night) (start : List Block) (nodes : List Node) (k : ℕ) → best_before night start nodes k ≤ opening_cost night start
  pub before_whole : (night : Night) (start : List Block) (nodes : List Node) (j k : ℕ) → j < k → (node_at nodes j).kind ≡ Whole
      → best_before night start nodes k ≤ total_cost night (path_at night start nodes j)
  pub accepted : (night : Night) (pins own : List Block) (stated : ℕ) (c : Certificate) (plan : List Block) → IsInstance night → AreNodes night c.nodes → ShareNothing night pins
      → IsAccepted night pins own stated c
      → IsFeasible night plan → Keeps plan pins → c.bound ≤ total_cost night plan
  pub all_plans : (night : Night) (pins own : List Block) (stated most : ℕ) (c : Certificate) → IsInstance night → AreNodes night c.nodes → AreUsable night pins
      → IsAccepted night pins own stated c
      → (c.bound < c.cost → length c.nodes ≡ most) → partial_plans night pins < most → c.bound ≡ c.cost

-- either version is read
can_read : (version : Version) → CanBeRead version
can_read Prices = omega arith
can_read Stacks = omega arith

of_told : (o : Option (List Node)) (nodes : List Node) (P : List Node → Type 0) → IfSome o (λ l. l ≡ nodes) → P nodes → IfSome o P
of_told None nodes P is h = tt
of_told (Some l) nodes P is h = subst P (sym is) h

module _ (laws : EndLaws) (version : Version) (night : Night) (i : IsInstance night) (pins : List Block) (stock : List (List Case)) (told : Option (List Node)) (number owned : ℕ)
    (s : Search) (S : IsSearch version night pins stock told number owned s.waiting.items s) where
  at_least : (bound : ℤ) → IsLeft s.waiting.items s.low bound → S.floor ≤ℤ bound
  at_least bound left = ⊎_elim
      (λ e. subst (λ (x : ℤ). S.floor ≤ℤ x) (sym e) S.high)
      (λ t. subst (λ (x : ℤ). S.floor ≤ℤ x) (sym t.2) (S.walk.pending t.0 t.1).above)
      left.least

  assigned : pos S.rooted.floor ≤ℤ S.floor
  assigned = let high = S.lowest.high in let least = S.base.least in omega (arith, ints, high, least)

  pub natural : (bound : ℤ) → IsLeft s.waiting.items s.low bound → (b : ℕ) × (bound ≡ pos b)
  natural (pos b) left = (b, refl)
  natural (negsuc b) left = let low = at_least (negsuc b) left in let first = assigned in absurd (omega (arith, ints, low, first))

  module _ (most b : ℕ) (plan : Plan) (left : IsLeft s.waiting.items s.low (pos b)) (for_plan : IsPlanFor night pins plan) (tidy : IsTidy night pins plan)
      (cheap : total_cost night plan.blocks ≤ s.known.cost) (few : number ≤ most) (limit : most ≤ 5000) (done : IsDone number most s.waiting.items s.known.cost s.low) where
    abbrev c : Certificate
    c = certificate_in version plan b S.nodes

    right : AreRightIn version night S.start S.nodes (pos b)
    right = laws.right version night S.start stock S.floor S.nodes s.yard.path.blocks s.waiting.items s.known.cost s.low (pos b) S.walk left.within left.left

    root : ProvesIn version night S.start S.nodes (pos b) 0
    root = (laws.exactly version night S.start S.nodes (pos b) S.walk.formed S.walk.some).1 right

    accepted : IsAccepted night pins plan.blocks plan.cost c
    accepted = record {
      feasible = for_plan.feasible;
      keeps = for_plan.keeps;
      states = for_plan.states;
      cost = for_plan.states;
      start = S.start;
      begins = S.begins;
      root = root;
      lean = S.walk.lean;
    }

    for_plans : IsBoundForPlans night pins b
    for_plans = λ blocks feasible keeps. laws.accepted night pins plan.blocks plan.cost c blocks i S.walk.formed S.usable.apart accepted feasible keeps

    within : b ≤ plan.cost
    within = let le = for_plans plan.blocks for_plan.feasible for_plan.keeps in let states = for_plan.states in omega (arith, le, states)

    above : IsAboveAssignment night b
    above = record { assignment = S.rooted.floor; is = S.rooted.assignment; above = let low = at_least (pos b) left in let first = assigned in omega (arith, ints, low, first) }

    above_root : IsAboveRoot night pins c
    above_root = λ start bound begins is.
        let same = laws.one night pins start S.start begins S.begins in
        let high = S.base.root bound (subst (λ (l : List Block). IsBoundIn version night l (duals_at S.nodes 0) bound) same is) in
        let low = at_least (pos b) left in
        omega (arith, ints, high, low)

    -- a bound up to the cost that all nodes prove is at most what is left
    at_most : (L : ℤ) → L ≤ℤ pos plan.cost → AreRightIn version night S.start S.nodes L → L ≤ℤ pos b
    at_most L le all_right =
        let states = for_plan.states in
        let most : L ≤ℤ pos s.known.cost = omega (arith, ints, le, states, cheap) in
        let high = laws.left version night S.start stock S.floor S.nodes s.yard.path.blocks s.waiting.items s.known.cost s.low L S.walk S.steady all_right most in
        ⊎_elim
        (λ e. (let first = high.0 in omega (arith, ints, e, first)))
        (λ t. (let first = high.1 t.0 t.1 in let e = t.2 in omega (arith, ints, e, first)))
        left.least

    front_formed : (m : ℕ) → AreNodes night (take m S.nodes)
    front_formed m = front_nodes (take m S.nodes) (drop m S.nodes) night (subst (λ (l : List Node). AreNodes night l) (sym (take-append-drop m S.nodes)) S.walk.formed)

    from_front : (m : ℕ) (L : ℤ) → 1 ≤ m → L ≤ℤ pos plan.cost → ProvesIn version night S.start (take m S.nodes) L 0 → L ≤ℤ pos b
    from_front m L more le proves =
        let states = for_plan.states in
        let most : L ≤ℤ pos s.known.cost = omega (arith, ints, le, states, cheap) in
        let size = length-take m S.nodes in
        let some : 1 ≤ length (take m S.nodes) = subst (λ (n : ℕ). 1 ≤ n) (sym size) (le-min more S.walk.some) in
        let front = (laws.exactly version night S.start (take m S.nodes) L (front_formed m) some).0 proves in
        at_most L le (laws.fronts version night S.start stock S.floor S.nodes s.yard.path.blocks s.waiting.items s.known.cost m s.low
        (pos b) L i S.walk S.steady right most more front)

    steady : AreSteady night pins c
    steady = record {
      keep = λ start begins.
          let same = laws.one night pins S.start start S.begins begins in
          let states = for_plan.states in
          subst (λ (l : List Block). KeepBounds version night l S.nodes plan.cost) same
          (laws.costs version night S.start S.nodes s.known.cost plan.cost (omega (arith, states, cheap)) S.steady.keep);
      fronts = λ start m L begins more le proves.
          let same = laws.one night pins start S.start begins S.begins in
          from_front m L more le (subst (λ (l : List Block). ProvesIn version night l (take m S.nodes) L 0) same proves);
    }

    all : b < plan.cost → number ≡ most
    all lt = ⊎_elim (λ e. e) (λ over. let high = over (pos b) left in let states = for_plan.states in absurd (omega (arith, ints, high, states, cheap, lt))) done

    optimal : partial_plans night pins < most → b ≡ plan.cost
    optimal fewer = laws.all_plans night pins plan.blocks plan.cost most c i S.walk.formed S.usable accepted
        (λ lt. (let e = all lt in let many = S.many in omega (arith, e, many))) fewer

    spent : AreSpent night pins most number plan.cost b
    spent = record { few = few; all = all; optimal = optimal }

    low_enough : total_cost night plan.blocks ≤ best_before night S.start S.nodes (length S.nodes)
    low_enough = let best = S.walk.cheap in omega (arith, cheap, best)

    is_cheap : IsCheap night pins plan S.nodes
    is_cheap = record {
      opening = let most_opening = laws.before_opening night S.start S.nodes (length S.nodes) in let same = laws.opening night pins S.start S.begins.same in let low = low_enough in
          omega (arith, most_opening, same, low);
      wholes = λ start j is lt whole.
          let same = laws.one night pins S.start start S.begins is in
          let most_whole = laws.before_whole night S.start S.nodes j (length S.nodes) lt whole in
          let low = low_enough in
          subst (λ (l : List Block). total_cost night plan.blocks ≤ total_cost night (path_at night l S.nodes j)) same (omega (arith, most_whole, low));
    }

    meets : MeetConditions night pins most plan c
    meets = record {
      plan_for = for_plan;
      tidy = tidy;
      cheap = is_cheap;
      accepted = accepted;
      above = above;
      above_root = above_root;
      steady = steady;
      spent = subst
          (λ (n : ℕ). AreSpent night pins most n plan.cost b) S.many spent;
    }

    stated : IsCertificate night c
    stated = record {
      some = S.walk.some;
      few = let many = S.many in omega (arith, many, few, limit);
      cases = let all_own = S.cases in let room = S.room in omega (arith, all_own, room);
      nodes = S.walk.formed;
      cost = let states = for_plan.states in let small = S.small in omega (arith, states, cheap, small);
      bound = let le = within in let states = for_plan.states in let small = S.small in omega (arith, le, states, cheap, small);
      version = can_read version;
    }

    pub end : IsEnd version night pins most number plan b told
    end = record {
      opening = is_cheap.opening;
      above = above;
      spent = spent;
      for_plans = for_plans;
      within = within;
      certificate = of_told told S.nodes (λ (l : List Node). IsCertificate night (certificate_in version plan b l)
          × MeetConditions night pins most plan (certificate_in version plan b l)) S.tells (stated, meets);
      shown = record { nodes = S.nodes; tells = S.tells; many = S.many; stated = stated; meet = meets };
    }
