-- The path of a child that is left is a partial plan, and costs of plans are at least what a bound at the root is.
use Rattle.std.specs.Prelude.{take, ◌≤ℤ◌}
use Rattle.std.proofs.Common.{◌≡◌, ◌↔◌, ℕ, ◌<◌, ◌≤◌, List, length, ℤ, pos, sym, subst, arith, IsPermutation}
use Rattle.std.proofs.lemmas.Int.{ints}
use Rattle.shunt_lists.specs.defs.Members.{In}
use Rattle.shunt_base.specs.declared.duals.Case.{Case}
use Rattle.shunt_instance.specs.defs.Instance.{Night, IsInstance}
use Rattle.shunt_blocks.specs.declared.records.Block.{Block}
use Rattle.shunt_blocks.specs.defs.Lists.{ShareNothing, RunsThrough, IsFeasible, placed, total_cost}
use Rattle.shunt_blocks.specs.defs.Pins.{AreUsable, Keeps}
use Rattle.shunt_choices.specs.defs.Paths.{IsPartialPlan}
use Rattle.shunt_choices.specs.defs.Choices.{Choice as PathChoice, IsChoiceAt, longer_by}
use Rattle.shunt_prices.specs.defs.Limits.{AreCases}
use Rattle.shunt_proof.specs.declared.records.Node.{Node}
use Rattle.shunt_proof.specs.declared.records.Version.{Version}
use Rattle.shunt_proof.specs.defs.Nodes.{AreNodes}
use Rattle.shunt_proof.specs.defs.Trees.{IsStart, path_at}
use Rattle.shunt_proof.specs.defs.Versions.{HoldIn, IsBoundIn, ReachesIn}
use Rattle.shunt_proof.specs.defs.Proves.{IsPlaced}
use Rattle.shunt_search.specs.declared.walk_stack.Pending.{Pending}
use Rattle.shunt_search.specs.defs.Yards.{choice_of, more_by, IsNextBlock}
use Rattle.shunt_search.specs.defs.WalkStates.{kept, goal_of, IsWalk}
use Rattle.shunt_search.proofs.Offered.{longer_is}

-- paths of nodes are partial plans, and grow by choices
abbrev pub PartialLaw : Type 0
PartialLaw = (night : Night) (pins start : List Block) (nodes : List Node) (k : ℕ) → IsInstance night → AreNodes night nodes → AreUsable night pins → IsStart night pins start
    → ((j : ℕ) → 1 ≤ j → j < length nodes → IsPlaced night start nodes j) → k < length nodes → IsPartialPlan night pins (path_at night start nodes k)

abbrev pub GrowsLaw : Type 0
GrowsLaw = (night : Night) (pins blocks : List Block) (c : PathChoice) → IsPartialPlan night pins blocks → IsChoiceAt night blocks c
    → IsPartialPlan night pins (longer_by blocks c) ↔ RunsThrough night (placed (longer_by blocks c))

-- a partial plan is one with a next block too, with which the run goes through
pub open_partial : GrowsLaw → (night : Night) (pins path : List Block) (b : Block) → IsPartialPlan night pins path → IsNextBlock night path b
    → RunsThrough night (placed (more_by path b)) → IsPartialPlan night pins (more_by path b)
open_partial grows night pins path b partial next through =
    let is : longer_by path (choice_of b) ≡ more_by path b = longer_is path b next.id in
    subst (λ (l : List Block). IsPartialPlan night pins l) is ((grows night pins path (choice_of b) partial next.choice).1
    (subst (λ (l : List Block). RunsThrough night (placed l)) (sym is) through))

-- the path above a child that is left is a partial plan
pub parent_plan : PartialLaw → (version : Version) (night : Night) → IsInstance night → (pins start : List Block) → AreUsable night pins → IsStart night pins start
    → (stock : List (List Case)) (floor : ℤ) (nodes : List Node) (path : List Block) (waiting : List Pending) (best : ℕ) (low : ℤ) (t : Pending)
    → IsWalk version night start stock floor nodes path waiting best low → In t waiting → IsPartialPlan night pins (take (kept t.child) path)
parent_plan partial version night i pins start usable begins stock floor nodes path waiting best low t walk there =
    let p = walk.pending t there in
    subst (λ (l : List Block). IsPartialPlan night pins l) p.here (partial night pins start nodes t.parent i walk.formed usable begins walk.placed p.there)

-- its own path is one too
pub pending_plan : PartialLaw → GrowsLaw → (version : Version) (night : Night) → IsInstance night → (pins start : List Block) → AreUsable night pins → IsStart night pins start
    → (stock : List (List Case)) (floor : ℤ) (nodes : List Node) (path : List Block) (waiting : List Pending) (best : ℕ) (low : ℤ) (t : Pending)
    → IsWalk version night start stock floor nodes path waiting best low → In t waiting → IsPartialPlan night pins (goal_of path t.child)
pending_plan partial grows version night i pins start usable begins stock floor nodes path waiting best low t walk there =
    let p = walk.pending t there in
    let here = parent_plan partial version night i pins start usable begins stock floor nodes path waiting best low t walk there in
    open_partial grows night pins (take (kept t.child) path) t.child.block here p.next p.through

-- a plan that keeps the pins costs at least what cases bound their path by
abbrev pub CostLaw : Type 0
CostLaw = (version : Version) (night : Night) (pins start : List Block) (cases : List Case) (floor : ℤ) (plan : List Block) → IsInstance night → AreUsable night pins
    → IsStart night pins start → AreCases night cases → HoldIn version night start cases → ReachesIn version night start cases floor
    → IsFeasible night plan → Keeps plan pins → floor ≤ℤ pos (total_cost night plan)

-- what the laws of the crates below say
pub record FloorLaws : Type 0 where
  pub keeps : (plan pins others : List Block) → IsPermutation pins others → Keeps plan pins → Keeps plan others
  pub begins : (night : Night) (pins start : List Block) → IsInstance night → AreUsable night pins → IsStart night pins start → IsPartialPlan night pins start
  pub dual : (version : Version) (night : Night) (plan path : List Block) (cases : List Case) (bound : ℤ) → IsInstance night → IsFeasible night plan → ShareNothing night path
      → Keeps plan path → AreCases night cases → HoldIn version night path cases
      → IsBoundIn version night path cases bound → bound ≤ℤ pos (total_cost night plan)

pub cost : FloorLaws → CostLaw
cost laws version night pins start cases floor plan i usable begins are hold reach feasible keeps =
    let whole = laws.begins night pins start i usable begins in
    let bound = laws.dual version night plan start cases reach.0 i feasible whole.apart (laws.keeps plan pins start begins.same keeps) are hold reach.1 in
    let high = reach.2 in
    omega (arith, ints, high, bound)
