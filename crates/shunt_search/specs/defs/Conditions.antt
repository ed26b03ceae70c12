-- The conditions on a plan and a certificate that a search has to meet, and which of them speak of its answer alone.
use Rattle.std.specs.Prelude.{◌≡◌, ℕ, ◌<◌, ◌≤◌, ℤ, pos, ◌≤ℤ◌, List, take, length}
use Rattle.shunt_instance.specs.defs.Instance.{Night}
use Rattle.shunt_blocks.specs.declared.records.Block.{Block}
use Rattle.shunt_blocks.specs.defs.Lists.{IsFeasible, placed, total_cost}
use Rattle.shunt_blocks.specs.defs.Pins.{Keeps, opening_cost}
use Rattle.shunt_blocks.specs.defs.Polished.{IsPolished}
use Rattle.shunt_choices.specs.defs.Paths.{AreInOrder}
use Rattle.shunt_choices.specs.defs.Choices.{partial_plans}
use Rattle.shunt_plan.specs.declared.records.Plan.{Plan}
use Rattle.shunt_dual.specs.defs.Assignments.{IsAssignmentBound}
use Rattle.shunt_proof.specs.declared.records.NodeKind.TheVariants.{Whole}
use Rattle.shunt_proof.specs.declared.records.Node.{Node}
use Rattle.shunt_proof.specs.declared.records.Certificate.{Certificate}
use Rattle.shunt_proof.specs.declared.recorder.RecordError.{RecordError}
use Rattle.shunt_proof.specs.declared.recorder.RecordError.TheVariants as record_errors
use Rattle.shunt_proof.specs.defs.Nodes.{node_at}
use Rattle.shunt_proof.specs.defs.Trees.{IsStart, path_at, duals_at}
use Rattle.shunt_proof.specs.defs.Versions.{IsBoundIn}
use Rattle.shunt_proof.specs.defs.Proves.{ProvesIn}
use Rattle.shunt_proof.specs.defs.Accepted.{IsAccepted}
use Rattle.shunt_search.specs.declared.solved.Solved.{Solved}
use Rattle.shunt_search.specs.declared.solved.SolveError.{SolveError}
use Rattle.shunt_search.specs.declared.solved.SolveError.TheVariants as errors
use Rattle.shunt_search.specs.defs.Steady.{KeepBounds}

-- 1: the plan is feasible, keeps the pins and states its cost
pub record IsPlanFor (night : Night) (pins : List Block) (plan : Plan) : Type 0 where
  pub feasible : IsFeasible night plan.blocks
  pub keeps : Keeps plan.blocks pins
  pub states : plan.cost ≡ total_cost night plan.blocks

-- the blocks stand in the order of their first units, and their ids are their places
pub record AreNumbered (night : Night) (blocks : List Block) : Type 0 where
  pub order : AreInOrder night blocks
  pub ids : blocks ≡ placed blocks

-- 2: it is polished, and its ids count from 1 in the order of first units
pub record IsTidy (night : Night) (pins : List Block) (plan : Plan) : Type 0 where
  pub polished : IsPolished night pins plan.blocks
  pub numbered : AreNumbered night plan.blocks

-- 3: it costs at most the opening cost of the pins, and at most each whole path among the nodes
pub record IsCheap (night : Night) (pins : List Block) (plan : Plan) (nodes : List Node) : Type 0 where
  pub opening : total_cost night plan.blocks ≤ opening_cost night pins
  pub wholes : (start : List Block) (k : ℕ) → IsStart night pins start → k < length nodes → (node_at nodes k).kind ≡ Whole
      → total_cost night plan.blocks ≤ total_cost night (path_at night start nodes k)

-- 5: the bound is at least the assignment bound
pub record IsAboveAssignment (night : Night) (bound : ℕ) : Type 0 where
  pub assignment : ℕ
  pub is : IsAssignmentBound night assignment
  pub above : assignment ≤ bound

-- 6, 7 and 8: at most that many nodes, and exactly that many where the bound is below the cost; it isn't where there are fewer partial plans
pub record AreSpent (night : Night) (pins : List Block) (most nodes cost bound : ℕ) : Type 0 where
  pub few : nodes ≤ most
  pub all : bound < cost → nodes ≡ most
  pub optimal : partial_plans night pins < most → bound ≡ cost

-- the bound is at least that of the pins' path by the root's cases, in the certificate's version, so nodes below never give away what the root bounds
abbrev pub IsAboveRoot : Night → List Block → Certificate → Type 0
IsAboveRoot night pins c = (start : List Block) (bound : ℤ) → IsStart night pins start → IsBoundIn c.version night start (duals_at c.nodes 0) bound → bound ≤ℤ pos c.bound

-- no node gives away a bound: the cases of each branch keep what its parent's bound, and each bound up to the cost that the first of the
-- nodes prove by themselves is at most the certificate's
pub record AreSteady (night : Night) (pins : List Block) (c : Certificate) : Type 0 where
  pub keep : (start : List Block) → IsStart night pins start → KeepBounds c.version night start c.nodes c.cost
  pub fronts : (start : List Block) (m : ℕ) (L : ℤ) → IsStart night pins start → 1 ≤ m → L ≤ℤ pos c.cost → ProvesIn c.version night start (take m c.nodes) L 0 → L ≤ℤ pos c.bound

-- the eight conditions on a plan and a certificate, with at most that many nodes; and the bound isn't below the root's, nor below what the
-- first of the nodes prove
pub record MeetConditions (night : Night) (pins : List Block) (most : ℕ) (plan : Plan) (c : Certificate) : Type 0 where
  pub plan_for : IsPlanFor night pins plan
  pub tidy : IsTidy night pins plan
  pub cheap : IsCheap night pins plan c.nodes
  pub accepted : IsAccepted night pins plan.blocks plan.cost c
  pub above : IsAboveAssignment night c.bound
  pub above_root : IsAboveRoot night pins c
  pub steady : AreSteady night pins c
  pub spent : AreSpent night pins most (length c.nodes) c.cost c.bound

-- those that speak of no node: 1, 2 and 5 to 8
pub record MeetsConditions (night : Night) (pins : List Block) (most : ℕ) (s : Solved) : Type 0 where
  pub plan_for : IsPlanFor night pins s.plan
  pub tidy : IsTidy night pins s.plan
  pub cost : s.cost ≡ s.plan.cost
  pub above : IsAboveAssignment night s.bound
  pub spent : AreSpent night pins most s.nodes s.cost s.bound

-- no feasible plan that keeps the pins costs less
abbrev pub IsBoundForPlans : Night → List Block → ℕ → Type 0
IsBoundForPlans night pins bound = (blocks : List Block) → IsFeasible night blocks → Keeps blocks pins → bound ≤ total_cost night blocks

-- what a search answers where a recorder refused
abbrev pub search_error : RecordError → SolveError
search_error record_errors.Fault = errors.Recorder
search_error record_errors.Memory = errors.Memory
