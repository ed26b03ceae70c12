-- What is wrong with a plan, and what of it comes first.
use Rattle.std.specs.Prelude.{◌≡◌, ◌≢◌, ◌⊎◌, ℕ, ◌<◌, List, Err}
use Rattle.shunt_lists.specs.defs.Members.{In}
use Rattle.shunt_stays.specs.defs.Events.{Move}
use Rattle.shunt_stays.specs.defs.Run.{Stop, run_of}
use Rattle.shunt_stays.specs.defs.Run.Stop.{Blocked, Over}
use Rattle.shunt_instance.specs.defs.Instance.{Night, unit_total, position_total}
use Rattle.shunt_blocks.specs.declared.records.Block.{Block}
use Rattle.shunt_blocks.specs.defs.Blocks.{IsBlock}
use Rattle.shunt_blocks.specs.defs.Lists.{times_unit, times_position, track_lengths, stays_of, total_cost}
use Rattle.shunt_plan.specs.declared.records.Plan.{Plan}
use Rattle.shunt_checker.specs.declared.verdict.PlanFault.{PlanFault}
use Rattle.shunt_checker.specs.declared.verdict.PlanFault.TheVariants as fault

-- one of these blocks has this id and isn't a shape with one of its options
pub record HasBadBlock (night : Night) (blocks : List Block) (id : ℕ) : Type 0 where
  pub block : Block
  pub there : In block blocks
  pub named : block.id ≡ id
  pub bad : IsBlock night block → ⊥

-- the run of these blocks' stays ends so
abbrev pub StopsBy : Night → List Block → Stop → Type 0
StopsBy night blocks stop = run_of (track_lengths night.station) (stays_of night blocks) ≡ Err stop

-- it ends at a leave of the block with this id, which isn't at its side
pub record EndsBlocked (night : Night) (blocks : List Block) (id : ℕ) : Type 0 where
  pub move : Move
  pub stops : StopsBy night blocks (Blocked move)
  pub named : move.key.id ≡ id

-- it ends at an entry of the block with this id, which would leave this load
pub record EndsOver (night : Night) (blocks : List Block) (id load : ℕ) : Type 0 where
  pub move : Move
  pub stops : StopsBy night blocks (Over move load)
  pub named : move.key.id ≡ id

-- what is wrong with a plan: a block that isn't one; a unit or a position that isn't in exactly one block; the first event that can't
-- be done; a stated cost that isn't its own
abbrev pub IsPlanFault : Night → Plan → PlanFault → Type 0
IsPlanFault night plan (fault.BadBlock id) = HasBadBlock night plan.blocks id
IsPlanFault night plan (fault.Unit u) = (u < unit_total night) × (times_unit night plan.blocks u ≢ 1)
IsPlanFault night plan (fault.Place v) = (v < position_total night) × (times_position night plan.blocks v ≢ 1)
IsPlanFault night plan (fault.Blocked id) = EndsBlocked night plan.blocks id
IsPlanFault night plan (fault.Over id load) = EndsOver night plan.blocks id load
IsPlanFault night plan (fault.Cost stated real) = (stated ≡ plan.cost) × (real ≡ total_cost night plan.blocks) × (stated ≢ real)

-- the order of the kinds
abbrev pub plan_rank : PlanFault → ℕ
plan_rank (fault.BadBlock id) = 1
plan_rank (fault.Unit u) = 2
plan_rank (fault.Place v) = 3
plan_rank (fault.Blocked id) = 4
plan_rank (fault.Over id load) = 4
plan_rank (fault.Cost stated real) = 5

-- the id, the unit or the position; of the first event and of the cost there is one at most
abbrev pub plan_number : PlanFault → ℕ
plan_number (fault.BadBlock id) = id
plan_number (fault.Unit u) = u
plan_number (fault.Place v) = v
plan_number (fault.Blocked id) = 0
plan_number (fault.Over id load) = 0
plan_number (fault.Cost stated real) = 0

-- by kind, then by number
abbrev pub PlanFaultBefore : PlanFault → PlanFault → Type 0
PlanFaultBefore f g = (plan_rank f < plan_rank g) ⊎ ((plan_rank f ≡ plan_rank g) × (plan_number f < plan_number g))

-- no fault of the plan comes before it
pub record IsFirstPlanFault (night : Night) (plan : Plan) (f : PlanFault) : Type 0 where
  pub is : IsPlanFault night plan f
  pub first : (g : PlanFault) → IsPlanFault night plan g → PlanFaultBefore g f → ⊥

-- nothing is wrong with the plan
abbrev pub IsPlanSound : Night → Plan → Type 0
IsPlanSound night plan = (f : PlanFault) → IsPlanFault night plan f → ⊥
