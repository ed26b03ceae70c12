-- What a run that stopped says of a plan, and the least of some ids.
use Rattle.std.specs.Prelude.{◌≢◌, ℕ, ◌<◌, ◌≤◌, nat_le, Bool, true, false, if◌then◌else◌, List, Option, Some, None}
use Rattle.shunt_instance.specs.defs.Instance.{Night, unit_total, position_total}
use Rattle.shunt_blocks.specs.declared.records.Block.{Block}
use Rattle.shunt_blocks.specs.defs.Lists.{times_unit, times_position}
use Rattle.shunt_tracks.specs.declared.run.Ran.{Ran}
use Rattle.shunt_tracks.specs.declared.run.Ran.TheVariants as ran
use Rattle.shunt_plan.specs.declared.records.Plan.{Plan}
use Rattle.shunt_checker.specs.declared.verdict.PlanFault.{PlanFault}
use Rattle.shunt_checker.specs.declared.verdict.PlanFault.TheVariants as fault
use Rattle.shunt_checker.specs.defs.PlanFaults.{IsPlanFault, plan_rank}

-- the lesser number comes first
abbrev pub Less : ℕ → ℕ → Type 0
Less a b = a < b

-- the lesser of an id that may be there and one more
abbrev pub lesser : Option ℕ → ℕ → ℕ
lesser None id = id
lesser (Some least) id = if nat_le least id then least else id

-- a unit that isn't in exactly one block; and a position
pub record IsUnitFault (night : Night) (blocks : List Block) (u : ℕ) : Type 0 where
  pub there : u < unit_total night
  pub other : times_unit night blocks u ≢ 1

pub record IsPlaceFault (night : Night) (blocks : List Block) (v : ℕ) : Type 0 where
  pub there : v < position_total night
  pub other : times_position night blocks v ≢ 1

-- whether a run went through
abbrev pub is_through : Ran → Bool
is_through (ran.Through steps) = true
is_through (ran.Blocked event) = false
is_through (ran.Over event load) = false

-- what a run that stopped says
abbrev pub stop_fault : Ran → Option PlanFault
stop_fault (ran.Through steps) = None
stop_fault (ran.Blocked event) = Some (fault.Blocked event.key.id)
stop_fault (ran.Over event load) = Some (fault.Over event.key.id load)

-- what is wrong with a plan is of this kind or a later one
abbrev pub From : Night → Plan → ℕ → Type 0
From night plan rank = (g : PlanFault) → IsPlanFault night plan g → rank ≤ plan_rank g
