-- What a search has found when it ends.
use Rattle.std.specs.Prelude.{◌≡◌, ◌⊎◌, ℕ, ◌≤◌, ℤ, pos, ◌≤ℤ◌, List, length, Option, IfSome}
use Rattle.shunt_lists.specs.defs.Members.{In}
use Rattle.shunt_instance.specs.defs.Instance.{Night}
use Rattle.shunt_blocks.specs.declared.records.Block.{Block}
use Rattle.shunt_blocks.specs.defs.Lists.{total_cost}
use Rattle.shunt_blocks.specs.defs.Pins.{opening_cost}
use Rattle.shunt_plan.specs.declared.records.Plan.{Plan}
use Rattle.shunt_proof.specs.declared.records.Node.{Node}
use Rattle.shunt_proof.specs.declared.records.Version.{Version}
use Rattle.shunt_proof.specs.declared.records.Certificate.{Certificate}
use Rattle.shunt_proof.specs.defs.Certificates.{IsCertificate}
use Rattle.shunt_search.specs.declared.walk_stack.Pending.{Pending}
use Rattle.shunt_search.specs.defs.Conditions.{IsAboveAssignment, AreSpent, MeetConditions, IsBoundForPlans}

-- the least of the low bound and the bounds of the children that are left
pub record IsLeft (waiting : List Pending) (low bound : ℤ) : Type 0 where
  pub within : bound ≤ℤ low
  pub left : (t : Pending) → In t waiting → bound ≤ℤ t.child.bound
  pub least : (bound ≡ low) ⊎ ((t : Pending) × In t waiting × (bound ≡ t.child.bound))

-- what is left bounds no less than the best plan costs
abbrev pub IsOver : List Pending → ℕ → ℤ → Type 0
IsOver waiting best low = (bound : ℤ) → IsLeft waiting low bound → pos best ≤ℤ bound

-- a search is done: it has noted that many nodes, or it is over
abbrev pub IsDone : ℕ → ℕ → List Pending → ℕ → ℤ → Type 0
IsDone number most waiting best low = (number ≡ most) ⊎ IsOver waiting best low

-- nodes of a version with a plan's cost and a bound
abbrev pub certificate_in : Version → Plan → ℕ → List Node → Certificate
certificate_in version plan bound nodes = record { version = version; cost = plan.cost; bound = bound; nodes = nodes }

-- some nodes, that many, and those that are told where any are told, are with the plan's cost and the bound a certificate that a file can
-- state, and meet the conditions with the plan
pub record IsShownIn (version : Version) (night : Night) (pins : List Block) (most : ℕ) (plan : Plan) (b number : ℕ) (told : Option (List Node)) : Type 0 where
  pub nodes : List Node
  pub tells : IfSome told (λ now. now ≡ nodes)
  pub many : number ≡ length nodes
  pub stated : IsCertificate night (certificate_in version plan b nodes)
  pub meet : MeetConditions night pins most plan (certificate_in version plan b nodes)

-- the plan costs at most the opening cost, the bound is one for all plans, and what speaks of no node holds; the nodes that are told, where any are told, are a certificate that a
-- file can state, and meet the conditions
pub record IsEnd (version : Version) (night : Night) (pins : List Block) (most nodes : ℕ) (plan : Plan) (b : ℕ) (told : Option (List Node)) : Type 0 where
  pub opening : total_cost night plan.blocks ≤ opening_cost night pins
  pub above : IsAboveAssignment night b
  pub spent : AreSpent night pins most nodes plan.cost b
  pub for_plans : IsBoundForPlans night pins b
  pub within : b ≤ plan.cost
  pub certificate : IfSome told (λ ns. IsCertificate night (certificate_in version plan b ns) × MeetConditions night pins most plan (certificate_in version plan b ns))
  pub shown : IsShownIn version night pins most plan b nodes told
