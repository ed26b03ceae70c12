-- What a search has found and is writing, and over which contents an answer is meant.
use Rattle.std.specs.Prelude.{◌≡◌, ℕ, ◌≤◌, List, length, Option, Result}
use Rattle.shunt_store.specs.defs.Files.{Files, Stage, Writing, content}
use Rattle.shunt_instance.specs.defs.Instance.{Night}
use Rattle.shunt_blocks.specs.declared.records.Block.{Block}
use Rattle.shunt_proof.specs.declared.records.Node.{Node}
use Rattle.shunt_proof.specs.declared.records.Version.TheVariants.{Prices}
use Rattle.shunt_proof.specs.defs.Certificates.{IsCertificate}
use Rattle.shunt_search.specs.declared.solved.Solved.{Solved}
use Rattle.shunt_search.specs.defs.Conditions.{MeetConditions}
use Rattle.shunt_search.specs.defs.Endings.{certificate_in}
use Rattle.shunt_inputs.specs.defs.Inputs.{Agrees, stated_night, pinned_in}
use Rattle.shunt_inputs.specs.defs.Replies.{Reply, Decided}
use Rattle.shunt_planning.specs.defs.Planned.{IsPinned, IsSought, certificate_file}
use Rattle.shunt_planning.specs.defs.Improved.{IsImproved, in_hand_in}

-- the reply is such an answer over what the files hold, where that is told, or else over some contents of all files
abbrev pub IsOverTold : {X : Type 0} → Option Files → (Files → Result X (List ℕ)) → (X → Reply → Type 0) → Reply → Type 0
IsOverTold told in_files P r = (files : Files) × Agrees told files × Decided (in_files files) P r

-- the night that the station file and the timetable file of these names state
abbrev pub night_in : List ℕ → List ℕ → Files → Result Night (List ℕ)
night_in s t files = stated_night (content files s) (content files t)

-- the reply is the answer of `plan`
abbrev pub IsPlannedOver : Option Files → List ℕ → List ℕ → ℕ → List ℕ → List ℕ → Reply → Type 0
IsPlannedOver told s t most p k r = IsOverTold told (night_in s t) (IsSought most p k) r

-- the reply is the answer of `pinned`
abbrev pub IsPinnedOver : Option Files → List ℕ → List ℕ → List ℕ → ℕ → List ℕ → List ℕ → Reply → Type 0
IsPinnedOver told s t i most p k r = IsOverTold told (pinned_in s t i) (IsPinned most p k) r

-- the reply is the answer of `improve`
abbrev pub IsImprovedOver : Option Files → List ℕ → List ℕ → List ℕ → List ℕ → ℕ → List ℕ → List ℕ → Reply → Type 0
IsImprovedOver told s t i h most p k r = IsOverTold told (in_hand_in s t i h) (IsImproved most p k) r

-- what a search found: with its nodes the certificate whose text was written whole under this name and isn't stored yet, which meets
-- the eight conditions with the plan; with at most 16 nodes it is of version 1
pub record IsFound (night : Night) (pins : List Block) (most : ℕ) (name : List ℕ) (place : Stage) (s : Solved) : Type 0 where
  pub nodes : List Node
  pub many : s.nodes ≡ length nodes
  pub statable : IsCertificate night (certificate_in s.version s.plan s.bound nodes)
  pub meet : MeetConditions night pins most s.plan (certificate_in s.version s.plan s.bound nodes)
  pub few : most ≤ 16 → s.version ≡ Prices
  pub written : place ≡ Writing name (certificate_file night (certificate_in s.version s.plan s.bound nodes))
