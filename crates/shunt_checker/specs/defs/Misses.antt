-- Choices that a branch would have to list.
use Rattle.std.specs.Prelude.{◌≡◌, ℕ, ◌+◌, ◌*◌, ◌<◌, ◌≤◌, length, List, Option, Some, None}
use Rattle.shunt_base.specs.declared.duals.Case.{Case}
use Rattle.shunt_base.specs.declared.ids.Side.{Side}
use Rattle.shunt_base.specs.declared.ids.Side.TheVariants.{A, B}
use Rattle.shunt_instance.specs.defs.Instance.{Night}
use Rattle.shunt_blocks.specs.declared.records.Block.{Block}
use Rattle.shunt_blocks.specs.declared.records.Park.{Park}
use Rattle.shunt_blocks.specs.defs.Blocks.{IsOption}
use Rattle.shunt_blocks.specs.defs.Lists.{RunsThrough, placed}
use Rattle.shunt_choices.specs.defs.Paths.{IsTrailOf}
use Rattle.shunt_choices.specs.defs.Choices.{Choice as PathChoice, longer_by}
use Rattle.shunt_prices.specs.defs.Sums.{IsWithin}
use Rattle.shunt_prices.specs.defs.Limits.{AreCases}
use Rattle.shunt_prices.specs.defs.Bounds.{case_sum, unparked_in}
use Rattle.shunt_proof.specs.declared.records.Node.{Node}
use Rattle.shunt_proof.specs.declared.records.Version.{Version}
use Rattle.shunt_proof.specs.defs.Nodes.{AreNodes}
use Rattle.shunt_checker.specs.declared.missed_choices.Branch.{Branch}
use Rattle.shunt_checker.specs.defs.Children.{HasChild, said}
use Rattle.shunt_checker.specs.defs.Lows.{IsLowBy}

-- an option of its shape, which gives a partial plan with a bound below L by these cases, and which the node with a number doesn't list
pub record IsMissed (version : Version) (night : Night) (path : List Block) (cases : List Case) (nodes : List Node) (k L : ℕ) (c : PathChoice) : Type 0 where
  pub option : IsOption night c.shape c.option
  pub low : IsLowBy version night path cases L c
  pub unlisted : HasChild nodes k (said c) → ⊥
  pub through : RunsThrough night (placed (longer_by path c))

-- the path, the cases and the nodes of a branch are the night's, and the sums are those of its first and its last case
pub record IsLook (night : Night) (b : Branch) : Type 0 where
  pub path : IsTrailOf night b.path.now
  pub cases : AreCases night b.cases.now
  pub last_is : b.last + 1 ≡ length b.cases.now
  pub unparked : b.unparked ≡ unparked_in b.path.now.blocks
  pub few : length b.path.now.blocks ≤ 160
  pub few_unparked : b.unparked ≤ 160
  pub first : b.first_sum ≡ case_sum night b.path.now.blocks b.cases.now 0
  pub first_small : IsWithin 4010000000000000000 b.first_sum
  pub last : b.last_sum ≡ case_sum night b.path.now.blocks b.cases.now b.last
  pub last_small : IsWithin 4010000000000000000 b.last_sum
  pub nodes : AreNodes night b.nodes.now
  pub there : b.node < length b.nodes.now
  pub stated : b.stated ≤ 1000000000000

-- the places of the options: unparked, and then each track with its pairs of sides
abbrev pub side_number : Side → ℕ
side_number A = 0
side_number B = 1

abbrev pub option_number : Option Park → ℕ
option_number None = 0
option_number (Some k) = 4 * k.track.0 + 2 * side_number k.side_in + side_number k.side_out + 1
