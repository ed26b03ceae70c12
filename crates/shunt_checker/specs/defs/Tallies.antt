-- What cases come to at paths with stacks, and what choices leave of it.
use Rattle.std.specs.Prelude.{◌≡◌, ℕ, ◌+◌, ◌≤◌, ◌<◌, ℤ, pos, neg_ℤ, ◌-ℤ◌, ◌≤ℤ◌, All, length, List}
use Rattle.shunt_base.specs.declared.duals.Case.{Case}
use Rattle.shunt_instance.specs.defs.Instance.{Night}
use Rattle.shunt_blocks.specs.declared.records.Block.{Block}
use Rattle.shunt_blocks.specs.defs.Blocks.{IsBlockButId}
use Rattle.shunt_blocks.specs.defs.Lists.{RunsThrough, placed}
use Rattle.shunt_choices.specs.defs.Paths.{IsTrailOf}
use Rattle.shunt_choices.specs.defs.Choices.{Choice as PathChoice, IsChoiceAt, longer_by, chosen}
use Rattle.shunt_prices.specs.defs.Sums.{IsWithin}
use Rattle.shunt_prices.specs.defs.Limits.{AreCases, case_at}
use Rattle.shunt_prices.specs.defs.Bounds.{unparked_in}
use Rattle.shunt_stacks.specs.defs.Fillings.{gain}
use Rattle.shunt_stacks.specs.defs.Bounds.{IsStackSum}
use Rattle.shunt_recount.specs.defs.Recounts.{IsRecountOf}
use Rattle.shunt_proof.specs.defs.Nodes.{AreNodes}
use Rattle.shunt_checker.specs.declared.sums.StackedSum.{StackedSum}
use Rattle.shunt_checker.specs.declared.omissions.Stacked.{Stacked}

-- it fits a signed number of 64 bits
pub record IsInWord (z : ℤ) : Type 0 where
  pub low : neg_ℤ (pos 9223372036854775808) ≤ℤ z
  pub high : z ≤ℤ pos 9223372036854775807

-- the sum with stacks at a path of the case with a number, and what the stacks gain there
pub record IsTally (night : Night) (path : List Block) (cases : List Case) (k : ℕ) (t : StackedSum) : Type 0 where
  pub sum : IsStackSum night path cases k t.sum
  pub small : IsWithin 4050000000000000000 t.sum
  pub counted : IsRecountOf night path (case_at cases k) t.counted

-- the sum with stacks at a path of the case with a number, less the gain of a choice there
pub record IsLone (night : Night) (path : List Block) (cases : List Case) (k : ℕ) (c : PathChoice) (lone : ℤ) : Type 0 where
  pub whole : ℤ
  pub is_whole : IsStackSum night path cases k whole
  pub is : lone ≡ whole -ℤ gain night (case_at cases k) (chosen (length path + 1) c)

-- a path of blocks with that of a choice there more, whose run goes through
pub record IsOneMore (night : Night) (front path : List Block) : Type 0 where
  pub choice : PathChoice
  pub there : IsChoiceAt night front choice
  pub is : path ≡ longer_by front choice
  pub through : RunsThrough night (placed path)
  pub each : All (IsBlockButId night) path

-- the path, the cases and the nodes of a branch with stacks are the night's, and the tallies are those of its first and its last case
pub record IsStackedLook (night : Night) (b : Stacked) : Type 0 where
  pub path : IsTrailOf night b.path.now
  pub through : RunsThrough night (placed b.path.now.blocks)
  pub cases : AreCases night b.cases.now
  pub last_is : b.last + 1 ≡ length b.cases.now
  pub unparked : b.unparked ≡ unparked_in b.path.now.blocks
  pub few : length b.path.now.blocks ≤ 160
  pub few_unparked : b.unparked ≤ 160
  pub early : IsTally night b.path.now.blocks b.cases.now 0 b.early.now
  pub late : IsTally night b.path.now.blocks b.cases.now b.last b.late.now
  pub nodes : AreNodes night b.nodes.now
  pub there : b.node < length b.nodes.now
  pub stated : b.stated ≤ 1000000000000
