-- What a search finds, with its nodes in memory.
use Rattle.std.specs.Prelude.{◌≡◌, ◌⊎◌, ◌<◌, ◌≤◌, ℕ, pos, ◌≤ℤ◌, List, length, Some}
use Rattle.shunt_base.specs.declared.duals.Case.{Case}
use Rattle.shunt_instance.specs.defs.Instance.{Night}
use Rattle.shunt_blocks.specs.declared.records.Block.{Block}
use Rattle.shunt_proof.specs.declared.records.Version.TheVariants.{Prices, Stacks}
use Rattle.shunt_proof.specs.defs.Certificates.{case_total}
use Rattle.shunt_search.specs.declared.memory_search.KeptWalk.{KeptWalk}
use Rattle.shunt_search.specs.declared.memory_search.Found.{Found}
use Rattle.shunt_search.specs.defs.SearchStates.{IsSearch}
use Rattle.shunt_search.specs.defs.Endings.{IsLeft, IsDone}

-- a walk over pins whose nodes are kept: it is done with these, where so many are allowed, and this is the bound that it leaves
pub record IsKept (night : Night) (pins : List Block) (most : ℕ) (w : KeptWalk) : Type 0 where
  pub stock : List (List Case)
  pub search : IsSearch w.version night pins stock (Some w.nodes) (length w.nodes) (case_total w.nodes) w.search.waiting.items w.search
  pub few : length w.nodes ≤ most
  pub done : IsDone (length w.nodes) most w.search.waiting.items w.search.known.cost w.search.low
  pub left : IsLeft w.search.waiting.items w.search.low (pos w.bound)

-- the first walk of a search: by prices, and done with 16 nodes, or with as many as are allowed where these are fewer
pub record IsFirst (night : Night) (pins : List Block) (most : ℕ) (w : KeptWalk) : Type 0 where
  pub nodes : ℕ
  pub few : nodes ≤ 16
  pub within : nodes ≤ most
  pub all : (nodes ≡ most) ⊎ (nodes ≡ 16)
  pub kept : IsKept night pins nodes w
  pub by_prices : w.version ≡ Prices

-- a walk with stacks over pins, done with so many nodes, bounds less than this
pub record IsLowerWithStacks (night : Night) (pins : List Block) (most first : ℕ) : Type 0 where
  pub walk : KeptWalk
  pub kept : IsKept night pins most walk
  pub with_stacks : walk.version ≡ Stacks
  pub less : walk.bound < first

-- what a search over pins with at most so many nodes found: a walk that is done with these, and bounds no less than the first walk's root;
-- with at most 16 nodes it bounds what the first walk did, and with stacks no less; with more it is by prices only where it is over, or
-- where stacks bound less than the first walk did
pub record IsFound (night : Night) (pins : List Block) (most : ℕ) (f : Found) : Type 0 where
  pub kept : IsKept night pins most f.walk
  pub before : KeptWalk
  pub first : IsFirst night pins most before
  pub bound : before.bound ≡ f.first
  pub floor : before.search.floor ≤ℤ pos f.walk.bound
  pub few : most ≤ 16 → (f.walk.version ≡ Prices) × (f.walk.bound ≡ f.first)
  pub with_stacks : f.walk.version ≡ Stacks → f.first ≤ f.walk.bound
  pub by_prices : 16 < most → f.walk.version ≡ Prices → (f.walk.search.known.cost ≤ f.walk.bound) ⊎ IsLowerWithStacks night pins most f.first
