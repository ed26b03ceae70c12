-- Paths with the stays of their blocks, and the choices that are worth a node.
use Rattle.std.specs.Prelude.{◌≡◌, ◌⊎◌, ℕ, ◌+◌, ◌≤◌, ℤ, pos, ◌<ℤ◌, All, List, ◌++◌, ◌∷◌, [], length, map}
use Rattle.shunt_lists.specs.defs.Members.{In, AreDistinct}
use Rattle.shunt_base.specs.declared.duals.Case.{Case}
use Rattle.shunt_instance.specs.defs.Instance.{Night, unit_total}
use Rattle.shunt_blocks.specs.declared.records.Block.{Block}
use Rattle.shunt_blocks.specs.defs.Shapes.{shape_of}
use Rattle.shunt_blocks.specs.defs.Blocks.{IsBlockButId}
use Rattle.shunt_blocks.specs.defs.Lists.{RunsThrough, placed}
use Rattle.shunt_choices.specs.defs.Paths.{IsTrailOf}
use Rattle.shunt_choices.specs.defs.Choices.{Choice, IsChoiceAt, longer_by}
use Rattle.shunt_proof.specs.declared.records.Version.{Version}
use Rattle.shunt_proof.specs.defs.Versions.{IsStepBoundIn, StepReachesIn}
use Rattle.shunt_search.specs.declared.yard.Yard.{Yard}
use Rattle.shunt_search.specs.declared.child.Child.{Child}
use Rattle.shunt_search.specs.defs.Polish.{Stand}

-- the path is one of the night's blocks whose run goes through, the timelines have the stay of each of them, with the block's place as
-- id, and there is room for one of each unit
pub record IsYard (night : Night) (y : Yard) : Type 0 where
  pub path : IsTrailOf night y.path
  pub each : All (IsBlockButId night) y.path.blocks
  pub through : RunsThrough night (placed y.path.blocks)
  pub pins : y.path.pins ≤ length y.path.blocks
  pub stand : Stand night (placed y.path.blocks) y.timelines
  pub room : unit_total night ≤ y.timelines.spare + length y.timelines.stays

-- the choice of a block
abbrev pub choice_of : Block → Choice
choice_of b = record { shape = shape_of b; option = b.park }

-- a path with a block more
abbrev pub more_by : List Block → Block → List Block
more_by path b = path ++ b ∷ []

-- the block of a choice at a path, with its place as id
pub record IsNextBlock (night : Night) (path : List Block) (b : Block) : Type 0 where
  pub choice : IsChoiceAt night path (choice_of b)
  pub id : b.id ≡ length path + 1

-- the block of a choice that gives a partial plan, whose bound by cases of a version is this one and below a cost
pub record IsOpen (version : Version) (night : Night) (path : List Block) (cases : List Case) (best : ℕ) (b : Block) (bound : ℤ) : Type 0 where
  pub next : IsNextBlock night path b
  pub through : RunsThrough night (placed (more_by path b))
  pub is : IsStepBoundIn version night path (more_by path b) cases bound
  pub below : bound <ℤ pos best

-- a choice gives no partial plan, or a bound that isn't below a cost
abbrev pub IsClosed : Version → Night → List Block → List Case → ℕ → Choice → Type 0
IsClosed version night path cases best c = RunsThrough night (placed (longer_by path c)) → StepReachesIn version night path (longer_by path c) cases (pos best)

-- a next block was tried: it is closed, or it is open and has become one of the children
abbrev pub IsTried : Version → Night → List Block → List Case → ℕ → Block → List Child → List Child → Type 0
IsTried version night path cases best b old new = (IsClosed version night path cases best (choice_of b) × (new ≡ old))
    ⊎ ((c : Child) × (c.block ≡ b) × IsOpen version night path cases best c.block c.bound × (new ≡ old ++ c ∷ []))

-- the choices of these children
abbrev pub choices_in : List Child → List Choice
choices_in children = map (λ c. choice_of c.block) children

-- of these choices at a path the children are those that give a partial plan with a bound below a cost, each once
pub record AreOpen (version : Version) (night : Night) (path : List Block) (cases : List Case) (best : ℕ) (tried : List Choice) (children : List Child) : Type 0 where
  pub among : (c : Child) → In c children → In (choice_of c.block) tried
  pub each : (c : Child) → In c children → IsOpen version night path cases best c.block c.bound
  pub others : (k : Choice) → In k tried → IsClosed version night path cases best k ⊎ In k (choices_in children)
  pub once : AreDistinct tried → AreDistinct (choices_in children)

-- the children of a path: of all choices at it those that give a partial plan with a bound below a cost, each once
pub record AreChildren (version : Version) (night : Night) (path : List Block) (cases : List Case) (best : ℕ) (children : List Child) : Type 0 where
  pub each : (c : Child) → In c children → IsOpen version night path cases best c.block c.bound
  pub others : (k : Choice) → IsChoiceAt night path k → IsClosed version night path cases best k ⊎ In k (choices_in children)
  pub once : AreDistinct (choices_in children)
