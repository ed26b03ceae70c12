-- What a stack gains beside a shape that comes to a path as a block of it.
use Rattle.std.specs.Prelude.{◌≡◌, ℤ, true, List, [], ◌∷◌, ◌++◌}
use Rattle.shunt_lists.specs.defs.Members.{In}
use Rattle.shunt_base.specs.declared.duals.Case.{Case}
use Rattle.shunt_instance.specs.defs.Instance.{Night}
use Rattle.shunt_blocks.specs.declared.records.Shape.{Shape}
use Rattle.shunt_blocks.specs.declared.records.Block.{Block}
use Rattle.shunt_blocks.specs.defs.Shapes.{shape_of}
use Rattle.shunt_prices.specs.defs.Sums.{IsWithin}
use Rattle.shunt_stacks.specs.defs.Stacks.{Stack, is_of}
use Rattle.shunt_stacks.specs.defs.Fillings.{IsStackGain}
use Rattle.shunt_gains.specs.declared.table.Table.{Table}
use Rattle.shunt_gains.specs.defs.Events.{events_in}
use Rattle.shunt_gains.specs.defs.Tables.{IsTableOf}
use Rattle.shunt_fillings.specs.declared.besides.Beside.{Beside}
use Rattle.shunt_fillings.specs.declared.candidates.Candidate.{Candidate}
use Rattle.shunt_fillings.specs.declared.scenes.Scene.{Scene}
use Rattle.shunt_fillings.specs.defs.Pieces.{fixed_of_stack, spans_with}
use Rattle.shunt_fillings.specs.defs.Scenes.{MayCome}

-- the table of a stack at a scene's path, by its candidates there
abbrev pub IsTableAt : Scene → Stack → List Candidate → Table → Type 0
IsTableAt s stack candidates t = IsTableOf (fixed_of_stack s.instance.now s.events.now s.path.now.blocks stack) (spans_with s.instance.now s.events.now candidates)
    (events_in s.events.now) t

-- a stack gains so much at the longer path, whichever block of this shape and of the stack may come to a path
abbrev pub IsGainBeside : Night → List Block → Case → Stack → Shape → ℤ → Type 0
IsGainBeside night path c stack shape most = (b : Block) → shape_of b ≡ shape → is_of stack b.park ≡ true → MayCome night path b → IsStackGain night (path ++ b ∷ []) c stack most

-- shapes with what the stack gains beside them
abbrev pub AreBesides : Night → List Block → Case → Stack → List Beside → Type 0
AreBesides night path c stack besides = (k : Beside) → In k besides → IsGainBeside night path c stack k.shape k.gain × IsWithin 1280000000000000000 k.gain
