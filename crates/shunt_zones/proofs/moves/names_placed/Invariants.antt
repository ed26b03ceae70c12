use Rattle.std.proofs.Common.{◌≡◌, drop}
use Rattle.shunt_zones.specs.defs.Moves.{names_placed}
use Rattle.shunt_zones.proofs.moves.names_placed.Given as goal

-- what is left says what all say
abbrev pub invariant-loop-block : goal.invariant-loop-block
invariant-loop-block l = names_placed l.instance (drop l.block-index l.blocks) l.id ≡ names_placed l.instance l.blocks l.id
