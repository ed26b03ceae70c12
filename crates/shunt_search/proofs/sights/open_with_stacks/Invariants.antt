use Rattle.std.proofs.Common.{map, take}
use Rattle.shunt_proof.specs.declared.records.Version.TheVariants.{Stacks}
use Rattle.shunt_search.specs.defs.Yards.{choice_of, AreOpen}
use Rattle.shunt_search.proofs.sights.open_with_stacks.Given as goal

abbrev pub invariant-loop-block : goal.invariant-loop-block
invariant-loop-block l = AreOpen Stacks l.instance l.yard.path.blocks l.cases l.best (map choice_of (take l.block-index l.blocks)) l.children.items
