use Rattle.shunt_stacks.specs.defs.Bounds.{IsStackSum}
use Rattle.shunt_fillings.specs.defs.Prospects.{AreSums}
use Rattle.shunt_fillings.proofs.sums.stack_sums.Given as goal

abbrev pub invariant-loop-k : goal.invariant-loop-k
invariant-loop-k l = AreSums (IsStackSum l.scene.instance.now l.scene.path.now.blocks l.cases) l.k l.sums.items
