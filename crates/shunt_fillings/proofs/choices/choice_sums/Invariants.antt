use Rattle.shunt_stacks.specs.defs.Bounds.{IsChoiceSum}
use Rattle.shunt_fillings.specs.defs.Prospects.{AreSums}
use Rattle.shunt_fillings.proofs.choices.choice_sums.Given as goal

abbrev pub invariant-loop-k : goal.invariant-loop-k
invariant-loop-k l = AreSums (IsChoiceSum l.scene.instance.now l.scene.path.now.blocks l.block l.cases) l.k l.sums.items
