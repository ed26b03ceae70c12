use Rattle.shunt_fillings.specs.defs.Prospects.{AreOutlooks}
use Rattle.shunt_fillings.proofs.prospects.outlooks.Given as goal

abbrev pub invariant-loop-k : goal.invariant-loop-k
invariant-loop-k l = AreOutlooks l.scene.instance.now l.scene.path.now.blocks l.cases l.k l.all.items
