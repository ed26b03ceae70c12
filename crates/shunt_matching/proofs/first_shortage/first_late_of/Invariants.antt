use Rattle.shunt_matching.proofs.Lateness.{AreEnoughUpTo}
use Rattle.shunt_matching.proofs.first_shortage.first_late_of.Given as goal

abbrev pub invariant-loop-v : goal.invariant-loop-v
invariant-loop-v g l = AreEnoughUpTo (g.U.Entries.entries l.us) (g.V.Entries.entries l.vs) l.um l.vm l.kind l.v
