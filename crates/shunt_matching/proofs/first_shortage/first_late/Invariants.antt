use Rattle.std.proofs.Common.{ℕ, ◌<◌}
use Rattle.shunt_matching.specs.defs.Shortages.{IsEnoughBy}
use Rattle.shunt_matching.proofs.first_shortage.first_late.Given as goal

abbrev pub invariant-loop-kind : goal.invariant-loop-kind
invariant-loop-kind g l = (k m : ℕ) → k < l.kind → IsEnoughBy (g.U.Entries.entries l.us) (g.V.Entries.entries l.vs) l.um l.vm k m
