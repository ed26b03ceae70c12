use Rattle.std.proofs.Common.{◌≡◌, map}
use Rattle.std.specs.List.{range_with_len}
use Rattle.shunt_matching.specs.defs.Counts.{first_fit_at}
use Rattle.shunt_matching.proofs.ranks.fitted.Given as goal

abbrev pub invariant-loop-u : goal.invariant-loop-u
invariant-loop-u g l = l.place.items ≡ map (first_fit_at (g.U.Entries.entries l.us) (g.V.Entries.entries l.vs) l.um l.vm) (range_with_len 0 l.u)
