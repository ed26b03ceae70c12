use Rattle.std.proofs.Common.{◌≡◌}
use Rattle.shunt_report.specs.defs.Texts.{pair_lines}
use Rattle.shunt_report.proofs.matched.pairs_text.Given as goal

abbrev pub invariant-loop-u : goal.invariant-loop-u
invariant-loop-u l = l.text ≡ pair_lines l.instance l.matching.place_of l.u
