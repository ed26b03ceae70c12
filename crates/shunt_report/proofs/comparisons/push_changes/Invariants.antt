use Rattle.std.proofs.Common.{◌≡◌, ◌++◌, take}
use Rattle.std.specs.List.{flat_map}
use Rattle.shunt_report.specs.defs.ComparisonTexts.{change_line}
use Rattle.shunt_report.proofs.comparisons.push_changes.Given as goal

abbrev pub invariant-loop-change : goal.invariant-loop-change
invariant-loop-change l = record {
  done : l.text ≡ l.fn.text ++ flat_map (change_line l.instance) (take l.change-index l.changes);
}
