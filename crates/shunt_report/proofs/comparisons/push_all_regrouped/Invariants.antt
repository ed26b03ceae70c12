use Rattle.std.proofs.Common.{◌≡◌, ◌++◌, take}
use Rattle.std.specs.List.{flat_map}
use Rattle.shunt_report.specs.defs.ComparisonTexts.{regrouped_line}
use Rattle.shunt_report.proofs.comparisons.push_all_regrouped.Given as goal

abbrev pub invariant-loop-block : goal.invariant-loop-block
invariant-loop-block l = record {
  done : l.text ≡ l.fn.text ++ flat_map (regrouped_line l.instance) (take l.block-index l.blocks);
}
