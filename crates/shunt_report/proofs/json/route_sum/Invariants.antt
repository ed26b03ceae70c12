use Rattle.std.proofs.Common.{◌≡◌, ◌≤◌, ◌*◌, take}
use Rattle.shunt_report.specs.defs.JsonTexts.{route_sum}
use Rattle.shunt_report.proofs.json.route_sum.Given as goal

abbrev pub invariant-loop-block : goal.invariant-loop-block
invariant-loop-block l = record {
  sum : l.sum ≡ route_sum l.instance (take l.block-index l.blocks);
  small : l.sum ≤ 2000000 * l.block-index;
}
