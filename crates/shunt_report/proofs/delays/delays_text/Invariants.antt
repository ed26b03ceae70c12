use Rattle.std.proofs.Common.{◌≡◌, take}
use Rattle.std.specs.List.{flat_map}
use Rattle.shunt_report.specs.defs.DelaysTexts.{delay_line}
use Rattle.shunt_report.proofs.delays.delays_text.Given as goal

abbrev pub invariant-loop-delay : goal.invariant-loop-delay
invariant-loop-delay l = record {
  done : l.text ≡ flat_map (delay_line l.instance) (take l.delay-index l.delays.items);
}
