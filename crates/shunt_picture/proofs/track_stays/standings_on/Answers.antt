use Rattle.std.proofs.Common.{arith}
use Rattle.std.proofs.lemmas.Grind.{common_steps}
use Rattle.std.proofs.lemmas.List.Elements.{filter_map-append}
use Rattle.shunt_picture.proofs.track_stays.standings_on.Goals as goal

pub loop-block-preserved : goal.loop-block-preserved
loop-block-preserved c = record { exact = grind (arith, common_steps, filter_map-append); few = grind (arith, common_steps) }
