use Rattle.std.specs.Prelude.{All, map, not}
use Rattle.std.specs.List.{filter, range_with_len}
use Rattle.std.proofs.Common.{◌≡◌}
use Rattle.shunt_instance.specs.defs.Words.{train_at, has_come}
use Rattle.shunt_delay.specs.defs.Delays.{IsDelay}
use Rattle.shunt_delay.specs.defs.Kept.{AreAll}
use Rattle.shunt_delay.proofs.bearable_delays.delays_of_blocks.Given as goal

abbrev pub invariant-loop-index : goal.invariant-loop-index
invariant-loop-index l = record {
  all : AreAll l.instance l.blocks l.timelines;
  trains : map (λ d. d.train.0) l.delays.items ≡ filter (λ i. not (has_come (train_at l.instance.arrive i))) (range_with_len 0 l.index);
  each : All (IsDelay l.instance l.blocks) l.delays.items;
}
