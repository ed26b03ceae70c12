use Rattle.std.proofs.Common.{◌≡◌, ◌+◌, ◌<◌, length}
use Rattle.std.specs.List.{All}
use Rattle.shunt_base.specs.declared.keys.Stay.{Stay}
use Rattle.shunt_tables.proofs.timelines.are_many_counted.Given as goal

abbrev pub invariant-loop-number : goal.invariant-loop-number
invariant-loop-number l = record {
  above : All (λ (s : Stay). s.id < l.number) l.timelines.stays;
  count : length l.timelines.stays ≡ l.number;
  lengths : length l.timelines.lengths ≡ 60;
  spare : l.timelines.spare + l.number ≡ 30001;
}
