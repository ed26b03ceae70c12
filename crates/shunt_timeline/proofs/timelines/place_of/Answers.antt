use Rattle.std.proofs.Common.{rules}
use Rattle.std.specs.Prelude.{nat_lt}
use Rattle.std.proofs.lemmas.List.Sorted.{IsPartitionPoint-from_clause}
use Rattle.shunt_timeline.proofs.Ids.{parted_ids, ids_before, ids_after}
use Rattle.shunt_timeline.proofs.timelines.place_of.Goals as goal

pub returns-clause-before : goal.returns-clause-before
returns-clause-before c = ids_before c.args.stays.now c.args.id c.partition_point.result
    (IsPartitionPoint-from_clause (λ s. nat_lt s.id c.args.id) _ _ c.partition_point.ensures.partitioned (parted_ids c.args.stays.now c.args.id c.requires)
    (λ a r q k. search rules))

pub returns-clause-after : goal.returns-clause-after
returns-clause-after c = ids_after c.args.stays.now c.args.id c.partition_point.result
    (IsPartitionPoint-from_clause (λ s. nat_lt s.id c.args.id) _ _ c.partition_point.ensures.partitioned (parted_ids c.args.stays.now c.args.id c.requires)
    (λ a r q k. search rules))
