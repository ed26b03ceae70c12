use Rattle.std.proofs.Common.{rules}
use Rattle.std.specs.Prelude.{nat_lt}
use Rattle.std.proofs.lemmas.List.Sorted.{IsPartitionPoint-from_clause}
use Rattle.shunt_moves.proofs.Places.{parted_ids, ids_before, ids_after}
use Rattle.shunt_moves.proofs.present.place_of.Goals as goal

pub returns-clause-before : goal.returns-clause-before
returns-clause-before c = ids_before c.args.blocks.now c.args.id c.partition_point.result
    (IsPartitionPoint-from_clause (λ b. nat_lt b.id c.args.id) _ _ c.partition_point.ensures.partitioned (parted_ids c.args.blocks.now c.args.id c.requires)
    (λ a r q k. search rules))

pub returns-clause-after : goal.returns-clause-after
returns-clause-after c = ids_after c.args.blocks.now c.args.id c.partition_point.result
    (IsPartitionPoint-from_clause (λ b. nat_lt b.id c.args.id) _ _ c.partition_point.ensures.partitioned (parted_ids c.args.blocks.now c.args.id c.requires)
    (λ a r q k. search rules))
