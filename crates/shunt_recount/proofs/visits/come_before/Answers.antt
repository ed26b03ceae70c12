use Rattle.std.proofs.Common.{rules, arith}
use Rattle.std.specs.Prelude.{nat_lt}
use Rattle.std.proofs.lemmas.Bool.{ltb-true, ltb-false}
use Rattle.std.proofs.lemmas.List.Sorted.{IsPartitionPoint-from_clause, IsPartitionedBy-ltb}
use Rattle.shunt_recount.specs.defs.Visits.{comes_at}
use Rattle.shunt_recount.proofs.visits.come_before.Goals as goal

pub returns-clause-before : goal.returns-clause-before
returns-clause-before c =
    let point = IsPartitionPoint-from_clause (λ v. nat_lt v.comes c.args.x) _ _ c.partition_point.ensures.partitioned
    (IsPartitionedBy-ltb comes_at c.args.visits.now c.args.x c.requires) (λ a r q k. search rules) in
    λ k d lt. ltb-true _ _ (point.0 k d (omega arith) lt)

pub returns-clause-after : goal.returns-clause-after
returns-clause-after c =
    let point = IsPartitionPoint-from_clause (λ v. nat_lt v.comes c.args.x) _ _ c.partition_point.ensures.partitioned
    (IsPartitionedBy-ltb comes_at c.args.visits.now c.args.x c.requires) (λ a r q k. search rules) in
    λ k d le lt. ltb-false _ _ (point.1 k d le lt)
