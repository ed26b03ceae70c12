use Rattle.std.proofs.Common.{rules, arith}
use Rattle.std.specs.Prelude.{nat_lt}
use Rattle.std.proofs.lemmas.Bool.{ltb-true, ltb-false}
use Rattle.std.proofs.lemmas.List.Sorted.{IsPartitionPoint-from_clause, IsPartitionedBy-ltb}
use Rattle.shunt_recount.proofs.Listed.{in_order}
use Rattle.shunt_recount.proofs.moments.rank.Goals as goal

pub returns : goal.returns
returns c =
    let point = IsPartitionPoint-from_clause (λ e. nat_lt e c.args.x) _ _ c.partition_point.ensures.partitioned
    (IsPartitionedBy-ltb (λ e. e) c.args.events.now c.args.x (in_order c.args.events.now c.requires)) (λ a r q k. search rules) in
    record { within = c.partition_point.ensures.bound; before = λ k lt. ltb-true _ _ (point.0 k 0 (omega arith) lt); behind = λ k le lt. ltb-false _ _ (point.1 k 0 le lt) }
