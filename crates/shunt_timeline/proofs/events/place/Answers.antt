use Rattle.std.proofs.Common.{rules}
use Rattle.std.proofs.lemmas.List.Sorted.{IsPartitionPoint-from_clause}
use Rattle.shunt_stays.specs.defs.Events.{key_before}
use Rattle.shunt_timeline.specs.defs.Levels.{key_of}
use Rattle.shunt_timeline.proofs.Ranks.{parted, placed_before, placed_after}
use Rattle.shunt_timeline.proofs.events.place.Goals as goal

pub returns : goal.returns
returns c =
    let point = IsPartitionPoint-from_clause (λ y. key_before (key_of y) c.args.key) _ _ c.partition_point.ensures.partitioned
    (parted c.args.events.now c.args.key c.requires.ascends c.requires.formed c.requires.key) (λ a r q k. search rules) in record {
      bound = c.partition_point.ensures.bound;
      before = placed_before c.args.events.now c.args.key c.requires.ascends c.requires.formed c.requires.key c.partition_point.result point;
      after = placed_after c.args.events.now c.args.key c.requires.ascends c.requires.formed c.requires.key c.partition_point.result point;
    }
