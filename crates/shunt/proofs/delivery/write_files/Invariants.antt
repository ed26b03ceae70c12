use Rattle.std.proofs.Common.{◌≡◌, ◌≤◌, ◌++◌, map, take}
use Rattle.shunt_store.specs.defs.Files.{Closed, BothTold}
use Rattle.shunt_inputs.specs.defs.Replies.{pair_of}
use Rattle.shunt_inputs.specs.defs.Writes.{written}
use Rattle.shunt.proofs.delivery.write_files.Given as goal

abbrev pub invariant-files : goal.invariant-files
invariant-files g l =
    let S = g.S.Store in
    record {
      told : BothTold (S.told l.fn.store) (S.told l.store) (λ a b. b ≡ written (map pair_of (take l.write-index l.writes)) a);
      stored : BothTold (S.stored l.fn.store) (S.stored l.store) (λ a b. b ≡ a ++ map pair_of (take l.write-index l.writes));
      heard : S.heard l.store ≡ S.heard l.fn.store;
      stage : S.stage l.store ≡ Closed;
      later : S.faults l.fn.store ≤ S.faults l.store;
    }
