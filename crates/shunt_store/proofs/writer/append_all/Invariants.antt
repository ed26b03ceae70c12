use Rattle.std.proofs.Common.{length, take, ◌-◌, ◌≡◌, ◌++◌, ◌≤◌}
use Rattle.shunt_store.specs.defs.Files.{Writing, IsWriting, name_of, text_of}
use Rattle.shunt_store.proofs.writer.append_all.Given as goal

abbrev pub invariant-pieces : goal.invariant-pieces
invariant-pieces g l =
    let S = g.S.Store in
    record {
      within : l.at ≤ length l.bytes;
      stage : S.stage l.store ≡ Writing (name_of (S.stage l.fn.store)) (text_of (S.stage l.fn.store) ++ take l.at l.bytes);
      writing : IsWriting (S.stage l.store);
      told : S.told l.store ≡ S.told l.fn.store;
      heard : S.heard l.store ≡ S.heard l.fn.store;
      stored : S.stored l.store ≡ S.stored l.fn.store;
      taken : S.taken l.store ≡ S.taken l.fn.store;
      later : S.faults l.fn.store ≤ S.faults l.store;
    }

abbrev pub decreases-pieces : goal.decreases-pieces
decreases-pieces g l = length l.bytes - l.at
