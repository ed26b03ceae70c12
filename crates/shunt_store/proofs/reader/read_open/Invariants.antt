use Rattle.std.proofs.Common.{◌≡◌, ◌+◌, ◌-◌, ◌≤◌, length, take, vec_len}
use Rattle.std.specs.Prelude.{IfSome}
use Rattle.shunt_store.specs.defs.Causes.{RoseBy}
use Rattle.shunt_store.specs.defs.Files.{BothTold, content, name_of}
use Rattle.shunt_store.specs.defs.Notes.{add_last}
use Rattle.shunt_store.proofs.reader.read_open.Given as goal

abbrev pub invariant-pieces : goal.invariant-pieces
invariant-pieces g l =
    let S = g.S.Store in
    record {
      few : length l.bytes.items ≤ l.limit + 1;
      taken : S.taken l.store ≡ length l.bytes.items;
      most : S.handed l.store ≤ S.handed l.fn.store + length l.bytes.items;
      least : RoseBy (length l.bytes.items) (S.handed l.fn.store) (S.handed l.store);
      told : IfSome (S.told l.fn.store) (λ files. (l.bytes.items ≡ take (length l.bytes.items) (content files (name_of (S.stage l.fn.store))))
          × (length l.bytes.items ≤ length (content files (name_of (S.stage l.fn.store)))));
      stage : S.stage l.store ≡ S.stage l.fn.store;
      heard : BothTold (S.heard l.fn.store) (S.heard l.store) (λ old new. new ≡ add_last l.bytes.items old);
      stored : S.stored l.store ≡ S.stored l.fn.store;
      files : S.told l.store ≡ S.told l.fn.store;
      later : S.faults l.fn.store ≤ S.faults l.store;
    }

abbrev pub decreases-pieces : goal.decreases-pieces
decreases-pieces g l = l.limit + 1 - vec_len l.bytes
