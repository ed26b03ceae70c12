use Rattle.std.proofs.Common.{length, take, ◌-◌, ◌≡◌, ◌++◌, ◌≤◌}
use Rattle.shunt_store.specs.defs.Files.{BothTold}
use Rattle.shunt_store.proofs.writer.print.Given as goal

abbrev pub invariant-parts : goal.invariant-parts
invariant-parts g l =
    let O = g.O.Sink in
    record {
      within : l.at ≤ length l.bytes;
      told : BothTold (O.told l.fn.out) (O.told l.out) (λ old new. new ≡ old ++ take l.at l.bytes);
      later : O.faults l.fn.out ≤ O.faults l.out;
      still : l.at ≡ 0 → l.out ≡ l.fn.out;
    }

abbrev pub decreases-parts : goal.decreases-parts
decreases-parts g l = length l.bytes - l.at
