use Rattle.std.proofs.Common.{◌≢◌, All, take}
use Rattle.shunt_store.proofs.table.first_of.Given as goal

abbrev pub invariant-loop-i : goal.invariant-loop-i
invariant-loop-i l = All (λ f. f.name.items ≢ l.name) (take l.i l.files)
