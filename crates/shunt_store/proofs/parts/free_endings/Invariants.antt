use Rattle.std.proofs.Common.{ℕ, ◌<◌, ◌≤◌, All, take, string_bytes}
use Rattle.shunt_store.specs.defs.Parts.{part_endings, EndsWith}
use Rattle.shunt_store.proofs.parts.free_endings.Given as goal

abbrev pub invariant-loop-name : goal.invariant-loop-name
invariant-loop-name l = record {
  some : 1 ≤ l.free;
  free : All (λ name. (n : ℕ) → EndsWith (string_bytes name) (part_endings n) → n < l.free) (take l.name-index l.names);
}
