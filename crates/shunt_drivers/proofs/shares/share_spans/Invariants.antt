use Rattle.std.proofs.Common.{◌≡◌, ◌∷◌, map, take}
use Rattle.std.specs.Prelude.{slice_index}
use Rattle.shunt_drivers.proofs.Greedy.{IsGreedy}
use Rattle.shunt_drivers.proofs.shares.share_spans.Given as goal

abbrev pub invariant-loop-span : goal.invariant-loop-span
invariant-loop-span l = record {
  shared : map (λ s. s.span) l.shares.items ≡ take l.span-index l.spans;
  greedy : IsGreedy l.shares.items l.free.items l.busy (slice_index (0 ∷ map (λ s. s.start) l.spans) l.span-index);
}
