use Rattle.std.proofs.Common.{◌≡◌, ◌*◌, take}
use Rattle.shunt_prices.specs.defs.Sums.{sum_z, IsWithin}
use Rattle.shunt_recount.specs.declared.counts.StackCount.{StackCount}
use Rattle.shunt_recount.proofs.recounts.added_up.Given as goal

abbrev pub invariant-loop-k : goal.invariant-loop-k
invariant-loop-k l = record {
  exact : l.total ≡ sum_z (λ (x : StackCount). x.gain) (take l.k l.counts);
  small : IsWithin (l.k * 319999999999680) l.total;
}
