use Rattle.std.proofs.Common.{◌≡◌, ◌*◌, take}
use Rattle.shunt_prices.specs.defs.Sums.{sum_z, IsWithin}
use Rattle.shunt_fillings.proofs.prospects.added_up.Given as goal

abbrev pub invariant-prospects : goal.invariant-prospects
invariant-prospects l = record {
  exact : l.total ≡ sum_z (λ p. p.gain) (take l.prospect-index l.prospects);
  small : IsWithin (l.prospect-index * 319999999999680) l.total;
}
