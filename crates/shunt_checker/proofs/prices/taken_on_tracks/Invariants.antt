use Rattle.std.specs.Prelude.{Some}
use Rattle.std.proofs.Common.{◌≡◌, ◌<◌, ◌≤◌, ◌*◌, ℕ, take, get_or, length}
use Rattle.shunt_blocks.specs.declared.records.Park.{Park}
use Rattle.shunt_prices.specs.defs.Prices.{price_part_with}
use Rattle.shunt_checker.proofs.prices.taken_on_tracks.Given as goal

abbrev pub invariant-loop-price : goal.invariant-loop-price
invariant-loop-price l = record {
  exact : (k : Park) → k.track.0 < 60 → get_or l.taken k.track.0 0 ≡ price_part_with l.instance (take l.price-index l.prices) l.fn.shape (Some k);
  long : length l.taken ≡ 60;
  small : (t : ℕ) → get_or l.taken t 0 ≤ l.price-index * 359999000000000;
}
