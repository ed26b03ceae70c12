use Rattle.std.specs.Prelude.{sum_by}
use Rattle.std.proofs.Common.{◌≡◌, ◌≤◌, ◌*◌, [], ◌∷◌, take}
use Rattle.shunt_prices.specs.defs.Prices.{price_part}
use Rattle.shunt_dual.proofs.price_raises.charged_in_all.Given as goal

abbrev pub invariant-loop-block : goal.invariant-loop-block
invariant-loop-block l = record {
  exact : l.total ≡ sum_by (price_part l.instance (l.price ∷ [])) (take l.block-index l.blocks);
  small : l.total ≤ l.block-index * 23039936000000000;
}
