use Rattle.std.proofs.Common.{◌≤◌, length, arith, ◌∙◌, subst}
use Rattle.std.proofs.lemmas.List.{length-set}
use Rattle.shunt_instance.specs.declared.records.Station.{Station}
use Rattle.shunt_dual.proofs.shape_costs.charges.Goals as goal
use Rattle.shunt_prices.proofs.Counts.{small_more as charges_small, taken_more as charged, no_price}

pub loop-price-preserved : goal.loop-price-preserved
loop-price-preserved c =
    let long = c.loop-price.invariant.long in
    let few : length c.args.instance.now.station.tracks ≤ 60 = subst (λ (s : Station). length s.tracks ≤ 60) c.station.ensures.exact c.station.ensures.station.few_tracks in
    record {
      exact = charged c.args.instance.now c.args.prices.now c.args.shape c.loop-price.price-index no_price c.loop-price.charges c.charge.result c.loop-price-test.true long
          (omega (arith, (c.requires.prices.each c.loop-price.price-index no_price c.loop-price-test.true).track, few)) c.charge.ensures.exact c.loop-price.invariant.exact;
      long = length-set c.loop-price.charges _ _ ∙ long;
      small = charges_small c.loop-price.charges _ c.loop-price.price-index 359999000000000 c.charge.result
          (omega (arith, long, (c.requires.prices.each c.loop-price.price-index no_price c.loop-price-test.true).track, few)) c.charge.ensures.small c.loop-price.invariant.small;
    }
