use Rattle.std.proofs.Common.{◌≤◌, length, arith, ◌∙◌, subst}
use Rattle.std.proofs.lemmas.List.{length-set}
use Rattle.shunt_instance.specs.declared.records.Station.{Station}
use Rattle.shunt_checker.proofs.prices.taken_on_tracks.Goals as goal
use Rattle.shunt_prices.proofs.Counts.{small_more, taken_more, no_price}

pub loop-price-preserved : goal.loop-price-preserved
loop-price-preserved c =
    let long = c.loop-price.invariant.long in
    let few : length c.args.instance.now.station.tracks ≤ 60 = subst (λ (s : Station). length s.tracks ≤ 60) c.station.ensures.exact c.station.ensures.station.few_tracks in
    record {
      exact = taken_more c.args.instance.now c.args.prices.now c.args.shape c.loop-price.price-index no_price c.loop-price.taken c.taken_by.result c.loop-price-test.true long
          (omega (arith, (c.requires.prices.each c.loop-price.price-index no_price c.loop-price-test.true).track, few)) c.taken_by.ensures.exact c.loop-price.invariant.exact;
      long = length-set c.loop-price.taken _ _ ∙ long;
      small = small_more c.loop-price.taken _ c.loop-price.price-index 359999000000000 c.taken_by.result
          (omega (arith, long, (c.requires.prices.each c.loop-price.price-index no_price c.loop-price-test.true).track, few)) c.taken_by.ensures.small c.loop-price.invariant.small;
    }
