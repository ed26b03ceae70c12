use Rattle.std.proofs.Common.{◌≡◌, ◌≤◌, length, subst, ap, ◌∙◌, arith}
use Rattle.shunt_instance.specs.declared.records.Station.{Station}
use Rattle.shunt_dual.proofs.Lightest.{unparked_given, given_next, before_next, least_is}
use Rattle.shunt_dual.proofs.shape_demands.least_weight.Goals as goal

pub loop-t-init : goal.loop-t-init
loop-t-init c = record {
  given = unparked_given c.args.instance.now c.args.demand.now.shape c.charges-charges.result c.args.demand.now.unparked c.requires.demand.unparked;
  small = omega (arith, c.requires.demand.unparked);
  before = λ k lt is room. absurd (omega (arith, lt));
}

pub loop-t-preserved : goal.loop-t-preserved
loop-t-preserved c =
    let h = c.loop-t.invariant in
    let w = c.lightened-least.ensures in
    let few : length c.args.instance.now.station.tracks ≤ 60 = subst (λ (t : Station). length t.tracks ≤ 60) c.station.ensures.exact c.station.ensures.station.few_tracks in
    let count : c.len-t-end.result ≡ length c.args.instance.now.station.tracks = c.len-t-end.ensures ∙ ap (λ (s : Station). length s.tracks) c.station.ensures.exact in
    record {
      given = given_next c.args.instance.now c.args.demand.now.shape c.charges-charges.result c.args.demand.now.costs c.requires.demand.costs c.loop-t.t c.loop-t.least
          c.lightened-least.result
          (omega (arith, c.loop-t-test.true, few, count)) h.small w.least h.given w.one;
      small = omega (arith, w.least, h.small);
      before = before_next c.args.instance.now c.args.demand.now.shape c.charges-charges.result c.args.demand.now.costs c.requires.demand.costs c.loop-t.t c.loop-t.least
          c.lightened-least.result w.least w.track h.before;
    }

pub returns-clause-exact : goal.returns-clause-exact
returns-clause-exact c =
    let h = c.loop-t.invariant in
    let few : length c.args.instance.now.station.tracks ≤ 60 = subst (λ (t : Station). length t.tracks ≤ 60) c.station.ensures.exact c.station.ensures.station.few_tracks in
    let count : c.len-t-end.result ≡ length c.args.instance.now.station.tracks = c.len-t-end.ensures ∙ ap (λ (s : Station). length s.tracks) c.station.ensures.exact in
    least_is c.args.instance.now c.args.demand.now.shape c.charges-charges.result c.args.prices.now c.len-t-end.result count
    (omega (arith, few, count)) c.charges-charges.ensures.exact
    c.loop-t.least c.loop-t.t c.loop-t-test.false h.given h.small h.before
