use Rattle.std.specs.Prelude.{List}
use Rattle.std.proofs.Common.{◌≡◌, subst, ℤ, pos, ◌∙◌, ap, arith}
use Rattle.std.proofs.lemmas.Int.{ints}
use Rattle.shunt_instance.specs.defs.Instance.{unit_total, position_total}
use Rattle.shunt_choices.specs.defs.Paths.{masks_of}
use Rattle.shunt_blocks.specs.declared.records.Block.{Block}
use Rattle.shunt_prices.specs.defs.Sums.{sum_z}
use Rattle.shunt_prices.specs.defs.Cases.{weight}
use Rattle.shunt_prices.specs.defs.Prices.{paid_at_most}
use Rattle.shunt_prices.specs.defs.Bounds.{most_surcharge}
use Rattle.shunt_checker.proofs.bounds.sum_at.Goals as goal
use Rattle.shunt_choices.proofs.Trails.{units_long, places_long, as_many_units, as_many_places}
use Rattle.shunt_prices.proofs.Signed.{value_seen}
use Rattle.shunt_prices.proofs.Counts.{uncovered_is, sum_is}

pub uncovered_sum-alphas-requires-clause-covered : goal.uncovered_sum-alphas-requires-clause-covered
uncovered_sum-alphas-requires-clause-covered c =
    as_many_units c.args.instance.now c.args.path.now.blocks _ _ c.args.case.now.duals.alpha
    (units_long c.args.instance.now c.args.path.now c.covered-covered.result.now _ c.units-2.ensures c.covered-covered.ensures c.requires.path) c.as_slice.ensures
    c.requires.case.duals.alphas

pub uncovered_sum-betas-requires-clause-covered : goal.uncovered_sum-betas-requires-clause-covered
uncovered_sum-betas-requires-clause-covered c =
    as_many_places c.args.instance.now c.args.path.now.blocks _ _ c.args.case.now.duals.beta
    (places_long c.args.instance.now c.args.path.now c.covered-covered.result.now _ c.places.ensures c.covered-covered.ensures c.requires.path) c.as_slice-2.ensures
    c.requires.case.duals.betas

pub returns-clause-exact : goal.returns-clause-exact
returns-clause-exact c =
    let night = c.args.instance.now in
    let path = c.args.path.now.blocks in
    let d = c.args.case.now.duals in
    let a = c.uncovered_sum-alphas.ensures.small in
    let b = c.uncovered_sum-betas.ensures.small in
    let w = c.weights-weights.ensures.small in
    let s = c.most_surcharge-surcharge.ensures.small in
    let t = c.sum_of.ensures.small in
    let p = c.paid_at_most-paid.ensures.small in
    let is = c.sum_of.ensures.exact in
    let m = value_seen c.args.case.now.multiplier c.requires.case.multiplier in
    let masks = masks_of night path in
    sum_is night path c.args.from c.args.case.now _
    c.weights-weights.result c.uncovered_sum-alphas.result c.uncovered_sum-betas.result (pos c.paid_at_most-paid.result) c.most_surcharge-surcharge.result
    (omega (arith, ints, is, a.low, a.high, b.low, b.high, w.low, w.high, s.low, s.high, t.low, t.high, p))
    (subst (λ (bs : List Block). c.weights-weights.result ≡ sum_z (weight night c.args.case.now) bs) c.blocks-2.ensures c.weights-weights.ensures.exact)
    (uncovered_is c.uncovered_sum-alphas.result c.as_slice.result.now d.alpha c.units-2.result.now masks.units (unit_total night) c.as_slice.ensures
    (units_long night c.args.path.now c.covered-covered.result.now _ c.units-2.ensures c.covered-covered.ensures c.requires.path) c.requires.case.duals.alphas
    c.uncovered_sum-alphas.ensures.exact)
    (uncovered_is c.uncovered_sum-betas.result c.as_slice-2.result.now d.beta c.places.result.now masks.places (position_total night) c.as_slice-2.ensures
    (places_long night c.args.path.now c.covered-covered.result.now _ c.places.ensures c.covered-covered.ensures c.requires.path) c.requires.case.duals.betas
    c.uncovered_sum-betas.ensures.exact)
    (ap pos (c.paid_at_most-paid.ensures.exact ∙ ap (paid_at_most night) c.as_slice-3.ensures))
    (c.most_surcharge-surcharge.ensures.exact ∙ ap (λ (z : ℤ). most_surcharge z c.args.from c.args.case.now.to) m)
