use mir.Syntax.{w64}
use mir.Val.{to_z, of_z}
use Rattle.std.specs.Prelude.{All, pos, ◌+ℤ◌, ◌-ℤ◌}
use Rattle.std.proofs.Common.{◌≡◌, ◌≤◌, ◌*◌, ℕ, ℤ, List, length, subst, sym, ap, ◌∙◌, arith}
use Rattle.std.proofs.lemmas.Int.{ints, to_z-of_z}
use Rattle.shunt_base.specs.declared.duals.Price.{Price}
use Rattle.shunt_blocks.specs.declared.records.Block.{Block}
use Rattle.shunt_dual.specs.defs.Raises.{raised_by, IsRaise}
use Rattle.shunt_dual.proofs.Tried.{stage_seen, raise_seen, charges_seen}
use Rattle.shunt_dual.proofs.Raised.{are_prices, HasValue}
use Rattle.shunt_dual.proofs.price_raises.tried.Goals as goal

pub refitted-requires-clause-held : goal.refitted-requires-clause-held
refitted-requires-clause-held c =
    let raised : c.in_ok-prices.prices.items ≡ raised_by c.args.by c.args.track.0 c.args.train.0 c.args.old.now.prices = c.in_ok-prices.ensures
    ∙ ap (raised_by c.args.by c.args.track.0 c.args.train.0) c.as_slice.ensures in
    let small = subst (λ (ps : List Price). (length ps ≤ 64) × All HasValue ps) (c.deref.ensures.value ∙ raised) (c.are_small.ensures.0 c.if-not-are_small.false) in
    let are = are_prices c.args.instance.now c.args.by c.args.track.0 c.args.train.0 c.args.old.now.prices c.requires.good.are.prices c.requires.track c.requires.train small.0
    small.1 in
    stage_seen c.args.instance.now c.args.path.now.blocks c.args.by c.args.track.0 c.args.train.0 c.args.old.now
    (λ night path t j d h. c.price_steps.ensures.raised night path t j d h) c.requires.some c.requires.good are
    _ _ _ c.as_slice-3.ensures (c.deref-2.ensures.value ∙ c.in_ok-beta.ensures ∙ c.as_slice-2.ensures) (c.deref-3.ensures.value ∙ raised)

pub charged_in_all-charged-requires-clause-few : goal.charged_in_all-charged-requires-clause-few
charged_in_all-charged-requires-clause-few c =
    let few = c.few_blocks.ensures.most c.args.instance.now c.args.path.now.blocks (λ k d lt. (c.requires.path.each k d lt).within) c.requires.path.apart in
    subst (λ (bs : List Block). length bs ≤ 160) (sym c.blocks-2.ensures) (omega (arith, few, c.units.ensures.exact, c.units.ensures.few))

pub returns : goal.returns
returns c =
    let night = c.args.instance.now in
    let path = c.args.path.now.blocks in
    let raised : c.in_ok-prices.prices.items ≡ raised_by c.args.by c.args.track.0 c.args.train.0 c.args.old.now.prices = c.in_ok-prices.ensures
    ∙ ap (raised_by c.args.by c.args.track.0 c.args.train.0) c.as_slice.ensures in
    let beta = c.in_ok-beta.ensures ∙ c.as_slice-2.ensures in
    let charged = charges_seen night c.args.by c.args.track.0 c.args.train.0 c.price_at-price.result c.blocks-2.result.now path c.charged_in_all-charged.result
    c.price_at-price.ensures c.blocks-2.ensures c.charged_in_all-charged.ensures.exact in
    let small = c.in_ok-values.ensures.small in
    let seen : to_z w64 (of_z w64 c.in_ok-values.values.risen) ≡ c.in_ok-values.values.risen = omega (arith, ints, small.low, small.high) in
    let gain = c.gain_of.ensures.exact ∙ ap (λ (z : ℤ). z +ℤ pos c.charged_in_all-charged.result -ℤ pos (c.args.by * c.room.result)) seen in
    subst (IsRaise c.args.instance.now c.args.path.now.blocks c.args.by c.args.track.0 c.args.train.0 c.args.old.now _)
    (sym (to_z-of_z w64 c.gain_of.result (record { sfits = c.gain_of.type_inv })))
    (raise_seen night path c.args.by c.args.track.0 c.args.train.0 c.args.old.now (λ night path t j d. c.price_steps.ensures.sum night path t j d)
    (λ t j ps h. c.price_steps.ensures.apart t j ps h) c.requires.some c.requires.good
    _ _ _ _ _ _ _ _ _ _ c.as_slice-3.ensures (c.deref-2.ensures.value ∙ beta) (c.deref-3.ensures.value ∙ raised) (c.from_vec.ensures ∙ beta) (c.from_vec-2.ensures ∙ raised)
    c.in_ok-values.ensures charged (ap (λ (n : ℕ). c.args.by * n) c.room.ensures.exact) gain c.gain_of.ensures.small)
