use mir.Syntax.{w64}
use mir.Val.{to_z, of_z}
use Rattle.std.specs.Prelude.{pos, ◌<ℤ◌, ◌≤ℤ◌, ◌-ℤ◌}
use Rattle.std.proofs.Common.{◌≡◌, ◌∙◌, ◌*◌, ℤ, ap, sym, subst, arith}
use Rattle.std.proofs.lemmas.Int.{ints}
use Rattle.shunt_blocks.specs.declared.records.Block.{Block}
use Rattle.shunt_blocks.specs.defs.Shapes.{shape_of}
use Rattle.shunt_blocks.specs.defs.Blocks.{IsOption}
use Rattle.shunt_blocks.specs.defs.Costs.{block_cost}
use Rattle.shunt_prices.specs.defs.Cases.{duals_over}
use Rattle.shunt_recount.specs.defs.Offers.{stack_at}
use Rattle.shunt_recount.proofs.Weighed.{offered, not_offered, nothing_left}
use Rattle.shunt_recount.proofs.offers.offer_for.Goals as goal

pub gain-gain-requires-clause-left : goal.gain-gain-requires-clause-left
gain-gain-requires-clause-left c =
    let left = c.left_of-left.ensures in
    let seen : to_z w64 (of_z w64 c.left_of-left.result) ≡ c.left_of-left.result = omega (arith, ints, left.small.low, left.small.high) in
    let little = c.requires.candidate.little in
    let read : to_z w64 (of_z w64 c.args.candidate.worth) ≡ c.args.candidate.worth = omega (arith, ints, little.low, little.high) in
    let worth = read ∙ (c.requires.candidate.worth ∙ sym (ap (λ (b : Block). duals_over c.args.instance.now c.args.case.now.duals (shape_of b)) c.block_on-block.ensures)) in
    seen ∙ (left.exact ∙ ap (λ (z : ℤ). z -ℤ pos (1000 * block_cost c.args.instance.now c.block_on-block.result)) worth)

pub returns-then-left-le0 : goal.returns-then-left-le0
returns-then-left-le0 c =
    let left = c.left_of-left.ensures in
    let less = c.if-left-le0.true in
    let low : c.left_of-left.result ≤ℤ pos 0 = omega (arith, ints, less, left.small.low, left.small.high) in
    let little = c.requires.candidate.little in
    let read : to_z w64 (of_z w64 c.args.candidate.worth) ≡ c.args.candidate.worth = omega (arith, ints, little.low, little.high) in
    nothing_left c.args.instance.now c.args.case.now (stack_at c.args.end) c.args.candidate.shape c.block_on-block.result c.left_of-left.result c.block_on-block.ensures
    (left.exact ∙ ap (λ (z : ℤ). z -ℤ pos (1000 * block_cost c.args.instance.now c.block_on-block.result)) (read ∙ c.requires.candidate.worth)) low

pub returns : goal.returns
returns c =
    let k = c.requires.candidate in
    let room = c.room_on.ensures.exact in
    let fits = c.if-candidate-room_on.false in
    let gain = c.gain-gain.ensures in
    let more = c.if-gain-le0.false in
    let seen : to_z w64 (of_z w64 c.gain-gain.result) ≡ c.gain-gain.result = omega (arith, ints, gain.small.low, gain.small.high) in
    let lt : pos 0 <ℤ to_z w64 (of_z w64 c.gain-gain.result) = omega (arith, ints, more, gain.small.low, gain.small.high) in
    offered c.args.instance.now c.args.case.now (stack_at c.args.end) c.args.candidate.shape c.block_on-block.result
    (to_z w64 (of_z w64 c.gain-gain.result)) c.block_on-block.ensures (seen ∙ gain.exact) lt
    (subst (λ (z : ℤ). z ≤ℤ pos 15999999999984) k.worth k.little.high)
    (subst (λ (b : Block). IsOption c.args.instance.now c.args.candidate.shape b.park) c.block_on-block.ensures (c.is_option.ensures.fact.0 c.if-not-is_option.false))
    (omega (arith, k.long, fits, room))

pub returns-then-gain-le0 : goal.returns-then-gain-le0
returns-then-gain-le0 c =
    let gain = c.gain-gain.ensures in
    let less = c.if-gain-le0.true in
    let low : c.gain-gain.result ≤ℤ pos 0 = omega (arith, ints, less, gain.small.low, gain.small.high) in
    not_offered c.args.instance.now c.args.case.now (stack_at c.args.end) c.args.candidate.shape c.block_on-block.result c.gain-gain.result c.block_on-block.ensures gain.exact low
