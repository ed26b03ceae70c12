use Rattle.std.specs.Prelude.{true, pos, ◌≤ℤ◌}
use Rattle.std.proofs.Common.{◌≡◌, ◌∙◌, [], sym, ap, arith}
use Rattle.std.proofs.lemmas.Int.{ints}
use Rattle.std.proofs.lemmas.Bool.{false≢true}
use Rattle.shunt_dual.specs.defs.Offers.{offered}
use Rattle.shunt_fillings.specs.defs.Pieces.{seen}
use Rattle.shunt_fillings.proofs.Taken.{not_taken, poor}
use Rattle.shunt_fillings.proofs.candidates.add_candidate.Goals as goal
use Rattle.shunt_lists.proofs.Lists.{append_nothing as none_more}

pub returns-then-not-can_stand : goal.returns-then-not-can_stand
returns-then-not-can_stand c = (
  [],
  not_taken c.args.instance.now (seen c.args.stack) c.args.offer.now
      (λ brings. let can : c.can_stand.result ≡ true = c.can_stand.ensures.1 (brings.option, brings.room) in false≢true (sym c.if-not-can_stand.true ∙ can)),
  none_more c.args.candidates.now.items,
)

pub returns-then-gain-le0 : goal.returns-then-gain-le0
returns-then-gain-le0 c =
    let small = c.gain-gain.ensures.small in
    let less = c.if-gain-le0.true in
    let le : c.gain-gain.result ≤ℤ pos 0 = omega (arith, ints, less, small.low, small.high) in (
      [],
      not_taken c.args.instance.now (seen c.args.stack) c.args.offer.now (λ brings. poor _ c.gain-gain.result brings.gains
          (c.gain-gain.ensures.exact ∙ ap (offered c.args.instance.now c.args.offer.now) c.park_on.ensures) le),
      none_more c.args.candidates.now.items,
    )
