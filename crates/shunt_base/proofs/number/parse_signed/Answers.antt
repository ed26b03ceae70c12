use Rattle.std.proofs.Common.{◌<◌, ◌-◌, ◌∙◌, length, drop, take_all, length-drop, arith}
use Rattle.std.proofs.lemmas.Grind.{common_steps}
use Rattle.shunt_base.proofs.Decimal.{minus_at}
use Rattle.shunt_base.proofs.number.parse_signed.Goals as goal

pub returns-then-bytes-eq45-clause-only : goal.returns-then-bytes-eq45-clause-only
returns-then-bytes-eq45-clause-only c =
    let some : 0 < length c.args.bytes.now = grind (arith, common_steps) in
    minus_at c.args.bytes.now c.parse_negative.result some c.if-bytes-eq45.true
    (λ n lt e. c.parse_negative.ensures.only n lt (take_all (length c.args.bytes.now - 1) (drop 1 c.args.bytes.now) (omega (arith, length-drop 1 c.args.bytes.now)) ∙ e))
