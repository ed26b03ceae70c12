use Rattle.std.proofs.Common.{inl, inr, subst}
use Rattle.shunt_rows.proofs.Texts.{if_ok}
use Rattle.shunt_judging.proofs.pinned_check.check_pinned_answer.Goals as goal
use Rattle.shunt_judging.specs.defs.Pins.{PinFaults}

pub returns-in-Some-lost_pin : goal.returns-in-Some-lost_pin
returns-in-Some-lost_pin c =
    let usable = subst (PinFaults c.args.instance.now c.args.pins.now) c.in-None.is c.in_ok-answer.ensures in
    if_ok _ _ _ c.lost_answer.ensures (λ a told. inr (usable, inl (record { id = c.in-Some-lost_pin.id; first = c.in-Some-lost_pin.ensures.some; reply = told })))
