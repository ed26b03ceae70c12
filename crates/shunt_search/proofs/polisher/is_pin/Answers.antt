use Rattle.std.proofs.Common.{refl, sym, ◌∙◌, arith}
use Rattle.std.proofs.lemmas.Bool.{false≢true}
use Rattle.shunt_search.proofs.Swept.{no_pin_yet, is_no_pin, is_a_pin}
use Rattle.shunt_search.proofs.polisher.is_pin.Goals as goal

pub returns-then-same_but_id : goal.returns-then-same_but_id
returns-then-same_but_id c = (λ _. is_a_pin c.args.pins.now c.args.block.now _ c.loop-pin.pin-index c.loop-pin-test.true (c.same_but_id.ensures.0 c.if-same_but_id.true), λ _. refl)

pub loop-pin-preserved : goal.loop-pin-preserved
loop-pin-preserved c = no_pin_yet c.args.pins.now c.args.block.now _ c.loop-pin.pin-index c.loop-pin-test.true
    (λ e. absurd (false≢true (sym c.if-same_but_id.false ∙ c.same_but_id.ensures.1 e))) c.loop-pin.invariant

pub returns : goal.returns
returns c = (
  λ e. absurd (false≢true e),
  λ k. absurd (is_no_pin c.args.pins.now c.args.block.now c.loop-pin.pin-index
      (omega (arith, c.loop-pin-test.false)) c.loop-pin.invariant k),
)
