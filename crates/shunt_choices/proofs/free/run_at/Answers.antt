use Rattle.std.specs.Prelude.{◌+◌}
use Rattle.std.proofs.Common.{ℕ, ◌≡◌, true, arith, sym, subst, ◌∙◌}
use Rattle.shunt_lists.specs.defs.Below.{all_below}
use Rattle.shunt_choices.specs.defs.Free.{is_free_pair}
use Rattle.shunt_choices.proofs.Runs.{stops, goes_on}
use Rattle.shunt_choices.proofs.free.run_at.Goals as goal

pub returns-then-not-is_free_pair-clause-exact : goal.returns-then-not-is_free_pair-clause-exact
returns-then-not-is_free_pair-clause-exact c = stops c.args.instance.now c.args.covered.now c.args.u c.args.v c.room-room.result c.loop-k.k c.room-room.ensures.exact
    c.loop-k-test.true c.loop-k.invariant (sym c.is_free_pair.ensures ∙ c.if-not-is_free_pair.true)

pub returns-clause-exact : goal.returns-clause-exact
returns-clause-exact c =
    let e : c.loop-k.k ≡ c.room-room.result = omega (arith, c.loop-k-test.false, c.loop-k.auto.k-end) in
    goes_on c.args.instance.now c.args.covered.now c.args.u c.args.v c.room-room.result c.room-room.ensures.exact
    (subst (λ (n : ℕ). all_below n (λ k. is_free_pair c.args.instance.now c.args.covered.now (c.args.u + k) (c.args.v + k)) ≡ true) e c.loop-k.invariant)
