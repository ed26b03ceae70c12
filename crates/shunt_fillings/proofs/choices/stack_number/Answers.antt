use Rattle.std.specs.Prelude.{true, false}
use Rattle.std.proofs.Common.{◌≡◌, ◌∙◌, sym}
use Rattle.shunt_stacks.specs.defs.Stacks.{is_of}
use Rattle.shunt_fillings.specs.declared.ends.Stack.{Stack}
use Rattle.shunt_fillings.specs.defs.Pieces.{seen}
use Rattle.shunt_fillings.proofs.Listed.{at_any, below_one_more}
use Rattle.shunt_fillings.proofs.choices.stack_number.Goals as goal

pub returns-then-is_of-clause-of : goal.returns-then-is_of-clause-of
returns-then-is_of-clause-of c = at_any (λ (s : Stack). is_of (seen s) c.args.park ≡ true) c.args.stacks.now c.loop-k.k _ c.loop-k-test.true (sym c.is_of.ensures ∙ c.if-is_of.true)

pub loop-k-preserved : goal.loop-k-preserved
loop-k-preserved c = below_one_more (λ (s : Stack). is_of (seen s) c.args.park ≡ false) c.args.stacks.now c.loop-k.k _ c.loop-k-test.true
    (sym c.is_of.ensures ∙ c.if-is_of.false) c.loop-k.invariant
