use Rattle.std.proofs.Common.{ℕ, subst, refl, arith}
use Rattle.shunt_blocks.specs.defs.Shapes.{position_from}
use Rattle.shunt_recount.proofs.shapes.is_free.Goals as goal
use Rattle.shunt_choices.proofs.Pairwise.{FreePairs, free_from}

pub returns : goal.returns
returns c = (
  λ t. free_from c.args.instance.now c.args.covered.now c.args.shape c.requires.within c.loop-k.k (omega (arith, c.loop-k-test.false))
      (subst (λ (w : ℕ). FreePairs c.args.instance.now c.args.covered.now w (position_from c.args.instance.now c.args.shape) c.loop-k.k) c.unit_from-from.ensures.exact
      (subst (λ (w : ℕ). FreePairs c.args.instance.now c.args.covered.now c.unit_from-from.result w c.loop-k.k) c.position_from-to.ensures.exact c.loop-k.invariant)),
  λ h. refl,
)
