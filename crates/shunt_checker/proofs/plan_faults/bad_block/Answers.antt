use Rattle.std.specs.Prelude.{Some, None}
use Rattle.std.proofs.Common.{ℕ, ap, ◌∙◌, arith}
use Rattle.shunt_blocks.specs.declared.records.Block.{Block}
use Rattle.shunt_checker.proofs.Badness.{good_step, bad_step, all_seen}
use Rattle.shunt_checker.proofs.plan_faults.bad_block.Goals as goal
use Rattle.shunt_checker.proofs.plan_faults.bad_block.Goals.{then-not-fits, else-not-fits}

no_block : Block
no_block = record { id = 0; arr = record { 0 = 0 }; p = 0; n = 0; dep = record { 0 = 0 }; q = 0; park = None }

pub loop-block-preserved : goal.loop-block-preserved
unfolding no_block
loop-block-preserved c = elim c.if-not-fits.branch [
  | then-not-fits w ↦ bad_step c.args.instance.now c.args.blocks.now c.loop-block.block-index no_block c.loop-block.least c.if-not-fits.least c.loop-block-test.true
      (λ good. let t = c.fits.ensures.1 good in let f = w.if-not-fits.true in cc) (w.least-is ∙ ap (λ (id : ℕ). Some id) w.lesser.ensures) c.loop-block.invariant
  | else-not-fits w ↦ good_step c.args.instance.now c.args.blocks.now c.loop-block.block-index no_block c.loop-block.least c.if-not-fits.least c.loop-block-test.true
      (c.fits.ensures.0 w.if-not-fits.false) w.least-is c.loop-block.invariant
]

pub returns : goal.returns
returns c = all_seen c.args.instance.now c.args.blocks.now c.loop-block.block-index c.loop-block.least (omega (arith, c.loop-block-test.false)) c.loop-block.invariant
