use Rattle.std.proofs.Common.{subst, sym, ◌∙◌, Vec, Global, arith}
use Rattle.shunt_blocks.specs.declared.records.Block.{Block}
use Rattle.shunt_ruin.specs.defs.Candidates.{AreNumbered}
use Rattle.shunt_ruin.proofs.Judged.{numbered_more}
use Rattle.shunt_ruin.proofs.rounds.numbered.Goals as goal
use Rattle.shunt_ruin.proofs.rounds.numbered.Goals.{in-Some+then-len-lt160+in_ok-push, in-Some+else-len-lt160, in_default}

pub loop-block-preserved : goal.loop-block-preserved
loop-block-preserved c = elim c.match-block.branch [
  | in-Some+then-len-lt160+in_ok-push w ↦ subst (λ (v : Vec Block Global). AreNumbered v.items) (sym w.listed-is)
      (subst AreNumbered (sym w.in_ok-push.ensures.items) (numbered_more c.loop-block.listed.items w.block.result (omega (arith, w.if-len-lt160.true, w.len.ensures))
      (w.block.ensures ∙ omega (arith, w.len-then-len-lt160.ensures)) c.loop-block.invariant))
  | in-Some+else-len-lt160 w ↦ subst (λ (v : Vec Block Global). AreNumbered v.items)
      (sym w.listed-is) c.loop-block.invariant
  | in_default w ↦ subst (λ (v : Vec Block Global). AreNumbered v.items) (sym w.listed-is) c.loop-block.invariant
]
