use Rattle.std.proofs.Common.{sym, subst, refl, arith}
use Rattle.std.proofs.lemmas.Bool.{false≢true}
use Rattle.shunt_lists.proofs.Members.{in_place, in_to}
use Rattle.shunt_compare.specs.defs.Changes.{HaveSameUnits}
use Rattle.shunt_compare.proofs.regrouped.is_grouped.Goals as goal

pub returns-then-have_same_units : goal.returns-then-have_same_units
returns-then-have_same_units c = (λ _. (_, in_place c.args.blocks.now c.blocks-2.other-index _ c.blocks-2-test.true, c.if-have_same_units.ensures.0 refl), λ _. refl)

pub returns : goal.returns
returns c = (
  λ e. absurd (false≢true e),
  λ h. let at = in_to c.args.blocks.now h.0 h.1 in
      absurd (c.blocks-2.invariant at.0 h.0 (omega (arith, at.1, c.blocks-2-test.false)) (subst (HaveSameUnits c.args.block.now) (sym at.2) h.2)),
)
