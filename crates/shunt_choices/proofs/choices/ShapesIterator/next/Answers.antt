use Rattle.std.proofs.Common.{◌∷◌, ◌+◌, ◌<◌, arith, sym, ap, ◌∙◌}
use Rattle.std.proofs.lemmas.Bool.Decides.{nat_tests}
use Rattle.shunt_instance.specs.defs.Instance.{position_total}
use Rattle.shunt_blocks.specs.declared.records.Shape.{Shape}
use Rattle.shunt_choices.specs.defs.Cursors.{shapes_left}
use Rattle.shunt_choices.proofs.Rests.{gives, skips, turns, ends}
use Rattle.shunt_choices.proofs.Progress.{progress}
use Rattle.shunt_choices.proofs.choices.ShapesIterator.next.Goals.{then-self-total, else-self-total+then-self}
use Rattle.shunt_choices.proofs.choices.ShapesIterator.next.Goals as goal

pub cells-preserved-then-self-total-2 : goal.cells-preserved-then-self-total-2
cells-preserved-then-self-total-2 c = elim c.if-self-total.branch [
  | then-self-total w ↦ absurd (omega (arith, w.if-self-total.true, c.if-self-total-2.true))
  | else-self-total+then-self w ↦ record {
    unit = c.cells.invariant.unit;
    within = omega arith;
    total = c.cells.invariant.total;
    few = c.cells.invariant.few;
    left = sym (turns c.cells.self-inside.instance.now c.cells.self-inside.u c.cells.self-inside.reach c.cells.self-inside.most c.cells.self-inside.n c.cells.self-inside.v
        (omega (arith, c.cells.invariant.total, c.if-self-total-2.true)) w.if-self.true) ∙ c.cells.invariant.left;
  }
]

pub returns-then-self-v-clause-steps : goal.returns-then-self-v-clause-steps
returns-then-self-v-clause-steps c =
    let below : c.cells.self-inside.v < position_total c.cells.self-inside.instance.now = omega (arith, c.cells.invariant.total, c.if-self-total-2.false) in
    sym c.cells.invariant.left
    ∙ gives c.cells.self-inside.instance.now c.cells.self-inside.u c.cells.self-inside.reach c.cells.self-inside.most c.cells.self-inside.n c.cells.self-inside.v below
    (grind (arith, nat_tests))
    ∙ ap (λ (s : Shape). s ∷ shapes_left c.cells.self-inside.instance.now c.cells.self-inside.u c.cells.self-inside.reach c.cells.self-inside.most c.cells.self-inside.n
    (c.cells.self-inside.v + 1)) (sym c.shape_at.ensures)

pub returns-then-self-v-clause-goes : goal.returns-then-self-v-clause-goes
returns-then-self-v-clause-goes c = progress _ _ _ (returns-then-self-v-clause-steps c)

pub cells-preserved : goal.cells-preserved
cells-preserved c = record {
  unit = c.cells.invariant.unit;
  within = omega (arith, c.if-self-total-2.false);
  total = c.cells.invariant.total;
  few = c.cells.invariant.few;
  left = sym (skips c.cells.self-inside.instance.now c.cells.self-inside.u c.cells.self-inside.reach c.cells.self-inside.most c.cells.self-inside.n c.cells.self-inside.v
      (omega (arith, c.cells.invariant.total, c.if-self-total-2.false)) (grind (arith, nat_tests))) ∙ c.cells.invariant.left;
}

pub returns-clause-steps : goal.returns-clause-steps
returns-clause-steps c =
    let nothing = ends c.cells.self-inside.instance.now c.cells.self-inside.u c.cells.self-inside.reach c.cells.self-inside.most c.cells.self-inside.n c.cells.self-inside.v
    (omega (arith, c.cells.invariant.total, c.if-self-total.false)) c.if-self.false in
    (sym c.cells.invariant.left ∙ nothing, nothing)
