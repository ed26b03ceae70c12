use Rattle.std.specs.Prelude.{All}
use Rattle.std.proofs.Common.{List, sym, subst}
use Rattle.shunt_blocks.specs.declared.records.Shape.{Shape}
use Rattle.shunt_blocks.specs.defs.Shapes.{AreRunsWithin}
use Rattle.shunt_recount.proofs.Offered.{all_within}
use Rattle.shunt_recount.proofs.candidates.all_candidates.Goals as goal

pub worthy-requires-clause-within : goal.worthy-requires-clause-within
worthy-requires-clause-within c = subst (λ (ss : List Shape). All (AreRunsWithin c.args.instance.now) ss) (sym c.deref.ensures.value)
    (all_within c.args.instance.now c.args.covered.now c.in_ok-shapes.shapes.items c.in_ok-shapes.ensures)
