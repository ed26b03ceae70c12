use Rattle.std.specs.Prelude.{IsTrue, ◌↔◌, pos}
use Rattle.std.proofs.Common.{subst, ◌∙◌}
use Rattle.shunt_choices.specs.defs.Paths.{Masks, masks_of}
use Rattle.shunt_prices.specs.defs.Cases.{HoldsInCase}
use Rattle.shunt_dual.specs.defs.Weighed.{case_of}
use Rattle.shunt_dual.proofs.Holds.{only_case}
use Rattle.shunt_dual.proofs.feasibility.duals_hold.Goals as goal
use Rattle.shunt_choices.proofs.Trails.{masks_fit}

pub holds_in_case-requires-clause-covered : goal.holds_in_case-requires-clause-covered
holds_in_case-requires-clause-covered c = masks_fit c.args.instance.now c.args.path.now c.covered.result.now c.covered.ensures c.requires.path

pub returns : goal.returns
returns c =
    only_case (HoldsInCase c.args.instance.now (masks_of c.args.instance.now c.args.path.now.blocks)) (case_of (pos 0) c.args.duals.now) c.holds_in_case.result
    (subst (λ (m : Masks). IsTrue c.holds_in_case.result ↔ HoldsInCase c.args.instance.now m (case_of (pos 0) c.args.duals.now))
    (c.covered.ensures ∙ c.requires.path.covered) c.holds_in_case.ensures)
