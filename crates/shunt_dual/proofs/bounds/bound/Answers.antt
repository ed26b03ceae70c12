use mir.Syntax.{w64}
use Rattle.std.proofs.Common.{sym, subst, ◌∙◌}
use Rattle.std.proofs.lemmas.Int.{to_z-of_z}
use Rattle.shunt_prices.specs.defs.Bounds.{IsDualsBound}
use Rattle.shunt_dual.proofs.LeastBounds.{plain_bound}
use Rattle.shunt_dual.proofs.bounds.bound.Goals as goal

pub returns : goal.returns
returns c =
    subst (IsDualsBound c.args.instance.now c.args.path.now.blocks c.args.duals.now) (sym (to_z-of_z w64 c.bound_of.result (record { sfits = c.bound_of.type_inv })))
    (plain_bound c.args.instance.now c.args.path.now.blocks c.args.duals.now _ c.bound_of.result
    (to_z-of_z w64 c.sum_at.result (record { sfits = c.sum_at.type_inv }) ∙ c.sum_at.ensures.exact) c.bound_of.ensures)
