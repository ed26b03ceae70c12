use Rattle.std.proofs.Common.{◌≡◌, sym, subst}
use Rattle.shunt_recount.specs.defs.Offers.{GoesOn}
use Rattle.shunt_recount.proofs.ShapeLists.{with_shape}
use Rattle.shunt_recount.proofs.shapes.add_shape.Goals as goal

pub returns-in_ok-push : goal.returns-in_ok-push
returns-in_ok-push c =
    subst (GoesOn c.args.instance.now c.args.covered.now (λ s. s ≡ c.args.shape) c.args.shapes.now.items) (sym c.in_ok-push.ensures.items)
    (with_shape c.args.instance.now c.args.covered.now c.args.shape c.args.shapes.now.items (c.is_free.ensures.0 c.if-is_free.true))
