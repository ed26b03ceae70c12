use Rattle.std.proofs.Common.{ℕ, ◌+◌, List, [], ◌∷◌, ◌++◌, sym, subst, take, slice_index_or}
use Rattle.std.proofs.lemmas.List.{take_more}
use Rattle.shunt_blocks.specs.declared.records.Shape.{Shape}
use Rattle.shunt_dual.specs.declared.case_offers.Offer.{Offer}
use Rattle.shunt_dual.specs.defs.Offers.{AreOffers}
use Rattle.shunt_dual.proofs.Offered.{more_offers}
use Rattle.shunt_dual.proofs.Demands.{no_shape}
use Rattle.shunt_dual.proofs.case_offers.offers.Goals as goal

pub shapes-preserved : goal.shapes-preserved
shapes-preserved c =
    let night = c.args.instance.now in
    let d = c.args.duals.now in
    let shapes = c.args.shapes.now in
    let i = c.shapes.shape-index in
    let added = c.in_ok-add_offer.ensures in
    subst (AreOffers night d (take (i + 1) shapes)) (sym added.2)
    (subst (λ (ss : List Shape). AreOffers night d ss (c.shapes.offers.items ++ added.0)) (sym (take_more shapes i no_shape c.shapes-test.true))
    (more_offers night d (take i shapes) (slice_index_or shapes i no_shape ∷ []) c.shapes.offers.items added.0 c.shapes.invariant added.1))
