use Rattle.std.proofs.Common.{[], ◌∷◌, ◌++◌, sym, subst}
use Rattle.shunt_recount.specs.defs.Offers.{stack_at, AreOffersFor}
use Rattle.shunt_recount.proofs.Offered.{more_offers, fewer_offers}
use Rattle.shunt_recount.proofs.offers.add_offer.Goals as goal

pub returns-in_ok-push : goal.returns-in_ok-push
returns-in_ok-push c = λ ks h. subst (AreOffersFor c.args.instance.now c.args.case.now (stack_at c.args.end) (ks ++ c.args.candidate ∷ [])) (sym c.in_ok-push.ensures.items)
    (more_offers c.args.instance.now c.args.case.now (stack_at c.args.end) ks c.args.offers.now.items c.args.candidate c.in-Some.offer c.in-Some.ensures h)

pub returns-in_default : goal.returns-in_default
returns-in_default c = λ ks h. fewer_offers c.args.instance.now c.args.case.now (stack_at c.args.end) ks c.args.offers.now.items c.args.candidate c.in_default.ensures h
