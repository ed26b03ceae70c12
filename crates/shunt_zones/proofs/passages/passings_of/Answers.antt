use Rattle.std.proofs.Common.{◌≤◌, ◌<◌, ◌∙◌, List, length, sym, subst, arith, ap}
use Rattle.std.specs.Prelude.{All}
use Rattle.std.proofs.lemmas.List.{length-map}
use Rattle.shunt_rows.proofs.Texts.{if_ok}
use Rattle.shunt_zones.specs.declared.passages.Passing.{Passing}
use Rattle.shunt_zones.specs.defs.Moves.{IsMoveOf}
use Rattle.shunt_zones.specs.defs.Passed.{passing_of}
use Rattle.shunt_zones.proofs.Ordered.{passings_in_time, passings_are}
use Rattle.shunt_zones.proofs.passages.passings_of.Goals as goal

pub passings_from-requires : goal.passings_from-requires
passings_from-requires c = subst (All (IsMoveOf c.args.instance.now)) (sym c.deref.ensures.value) c.in_ok-moves.ensures.of_night

pub returns-clause-exact : goal.returns-clause-exact
returns-clause-exact c = if_ok c.passings_from.result _ _ c.passings_from.ensures
    (λ v e. e ∙ passings_are c.args.instance.now c.args.zones.now c.args.plan.now.blocks c.in_ok-moves.moves.items _ c.deref.ensures.value c.in_ok-moves.ensures.exact)

pub returns-clause-in_time : goal.returns-clause-in_time
returns-clause-in_time c = if_ok c.passings_from.result _ _ c.passings_from.ensures
    (λ v e. subst (All (λ (p : Passing). p.event.key.minute < 2880)) (sym e) (passings_in_time c.args.instance.now c.args.zones.now c.deref.result.now
    (subst (All (IsMoveOf c.args.instance.now)) (sym c.deref.ensures.value) c.in_ok-moves.ensures.of_night)))

pub returns-clause-few : goal.returns-clause-few
returns-clause-few c =
    if_ok c.passings_from.result _ _ c.passings_from.ensures (λ v e. subst (λ (l : List Passing). length l ≤ 800) (sym e)
    (let few = c.in_ok-moves.ensures.few in omega (arith, few, ap length c.deref.ensures.value, length-map c.deref.result.now (passing_of c.args.instance.now c.args.zones.now))))
