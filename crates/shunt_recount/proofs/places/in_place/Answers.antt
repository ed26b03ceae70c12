use Rattle.std.specs.Prelude.{IfSome, Some}
use Rattle.std.proofs.Common.{refl, subst, arith}
use Rattle.std.proofs.lemmas.Int.{ints}
use Rattle.shunt_prices.specs.defs.Sums.{IsWithin}
use Rattle.shunt_recount.proofs.Beside.{told}
use Rattle.shunt_recount.proofs.places.in_place.Goals as goal

pub overflow_add-result-2 : goal.overflow_add-result-2
overflow_add-result-2 c =
    let w = c.requires.whole in
    let o = subst (λ o. IfSome o (IsWithin 2560000000000000)) c.in_ok-without.was c.requires.without in
    let i = subst (λ o. IfSome o (IsWithin 2560000000000000)) c.in_ok-inside.was c.requires.inside in
    let b = subst (λ o. IfSome o (IsWithin 2560000000000000)) c.in_ok-behind.was c.requires.behind in
    omega (arith, ints, w.low, w.high, o.low, o.high, i.low, i.high, b.low, b.high)

pub returns-clause-small : goal.returns-clause-small
returns-clause-small c =
    let w = c.requires.whole in
    let o = subst (λ o. IfSome o (IsWithin 2560000000000000)) c.in_ok-without.was c.requires.without in
    let i = subst (λ o. IfSome o (IsWithin 2560000000000000)) c.in_ok-inside.was c.requires.inside in
    let b = subst (λ o. IfSome o (IsWithin 2560000000000000)) c.in_ok-behind.was c.requires.behind in
    record {
      low = omega (arith, ints, w.low, w.high, o.low, o.high, i.low, i.high, b.low, b.high);
      high = omega (arith, ints, w.low, w.high, o.low, o.high, i.low, i.high, b.low, b.high);
    }

pub returns-clause-exact : goal.returns-clause-exact
returns-clause-exact c =
    let w = c.requires.whole in
    let o = subst (λ o. IfSome o (IsWithin 2560000000000000)) c.in_ok-without.was c.requires.without in
    let i = subst (λ o. IfSome o (IsWithin 2560000000000000)) c.in_ok-inside.was c.requires.inside in
    let b = subst (λ o. IfSome o (IsWithin 2560000000000000)) c.in_ok-behind.was c.requires.behind in
    told (Some c.args.whole) c.args.without c.args.inside c.args.behind c.args.whole c.in_ok-without.without c.in_ok-inside.inside c.in_ok-behind.behind
    refl c.in_ok-without.was c.in_ok-inside.was c.in_ok-behind.was _
    (omega (arith, ints, w.low, w.high, o.low, o.high, i.low, i.high, b.low, b.high))
