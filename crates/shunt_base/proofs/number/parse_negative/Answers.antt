use Rattle.std.proofs.Common.{◌≡◌, ◌<◌, ◌-◌, ◌+◌, ap, ◌∙◌, sym, arith}
use Rattle.std.specs.Fmt.{decimal}
use Rattle.std.proofs.lemmas.Int.{ints}
use Rattle.shunt_base.proofs.number.parse_negative.Goals as goal

pub returns-in-Some-clause-some : goal.returns-in-Some-clause-some
returns-in-Some-clause-some c =
    let v = c.in-Some.value in
    let s = c.in-Some.ensures.some in
    let above : 0 < v = omega arith in
    let again : v - 1 + 1 ≡ v = omega arith in
    (v - 1, omega (arith, s.0), omega (arith, ints, s.0), s.1 ∙ ap decimal (sym again))
