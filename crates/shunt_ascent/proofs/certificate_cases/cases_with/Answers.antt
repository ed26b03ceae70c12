use Rattle.std.specs.Prelude.{All}
use Rattle.std.proofs.Common.{List, [], ◌∷◌, sym, subst}
use Rattle.std.proofs.lemmas.List.Elements.{All-cons, All-nil}
use Rattle.shunt_base.specs.declared.duals.Case.{Case}
use Rattle.shunt_prices.specs.defs.Limits.{AreApart}
use Rattle.shunt_ascent.proofs.certificate_cases.cases_with.Goals as goal

pub returns-in_ok-first-in-Some-clause-apart : goal.returns-in_ok-first-in-Some-clause-apart
returns-in_ok-first-in-Some-clause-apart c =
    let P : Case → Type 0 = λ k. AreApart k.duals.prices in
    let first = c.in_ok-first-in-Some.first in
    let last = c.in_ok-last.last in
    subst (λ (l : List Case). All P l) (sym c.two_cases.ensures) (All-cons P first (last ∷ []) c.in_ok-first-in-Some.ensures.apart
    (All-cons P last [] c.in_ok-last.ensures.apart (All-nil P)))
