use Rattle.std.specs.Prelude.{Some}
use Rattle.std.proofs.Common.{sym, ap, ◌∙◌}
use Rattle.shunt_base.specs.declared.duals.Case.{Case}
use Rattle.shunt_base.proofs.Copied.{one_of, two_of, few_of}
use Rattle.shunt_base.proofs.copies.copy_cases.Goals as goal

pub returns-then-count-eq1 : goal.returns-then-count-eq1
returns-then-count-eq1 c =
    c.one.ensures ∙ one_of c.args.cases.now c.in_ok-first.first (sym c.len-count.ensures.value ∙ c.if-count-eq1.true)
    (c.get.ensures ∙ ap (λ (d : Case). Some d) (sym c.in_ok-first.ensures))

pub returns : goal.returns
returns c =
    c.two.ensures ∙ two_of c.args.cases.now c.in_ok-first.first c.in_ok-second.second (few_of c.args.cases.now c.len-count.result c.len-count.ensures.value c.len-count.ensures.few)
    (c.get.ensures ∙ ap (λ (d : Case). Some d) (sym c.in_ok-first.ensures)) (c.get-2.ensures ∙ ap (λ (d : Case). Some d) (sym c.in_ok-second.ensures))
