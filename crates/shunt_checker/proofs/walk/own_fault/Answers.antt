use Rattle.std.proofs.Common.{◌≡◌, refl, sym, subst, ◌∙◌, List}
use Rattle.std.proofs.lemmas.Result.{IfOk-weaker}
use Rattle.shunt_base.specs.declared.duals.Case.{Case}
use Rattle.shunt_prices.specs.defs.Limits.{AreCases}
use Rattle.shunt_proof.specs.declared.records.NodeKind.TheVariants.{Whole}
use Rattle.shunt_checker.specs.defs.NodeSteps.{Judges}
use Rattle.shunt_checker.proofs.Looked.{against}
use Rattle.shunt_checker.proofs.NodeFindings.{told, joined, on_none}
use Rattle.shunt_checker.proofs.walk.own_fault.Goals as goal

pub whole_fault-requires-clause-kind : goal.whole_fault-requires-clause-kind
whole_fault-requires-clause-kind c = sym c.kind_of.ensures ∙ c.is_whole.ensures.0 c.if-is_whole.true

pub cases_at-cases-requires : goal.cases_at-cases-requires
cases_at-cases-requires c = c.requires.owner (λ whole. against c.is_whole.result (c.kind_of.result ≡ Whole) c.is_whole.ensures c.if-is_whole.false (c.kind_of.ensures ∙ whole))

pub shown_fault-requires-clause-kind : goal.shown_fault-requires-clause-kind
shown_fault-requires-clause-kind c = λ whole. against c.is_whole.result (c.kind_of.result ≡ Whole) c.is_whole.ensures c.if-is_whole.false (c.kind_of.ensures ∙ whole)

pub shown_fault-requires-clause-cases : goal.shown_fault-requires-clause-cases
shown_fault-requires-clause-cases c =
    subst (λ (cs : List Case). AreCases c.args.instance.now cs) (sym c.cases_at-cases.ensures)
    (c.parents.ensures.cases c.args.instance.now c.args.certificate.now.nodes c.args.k c.requires.nodes c.requires.there
    (λ whole. against c.is_whole.result (c.kind_of.result ≡ Whole) c.is_whole.ensures c.if-is_whole.false (c.kind_of.ensures ∙ whole)))

pub returns-in-Some-clause-found : goal.returns-in-Some-clause-found
returns-in-Some-clause-found c = told c.args.instance.now c.args.certificate.now c.args.k c.args.path.now.blocks 4 5 8 c.kind_fault-other.result c.in-Some.reason c.in-Some.is
    c.kind_fault-other.ensures

pub returns-then-is_whole-clause-found : goal.returns-then-is_whole-clause-found
returns-then-is_whole-clause-found c =
    joined c.args.instance.now c.args.certificate.now c.args.k c.args.path.now.blocks 4 5 8 c.kind_fault-other.result c.whole_fault.result c.in_default.is
    c.kind_fault-other.ensures c.whole_fault.ensures

pub returns-then-is_whole-clause-kept : goal.returns-then-is_whole-clause-kept
returns-then-is_whole-clause-kept c = on_none c.whole_fault.result (c.args.path.now ≡ c.args.path.now) refl

pub returns-clause-found : goal.returns-clause-found
returns-clause-found c =
    IfOk-weaker c.shown_fault.result
    (Judges c.args.instance.now c.args.certificate.now c.args.k c.args.path.now.blocks 5 8)
    (Judges c.args.instance.now c.args.certificate.now c.args.k c.args.path.now.blocks 4 8)
    (λ r next. joined c.args.instance.now c.args.certificate.now c.args.k c.args.path.now.blocks 4 5 8 c.kind_fault-other.result r c.in_default.is c.kind_fault-other.ensures next)
    c.shown_fault.ensures.found
