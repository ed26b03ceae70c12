use Rattle.std.specs.Prelude.{IfNone}
use Rattle.std.proofs.Common.{◌≡◌, refl, sym, ◌∙◌}
use Rattle.std.proofs.lemmas.Result.{IfOk-weaker}
use Rattle.shunt_checker.specs.defs.NodeSteps.{Judges}
use Rattle.shunt_checker.proofs.NodeFindings.{told, joined, on_none}
use Rattle.shunt_checker.proofs.Steps.{ok_always}
use Rattle.shunt_checker.proofs.nodes.shown_fault.Goals as goal

pub unreachable-requires : goal.unreachable-requires
unreachable-requires c = c.requires.kind (sym c.kind_of.ensures ∙ c.in-Whole.is)

pub leaf_fault-requires-clause-kind : goal.leaf_fault-requires-clause-kind
leaf_fault-requires-clause-kind c = sym c.kind_of.ensures ∙ c.in-Leaf.is

pub branch_fault-requires-clause-kind : goal.branch_fault-requires-clause-kind
branch_fault-requires-clause-kind c = sym c.kind_of.ensures ∙ c.in-Branch.is

pub returns-in-Some-clause-found : goal.returns-in-Some-clause-found
returns-in-Some-clause-found c = told c.args.instance.now c.args.certificate.now c.args.k c.args.path.now.blocks 5 6 8 c.in_ok-broken.broken c.in-Some.reason c.in-Some.is
    c.in_ok-broken.ensures

pub returns-in-Leaf-clause-found : goal.returns-in-Leaf-clause-found
returns-in-Leaf-clause-found c =
    IfOk-weaker c.leaf_fault.result
    (Judges c.args.instance.now c.args.certificate.now c.args.k c.args.path.now.blocks 6 8)
    (Judges c.args.instance.now c.args.certificate.now c.args.k c.args.path.now.blocks 5 8)
    (λ r next. joined c.args.instance.now c.args.certificate.now c.args.k c.args.path.now.blocks 5 6 8 c.in_ok-broken.broken r c.in_default.is c.in_ok-broken.ensures next)
    c.leaf_fault.ensures

pub returns-in-Branch-clause-found : goal.returns-in-Branch-clause-found
returns-in-Branch-clause-found c =
    IfOk-weaker c.branch_fault.result
    (Judges c.args.instance.now c.args.certificate.now c.args.k c.args.path.now.blocks 6 8)
    (Judges c.args.instance.now c.args.certificate.now c.args.k c.args.path.now.blocks 5 8)
    (λ r next. joined c.args.instance.now c.args.certificate.now c.args.k c.args.path.now.blocks 5 6 8 c.in_ok-broken.broken r c.in_default.is c.in_ok-broken.ensures next)
    c.branch_fault.ensures.found

pub returns-in-Leaf-clause-kept : goal.returns-in-Leaf-clause-kept
returns-in-Leaf-clause-kept c = ok_always c.leaf_fault.result (λ r. IfNone r (c.args.path.now ≡ c.args.path.now)) (λ r. on_none r (c.args.path.now ≡ c.args.path.now) refl)
