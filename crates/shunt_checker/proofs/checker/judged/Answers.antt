use Rattle.std.proofs.Common.{◌≡◌, ◌≤◌, List, length, refl, sym, subst, ◌∙◌}
use Rattle.std.proofs.lemmas.List.Sorted.{length_permutation}
use Rattle.shunt_proof.specs.declared.records.Node.{Node}
use Rattle.shunt_proof.specs.defs.Nodes.{AreNodes}
use Rattle.shunt_proof.specs.defs.CertificateRows.{row_of}
use Rattle.shunt_checker.proofs.Steps.{runs_from, each_from}
use Rattle.shunt_checker.proofs.Verdicts.{of_plan, node_there, of_node, of_end, accepted}
use Rattle.shunt_checker.proofs.checker.judged.Goals as goal

pub start_with-requires-clause-in_range : goal.start_with-requires-clause-in_range
start_with-requires-clause-in_range c = c.requires.pins.in_range.each

pub start_with-requires-clause-apart : goal.start_with-requires-clause-apart
start_with-requires-clause-apart c = c.requires.pins.apart

pub first_fault-requires : goal.first_fault-requires
first_fault-requires c = (
  c.requires.certificate,
  (
    c.in_ok-path.ensures.of,
    (
      refl,
      (
        c.in_ok-path.ensures.pins ∙ sym (length_permutation c.args.pins.now c.in_ok-path.path.blocks c.in_ok-path.ensures.same),
        (
          runs_from (c.starts.ensures.partial c.args.instance.now c.args.pins.now c.in_ok-path.path.blocks c.units.ensures.formed c.requires.pins
              (record { same = c.in_ok-path.ensures.same; rises = c.in_ok-path.ensures.order })),
          each_from (c.starts.ensures.partial c.args.instance.now c.args.pins.now c.in_ok-path.path.blocks c.units.ensures.formed c.requires.pins
              (record { same = c.in_ok-path.ensures.same; rises = c.in_ok-path.ensures.order })),
        ),
      ),
    ),
  ),
)

pub row_of-row-requires-clause-nodes : goal.row_of-row-requires-clause-nodes
row_of-row-requires-clause-nodes c = subst (AreNodes c.args.instance.now) (sym c.as_slice-nodes.ensures) c.requires.certificate.nodes

pub row_of-row-requires-clause-few : goal.row_of-row-requires-clause-few
row_of-row-requires-clause-few c = subst (λ (ns : List Node). length ns ≤ 5000) (sym c.as_slice-nodes.ensures) c.requires.certificate.few

pub row_of-row-requires-clause-there : goal.row_of-row-requires-clause-there
row_of-row-requires-clause-there c =
    subst (λ (ns : List Node). c.in-Some-found.fault.node ≤ length ns) (sym c.as_slice-nodes.ensures)
    (node_there c.args.instance.now c.in_ok-path.path.blocks c.args.certificate.now c.in_ok-found.found c.in-Some-found.fault c.in-Some-found.is c.in_ok-found.ensures)

pub row_of-end-requires-clause-nodes : goal.row_of-end-requires-clause-nodes
row_of-end-requires-clause-nodes c = subst (AreNodes c.args.instance.now) (sym c.as_slice-nodes.ensures) c.requires.certificate.nodes

pub row_of-end-requires-clause-few : goal.row_of-end-requires-clause-few
row_of-end-requires-clause-few c = subst (λ (ns : List Node). length ns ≤ 5000) (sym c.as_slice-nodes.ensures) c.requires.certificate.few

pub returns-in-Some : goal.returns-in-Some
returns-in-Some c =
    of_plan c.args.instance.now c.args.pins.now c.args.plan.now c.args.certificate.now c.in_ok-path.path.blocks
    (record { same = c.in_ok-path.ensures.same; rises = c.in_ok-path.ensures.order })
    c.in_ok-finding.finding c.in_ok-finding.ensures c.in-Some.fault c.in-Some.is

pub returns-in-Some-found : goal.returns-in-Some-found
returns-in-Some-found c =
    of_node c.args.instance.now c.args.pins.now c.args.plan.now c.args.certificate.now c.in_ok-path.path.blocks
    (record { same = c.in_ok-path.ensures.same; rises = c.in_ok-path.ensures.order })
    c.in_ok-finding.finding c.in_ok-finding.ensures c.in_default.is c.in_ok-found.found c.in_ok-found.ensures c.in-Some-found.fault c.row_of-row.result c.in-Some-found.is
    (subst (λ (ns : List Node). c.row_of-row.result ≡ row_of ns c.in-Some-found.fault.node) c.as_slice-nodes.ensures c.row_of-row.ensures)

pub returns-in-Some-wrong : goal.returns-in-Some-wrong
returns-in-Some-wrong c =
    of_end c.args.instance.now c.args.pins.now c.args.plan.now c.args.certificate.now c.in_ok-path.path.blocks
    (record { same = c.in_ok-path.ensures.same; rises = c.in_ok-path.ensures.order })
    c.in_ok-finding.finding c.in_ok-finding.ensures c.in_default.is c.in_ok-found.found c.in_ok-found.ensures c.in_default-found.is c.cost_reason-wrong.result c.plan_cost.result
    c.plan_cost.ensures.exact
    c.row_of-end.result c.in-Some-wrong.reason c.in-Some-wrong.is c.cost_reason-wrong.ensures.some
    (subst (λ (ns : List Node). c.row_of-end.result ≡ row_of ns (length ns)) c.as_slice-nodes.ensures c.row_of-end.ensures)

pub returns : goal.returns
returns c =
    accepted c.args.instance.now c.args.pins.now c.args.plan.now c.args.certificate.now c.in_ok-path.path.blocks
    (record { same = c.in_ok-path.ensures.same; rises = c.in_ok-path.ensures.order })
    c.in_ok-finding.finding c.in_ok-finding.ensures c.in_default.is c.in_ok-found.found c.in_ok-found.ensures c.in_default-found.is c.cost_reason-wrong.result c.plan_cost.result
    c.plan_cost.ensures.exact
    c.in_default-wrong.is c.cost_reason-wrong.ensures.none
