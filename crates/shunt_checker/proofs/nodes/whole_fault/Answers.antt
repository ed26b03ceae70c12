use Rattle.shunt_checker.proofs.NodeFindings.{whole_judged}
use Rattle.shunt_checker.proofs.nodes.whole_fault.Goals as goal

pub returns : goal.returns
returns c =
    whole_judged c.args.instance.now c.args.certificate.now c.args.k c.args.path.now.blocks c.path_cost.result c.path_cost.ensures.exact c.requires.kind c.whole_reason.result
    c.whole_reason.ensures.some c.whole_reason.ensures.none
