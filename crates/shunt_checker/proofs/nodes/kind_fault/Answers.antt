use Rattle.shunt_checker.proofs.NodeFindings.{kind_wrong, kind_right}
use Rattle.shunt_checker.proofs.nodes.kind_fault.Goals as goal

pub returns-then-is_other_kind : goal.returns-then-is_other_kind
returns-then-is_other_kind c =
    kind_wrong c.args.instance.now c.args.certificate.now c.args.k c.args.path.now.blocks c.is_other_kind.result c.kind_of.result c.next_unit.result c.args.path.now.covered
    c.is_other_kind.ensures c.kind_of.ensures c.next_unit.ensures c.requires.path.covered c.if-is_other_kind.true

pub returns : goal.returns
returns c =
    kind_right c.args.instance.now c.args.certificate.now c.args.k c.args.path.now.blocks c.is_other_kind.result c.kind_of.result c.next_unit.result c.args.path.now.covered
    c.is_other_kind.ensures c.kind_of.ensures c.next_unit.ensures c.requires.path.covered c.if-is_other_kind.false
