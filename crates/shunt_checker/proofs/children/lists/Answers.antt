use Rattle.shunt_checker.proofs.Siblings.{listed_is}
use Rattle.shunt_checker.proofs.children.lists.Goals as goal

pub returns : goal.returns
returns c = λ start. listed_is c.args.instance.now start c.args.nodes.now c.args.k c.args.choice c.has_child.result c.has_child.ensures
