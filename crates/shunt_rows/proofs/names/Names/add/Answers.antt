use Rattle.shunt_rows.proofs.Numbers.{name_added}
use Rattle.shunt_rows.proofs.names.Names.add.Goals as goal

pub returns-clause-added : goal.returns-clause-added
returns-clause-added c = name_added c.args.name c.self.inside.names.keys _ _ c.self.view_is c.requires c.in_ok-insert.ensures.keys
