use mir.Syntax.{w64}
use Rattle.std.proofs.Common.{◌∙◌}
use Rattle.std.proofs.lemmas.Int.{to_z-of_z}
use Rattle.shunt_checker.proofs.Opened.{case_sum_is}
use Rattle.shunt_checker.proofs.bounds.case_sum.Goals as goal

pub returns-clause-exact : goal.returns-clause-exact
returns-clause-exact c =
    to_z-of_z w64 c.sum_at.result (record { sfits = c.sum_at.type_inv })
    ∙ case_sum_is c.args.instance.now c.args.path.now.blocks c.args.cases.now c.args.k c.get-case.result.now c.from_of-from.result c.sum_at.result c.get-case.ensures
    c.from_of-from.ensures c.sum_at.ensures.exact
