use Rattle.std.proofs.Common.{sym, ◌∙◌}
use Rattle.shunt_choices.proofs.Runs.{starts_blocked}
use Rattle.shunt_choices.proofs.free.reach_at.Goals as goal

pub returns-else-is_free_pair-clause-exact : goal.returns-else-is_free_pair-clause-exact
returns-else-is_free_pair-clause-exact c = starts_blocked c.args.instance.now c.args.covered.now c.args.u c.args.v (sym c.is_free_pair.ensures ∙ c.if-is_free_pair.false)
