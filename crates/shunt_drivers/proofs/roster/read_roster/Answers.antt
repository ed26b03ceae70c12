use Rattle.std.proofs.Common.{◌∙◌, subst}
use Rattle.std.specs.Prelude.{IfOk}
use Rattle.shunt_rows.specs.defs.Formats.{reading}
use Rattle.shunt_rows.specs.defs.Given.{Gives}
use Rattle.shunt_drivers.specs.defs.RosterFormat.{roster_format, IsRoster}
use Rattle.shunt_drivers.proofs.roster.read_roster.Goals as goal

pub returns-clause-stated : goal.returns-clause-stated
returns-clause-stated c = subst (λ l. Gives (λ v. v.items) c.read_over.result (reading (roster_format l) c.args.rows.now.items))
    (c.from_vec-moves.ensures ∙ c.in_ok-events.ensures.exact) c.read_over.ensures.stated

pub returns-clause-formed : goal.returns-clause-formed
returns-clause-formed c = subst (λ l. IfOk c.read_over.result (λ v. IsRoster l v.items)) (c.from_vec-moves.ensures ∙ c.in_ok-events.ensures.exact) c.read_over.ensures.formed
