use Rattle.std.proofs.Common.{rules, ◌≡◌, sym, subst}
use Rattle.std.specs.Prelude.{All}
use Rattle.shunt_audit.specs.defs.Findings.{IsOfNight}
use Rattle.shunt_audit.specs.defs.Plans.{ArePlanFindings, plan_findings}
use Rattle.shunt_audit.proofs.Stated.{plan_found, plan_numbered}
use Rattle.shunt_audit.proofs.auditor.audit.Goals as goal

pub returns-clause-findings : goal.returns-clause-findings
unfolding plan_findings
returns-clause-findings c = search rules

pub returns-clause-told : goal.returns-clause-told
returns-clause-told c =
    let is : c.from_vec.result ≡ plan_findings c.args.instance.now c.args.plan.now = returns-clause-findings c in
    subst (ArePlanFindings c.args.instance.now c.args.plan.now) (sym is) (plan_found c.args.instance.now c.args.plan.now c.requires.blocks)

pub returns-clause-of_night : goal.returns-clause-of_night
returns-clause-of_night c =
    let is : c.from_vec.result ≡ plan_findings c.args.instance.now c.args.plan.now = returns-clause-findings c in
    subst (All (IsOfNight c.args.instance.now)) (sym is) (plan_numbered c.args.instance.now c.args.plan.now)
