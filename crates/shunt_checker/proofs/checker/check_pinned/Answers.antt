use Rattle.std.specs.Prelude.{◌↔◌}
use Rattle.std.proofs.Common.{◌≡◌, ◌≤◌, ℕ, List, subst}
use Rattle.std.proofs.lemmas.Result.{IfOk-weaker}
use Rattle.shunt_blocks.specs.declared.records.Block.{Block}
use Rattle.shunt_blocks.specs.defs.Lists.{IsFeasible, total_cost}
use Rattle.shunt_blocks.specs.defs.Pins.{Keeps}
use Rattle.shunt_proof.specs.defs.Accepted.{IsAccepted}
use Rattle.shunt_checker.specs.declared.verdict.Verdict.TheVariants as verdict
use Rattle.shunt_checker.specs.defs.Verdicts.{IsVerdict, Accepts}
use Rattle.shunt_checker.proofs.checker.check_pinned.Goals as goal

pub returns-clause-accepted : goal.returns-clause-accepted
returns-clause-accepted c =
    IfOk-weaker c.judged.result (IsVerdict c.args.instance.now c.args.pins.now c.args.plan.now c.args.certificate.now)
    (λ v. Accepts v ↔ IsAccepted c.args.instance.now c.args.pins.now c.args.plan.now.blocks c.args.plan.now.cost c.args.certificate.now)
    (λ v h. c.reasons.ensures.verdict c.args.instance.now c.args.pins.now c.args.plan.now c.args.certificate.now v c.units.ensures.formed c.requires.plan c.requires.keeps
    c.requires.certificate (λ e. c.requires.pins) h)
    c.judged.ensures

pub returns-clause-bound : goal.returns-clause-bound
returns-clause-bound c =
    IfOk-weaker c.judged.result (IsVerdict c.args.instance.now c.args.pins.now c.args.plan.now c.args.certificate.now)
    (λ v. (bound : ℕ) (other : List Block) → v ≡ verdict.Accepted bound → IsFeasible c.args.instance.now other → Keeps other c.args.pins.now
    → bound ≤ total_cost c.args.instance.now other)
    (λ v h bound other e feasible keeps. c.reasons.ensures.bound c.args.instance.now c.args.pins.now c.args.plan.now c.args.certificate.now bound other c.units.ensures.formed
    c.requires.plan c.requires.keeps c.requires.certificate c.requires.pins
    (subst (IsVerdict c.args.instance.now c.args.pins.now c.args.plan.now c.args.certificate.now) e h) feasible keeps)
    c.judged.ensures
