use Rattle.std.proofs.Common.{◌≡◌, ◌≤◌, ℕ, List, [], refl, arith, rules}
use Rattle.std.proofs.lemmas.Result.{IfOk-weaker}
use Rattle.shunt_blocks.specs.declared.records.Block.{Block}
use Rattle.shunt_blocks.specs.defs.Lists.{IsFeasible, total_cost}
use Rattle.shunt_blocks.specs.defs.Pins.{Keeps}
use Rattle.shunt_checker.specs.declared.verdict.Verdict.TheVariants as verdict
use Rattle.shunt_checker.proofs.checker.check.Goals as goal

pub check_pinned-requires-clause-pins : goal.check_pinned-requires-clause-pins
check_pinned-requires-clause-pins c = record {
  in_range = record { few = omega arith; each = λ k d lt. absurd (omega (arith, lt)); ids = search rules };
  each = λ k d lt. absurd (omega (arith, lt));
  apart = record { units = λ u. omega arith; positions = λ v. omega arith };
  through = refl;
}

pub check_pinned-requires-clause-keeps : goal.check_pinned-requires-clause-keeps
check_pinned-requires-clause-keeps c = λ k d lt. absurd (omega (arith, lt))

pub returns-clause-bound : goal.returns-clause-bound
returns-clause-bound c =
    IfOk-weaker c.check_pinned.result
    (λ v. (bound : ℕ) (other : List Block) → v ≡ verdict.Accepted bound → IsFeasible c.args.instance.now other → Keeps other [] → bound ≤ total_cost c.args.instance.now other)
    (λ v. (bound : ℕ) (other : List Block) → v ≡ verdict.Accepted bound → IsFeasible c.args.instance.now other → bound ≤ total_cost c.args.instance.now other)
    (λ v h bound other e feasible. h bound other e feasible (λ k d lt. absurd (omega (arith, lt))))
    c.check_pinned.ensures.bound
