-- The greatest delay, from what stops the train at each number of minutes.
use Rattle.std.specs.Prelude.{Some, None, ◌==◌}
use Rattle.std.proofs.Common.{◌≡◌, ⊎_elim, ℕ, ◌+◌, ◌<◌, ◌≤◌, List, refl, sym, subst, ap, ◌∙◌, arith}
use Rattle.std.proofs.lemmas.Bool.{cases_lt, cond-true, cond-false, ne_eqb}
use Rattle.shunt_base.specs.declared.ids.ArrId.{ArrId}
use Rattle.shunt_instance.specs.defs.Instance.{Night}
use Rattle.shunt_blocks.specs.declared.records.Block.{Block}
use Rattle.shunt_delay.specs.declared.records.Stop.{Stop}
use Rattle.shunt_delay.specs.declared.records.Stop.TheVariants.{Limit}
use Rattle.shunt_delay.specs.defs.Late.{late}
use Rattle.shunt_delay.specs.defs.Delays.{StaysFeasible, delay_findings, first, IsDelay}
use Rattle.shunt_delay.specs.defs.Kept.{Stops}
use Rattle.shunt_delay.proofs.Lately.{never_late}

-- so far nothing has stopped the train
abbrev pub BearsBelow : Night → List Block → ℕ → ℕ → Type 0
BearsBelow night blocks i m = (e : ℕ) → e < m → StaysFeasible (late i e night) blocks

pub at_first : (night : Night) (blocks : List Block) (i : ℕ) → StaysFeasible night blocks → BearsBelow night blocks i 1
at_first night blocks i feasible e lt =
    let none : 0 ≡ e = omega arith in
    subst (λ (k : ℕ). StaysFeasible (late i k night) blocks) none (subst (λ (w : Night). StaysFeasible w blocks) (sym (never_late i night)) feasible)

pub one_more : (night : Night) (blocks : List Block) (i m : ℕ) → BearsBelow night blocks i m → StaysFeasible (late i m night) blocks → BearsBelow night blocks i (m + 1)
one_more night blocks i m below here e lt = ⊎_elim (λ less. below e less) (λ le. let same : m
    ≡ e = omega arith in subst (λ (k : ℕ). StaysFeasible (late i k night) blocks) same here) (cases_lt e m)

pub at_stop : (night : Night) (blocks : List Block) (train : ArrId) (m low : ℕ) (stop : Stop) → low + 1 ≡ m → m ≤ 120 → BearsBelow night blocks train.0 m
    → Stops (late train.0 m night) blocks (Some stop) → IsDelay night blocks (record { train = train; minutes = low; stop = stop })
at_stop night blocks train m low stop next few below stops = record {
  bears = record { most = omega arith; each = λ e le. below e (omega arith) };
  greatest = λ d b. ⊎_elim (λ lt. absurd (stops.1 (b.each m (omega arith)))) (λ le. le) (cases_lt low d);
  stop = stops.0 ∙ ap (λ (k : ℕ). first (delay_findings (late train.0 k night) blocks)) (sym next)
      ∙ sym (cond-false (low == 120) None (first (delay_findings (late train.0 (low + 1) night) blocks)) (ne_eqb low 120 (λ e. omega arith)));
}

pub at_limit : (night : Night) (blocks : List Block) (train : ArrId) → BearsBelow night blocks train.0 121
    → IsDelay night blocks (record { train = train; minutes = 120; stop = Limit })
at_limit night blocks train below = record {
  bears = record { most = omega arith; each = λ e le. below e (omega arith) };
  greatest = λ d b. b.most;
  stop = sym (cond-true (120 == 120) None (first (delay_findings (late train.0 121 night) blocks)) refl);
}
