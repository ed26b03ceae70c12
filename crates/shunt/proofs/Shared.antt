-- When each status of `drivers` comes, and what its roster is.
use Rattle.std.proofs.Common.{◌≡◌, sym, ap, refl, Result, Ok, Err, List, ◌∙◌, ℕ}
use Rattle.shunt_inputs.specs.declared.answers.Outcome.{Outcome}
use Rattle.shunt_inputs.specs.declared.answers.Outcome.TheVariants as outcome
use Rattle.shunt_throat.specs.defs.Shared.{Sharable, IsShared}
use Rattle.shunt_inputs.specs.defs.Replies.{Reply, Decided}

-- ---- exactly when each status comes

pub told_outcome : (d : List ℕ) (y : Sharable) (r : Reply) → IsShared d y r → r.outcome ≡ outcome.Done
told_outcome d y r a = ap (λ (r : Reply). r.outcome) a.reply

-- an outcome of accepted files is a good end
pub record Tells (d : List ℕ) (x : Result Sharable (List ℕ)) (r : Reply) (o : Outcome) : Type 0 where
  pub value : Sharable
  pub ok : x ≡ Ok value
  pub is : IsShared d value r
  pub outcome : o ≡ outcome.Done

pub tells : (d : List ℕ) (x : Result Sharable (List ℕ)) (r : Reply) (o : Outcome) → (o ≡ outcome.Input → ⊥) → Decided x (IsShared d) r → r.outcome ≡ o → Tells d x r o
tells d (Err text) r o other is e = absurd (other (sym e ∙ ap (λ (r : Reply). r.outcome) is))
tells d (Ok y) r o other is e = record { value = y; ok = refl; is = is; outcome = sym e ∙ told_outcome d y r is }
