-- If cases break: a case, and a free shape with an option that weighs less in it than its duals.
use Rattle.std.specs.Prelude.{◌≡◌, ◌⊎◌, ℕ, ◌<◌, length, List, Option, Some, None}
use Rattle.shunt_base.specs.declared.duals.Case.{Case}
use Rattle.shunt_instance.specs.defs.Instance.{Night}
use Rattle.shunt_choices.specs.defs.Paths.{Masks}
use Rattle.shunt_choices.specs.defs.Choices.{Choice as PathChoice}
use Rattle.shunt_prices.specs.defs.Limits.{case_at}
use Rattle.shunt_proof.specs.declared.records.Version.{Version}
use Rattle.shunt_checker.specs.declared.cases.Break.{Break}
use Rattle.shunt_checker.specs.defs.Lights.{IsFreeLight}
use Rattle.shunt_checker.specs.defs.NodeFaults.{EarlierChoice}

-- in the case with a number, a free shape with an option that has room and is asked weighs less than its duals
pub record IsBreak (version : Version) (night : Night) (covered : Masks) (cases : List Case) (b : Break) : Type 0 where
  pub there : b.case < length cases
  pub light : IsFreeLight version night covered (case_at cases b.case) b.offer

-- the same in one case
pub record IsBreakIn (version : Version) (night : Night) (covered : Masks) (cases : List Case) (k : ℕ) (b : Break) : Type 0 where
  pub is : IsBreak version night covered cases b
  pub of_case : b.case ≡ k

-- by case, then by choice
abbrev pub BreakBefore : Night → Break → Break → Type 0
BreakBefore night a b = (a.case < b.case) ⊎ ((a.case ≡ b.case) × EarlierChoice night a.offer b.offer)

-- a choice that breaks in the case with a number, or none
abbrev pub numbered : ℕ → Option PathChoice → Option Break
numbered k None = None
numbered k (Some c) = Some (record { case = k; offer = c })
