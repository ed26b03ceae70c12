-- One bound decides what is reached; and a block that comes to a path is the one by which it is longer.
use Rattle.std.specs.Prelude.{◌↔◌, ◌≤ℤ◌, All}
use Rattle.std.proofs.Common.{◌≡◌, ◌≤◌, List, [], ◌∷◌, ◌++◌, length, ℤ, refl, sym, subst, ◌∙◌, arith}
use Rattle.std.proofs.lemmas.Int.{ints}
use Rattle.std.proofs.lemmas.List.{append_cancel_left}
use Rattle.shunt_base.specs.declared.duals.Case.{Case}
use Rattle.shunt_instance.specs.defs.Instance.{Night, IsInstance}
use Rattle.shunt_blocks.specs.declared.records.Block.{Block}
use Rattle.shunt_blocks.specs.defs.Shapes.{shape_of, IsWithinTrains}
use Rattle.shunt_blocks.specs.defs.Lists.{ShareNothing, RunsThrough, placed}
use Rattle.shunt_choices.specs.defs.Paths.{masks_of}
use Rattle.shunt_prices.specs.defs.Cases.{IsFreeBlock}
use Rattle.shunt_prices.specs.defs.Bounds.{IsCasesBound}
use Rattle.shunt_stacks.specs.defs.Bounds.{IsStackBound, IsChoiceBound}
use Rattle.shunt_proof.specs.declared.records.Version.{Version}
use Rattle.shunt_proof.specs.declared.records.Version.TheVariants.{Prices, Stacks}
use Rattle.shunt_proof.specs.defs.Versions.{IsBoundIn, IsStepBoundIn, ReachesIn, StepReachesIn}

-- ---- the block of a step

first : (a b : Block) → a ∷ [] ≡ b ∷ [] → a ≡ b
first a b e = cc

pub last_block : (path : List Block) (a b : Block) → path ++ a ∷ [] ≡ path ++ b ∷ [] → a ≡ b
last_block path a b e = first a b (append_cancel_left path (a ∷ []) (b ∷ []) e)

-- with stacks the bound of a step is that of its block as a choice
pub step_choice : (night : Night) (path : List Block) (b : Block) (cases : List Case) (bound : ℤ) → IsStepBoundIn Stacks night path (path ++ b ∷ []) cases bound
    → IsChoiceBound night path b cases bound
step_choice night path b cases bound s = subst (λ (x : Block). IsChoiceBound night path x cases bound) (sym (last_block path b s.0 s.1)) s.2

pub choice_step : (night : Night) (path : List Block) (b : Block) (cases : List Case) (bound : ℤ) → IsChoiceBound night path b cases bound
    → IsStepBoundIn Stacks night path (path ++ b ∷ []) cases bound
choice_step night path b cases bound is = (b, refl, is)

-- ---- one bound

-- what the laws of the crates below say
pub record OneLaws : Type 0 where
  pub cases : (night : Night) (path : List Block) (cases : List Case) (x y : ℤ) → IsCasesBound night path cases x → IsCasesBound night path cases y → x ≡ y
  pub stacks : (night : Night) (path : List Block) (cases : List Case) (x y : ℤ) → IsStackBound night path cases x → IsStackBound night path cases y → x ≡ y
  pub choice : (night : Night) (path : List Block) (b : Block) (cases : List Case) (x y : ℤ) → IsChoiceBound night path b cases x → IsChoiceBound night path b cases y → x ≡ y

module _ (laws : OneLaws) where
  pub one_bound : (version : Version) (night : Night) (path : List Block) (cases : List Case) (x y : ℤ) → IsBoundIn version night path cases x
      → IsBoundIn version night path cases y → x ≡ y
  one_bound Prices night path cases x y a b = laws.cases night path cases x y a b
  one_bound Stacks night path cases x y a b = laws.stacks night path cases x y a b

  pub one_step : (version : Version) (night : Night) (path longer : List Block) (cases : List Case) (x y : ℤ) → IsStepBoundIn version night path longer cases x
      → IsStepBoundIn version night path longer cases y → x ≡ y
  one_step Prices night path longer cases x y a b = laws.cases night longer cases x y a b
  one_step Stacks night path longer cases x y a b =
      let same = last_block path b.0 a.0 (sym b.1 ∙ a.1) in
      laws.choice night path a.0 cases x y a.2 (subst (λ (c : Block). IsChoiceBound night path c cases y) same b.2)

  low : (L bound other : ℤ) → bound ≡ other → L ≤ℤ other → L ≤ℤ bound
  low L bound other e le = omega (arith, ints, e, le)

  pub bound_decides : (version : Version) (night : Night) (path : List Block) (cases : List Case) (bound L : ℤ) → IsBoundIn version night path cases bound
      → ReachesIn version night path cases L ↔ (L ≤ℤ bound)
  bound_decides version night path cases bound L is = (λ r. low L bound r.0 (one_bound version night path cases bound r.0 is r.1) r.2, λ le. (bound, is, le))

  pub step_decides : (version : Version) (night : Night) (path longer : List Block) (cases : List Case) (bound L : ℤ) → IsStepBoundIn version night path longer cases bound
      → StepReachesIn version night path longer cases L ↔ (L ≤ℤ bound)
  step_decides version night path longer cases bound L is = (λ r. low L bound r.0 (one_step version night path longer cases bound r.0 is r.1) r.2, λ le. (bound, is, le))

-- ---- some bound

pub record ThereLaws : Type 0 where
  pub cases : (night : Night) (path : List Block) (cases : List Case) → 1 ≤ length cases → (bound : ℤ) × IsCasesBound night path cases bound
  pub stacks : (night : Night) (path : List Block) (cases : List Case) → IsInstance night → All (IsWithinTrains night) path → ShareNothing night path
      → RunsThrough night (placed path)
      → 1 ≤ length cases → (bound : ℤ) × IsStackBound night path cases bound
  pub choice : (night : Night) (path : List Block) (b : Block) (cases : List Case) → IsInstance night → All (IsWithinTrains night) path → ShareNothing night path
      → IsFreeBlock night (masks_of night path) (shape_of b) b.park
      → RunsThrough night (placed (path ++ b ∷ [])) → 1 ≤ length cases → (bound : ℤ) × IsChoiceBound night path b cases bound

module _ (laws : ThereLaws) where
  pub some_bound : (version : Version) (night : Night) (path : List Block) (cases : List Case) → IsInstance night → All (IsWithinTrains night) path → ShareNothing night path
      → RunsThrough night (placed path)
      → 1 ≤ length cases → (bound : ℤ) × IsBoundIn version night path cases bound
  some_bound Prices night path cases i within apart go some = laws.cases night path cases some
  some_bound Stacks night path cases i within apart go some = laws.stacks night path cases i within apart go some

  pub some_step : (version : Version) (night : Night) (path : List Block) (b : Block) (cases : List Case) → IsInstance night → All (IsWithinTrains night) path
      → ShareNothing night path
      → IsFreeBlock night (masks_of night path) (shape_of b) b.park → RunsThrough night (placed (path ++ b ∷ [])) → 1 ≤ length cases
      → (bound : ℤ) × IsStepBoundIn version night path (path ++ b ∷ []) cases bound
  some_step Prices night path b cases i within apart free go some = laws.cases night (path ++ b ∷ []) cases some
  some_step Stacks night path b cases i within apart free go some =
      let t = laws.choice night path b cases i within apart free go some in
      (t.0, choice_step night path b cases t.0 t.1)
