-- What holds of either version: which bounds there are, and what is asked.
use Rattle.std.specs.Prelude.{◌≤ℤ◌, All, None}
use Rattle.std.proofs.Common.{◌≡◌, ℕ, ◌+◌, ◌≤◌, List, [], ◌∷◌, ◌++◌, length, ℤ, refl, arith}
use Rattle.std.proofs.lemmas.Int.{ints, by_lt_z}
use Rattle.std.proofs.lemmas.List.Elements.{All-from_get_or}
use Rattle.shunt_base.specs.declared.duals.Case.{Case}
use Rattle.shunt_instance.specs.defs.Instance.{Night, IsInstance}
use Rattle.shunt_blocks.specs.declared.records.Block.{Block}
use Rattle.shunt_blocks.specs.defs.Shapes.{IsWithinTrains, shape_of}
use Rattle.shunt_blocks.specs.defs.Lists.{ShareNothing, RunsThrough, placed}
use Rattle.shunt_choices.specs.defs.Paths.{Masks, masks_of, next_of}
use Rattle.shunt_choices.specs.defs.Choices.{Choice as PathChoice, IsChoiceAt, longer_by, chosen}
use Rattle.shunt_choices.proofs.AtPaths.{for_next}
use Rattle.shunt_prices.specs.defs.Limits.{case_at}
use Rattle.shunt_prices.specs.defs.Cases.{IsFreeBlock, HasRoom, HoldsInCase, weight_with, duals_over}
use Rattle.shunt_prices.specs.defs.Bounds.{IsCasesBound}
use Rattle.shunt_stacks.specs.defs.Cases.{HoldsBesideStacks}
use Rattle.shunt_proof.specs.declared.records.Version.{Version}
use Rattle.shunt_proof.specs.declared.records.Version.TheVariants.{Prices, Stacks}
use Rattle.shunt_proof.specs.defs.Versions.{HoldIn, IsBoundIn, IsStepBoundIn}
use Rattle.shunt_checker.specs.defs.Asked.{IsAsked, HoldsBy}
use Rattle.shunt_checker.specs.defs.NodeFaults.{IsBroken}

-- blocks of a night that share nothing and whose run goes through
pub record IsSolid (night : Night) (path : List Block) : Type 0 where
  pub formed : IsInstance night
  pub within : All (IsWithinTrains night) path
  pub apart : ShareNothing night path
  pub through : RunsThrough night (placed path)

-- the block of a choice at a path is free there
pub free_at : (night : Night) (path : List Block) (d : PathChoice) → IsChoiceAt night path d → IsFreeBlock night (masks_of night path) d.shape d.option
free_at night path d is =
    let own = (for_next night path (next_of (masks_of night path)) d is).1 in
    record { shape = own.shape; option = own.option }

-- ---- bounds

pub record BoundLaws (night : Night) : Type 0 where
  pub of_cases : (path : List Block) (cases : List Case) → 1 ≤ length cases → (bound : ℤ) × IsCasesBound night path cases bound
  pub some : (version : Version) (path : List Block) (cases : List Case) → IsInstance night → All (IsWithinTrains night) path → ShareNothing night path →
      RunsThrough night (placed path) → 1 ≤ length cases → (bound : ℤ) × IsBoundIn version night path cases bound
  pub some_step : (version : Version) (path : List Block) (b : Block) (cases : List Case) → IsInstance night → All (IsWithinTrains night) path →
      ShareNothing night path → IsFreeBlock night (masks_of night path) (shape_of b) b.park → RunsThrough night (placed (path ++ b ∷ [])) → 1 ≤ length cases →
      (bound : ℤ) × IsStepBoundIn version night path (path ++ b ∷ []) cases bound

module _ (night : Night) (laws : BoundLaws night) where
  pub bound_there : (version : Version) (path : List Block) (cases : List Case) → (version ≡ Stacks → IsSolid night path) → 1 ≤ length cases
      → (bound : ℤ) × IsBoundIn version night path cases bound
  bound_there Prices path cases solid n = laws.of_cases path cases n
  bound_there Stacks path cases solid n = let s = solid refl in laws.some Stacks path cases s.formed s.within s.apart s.through n

  pub step_there : (version : Version) (path : List Block) (d : PathChoice) (cases : List Case) → (version ≡ Stacks → IsSolid night path) → IsChoiceAt night path d
      → RunsThrough night (placed (longer_by path d)) → 1 ≤ length cases → (bound : ℤ) × IsStepBoundIn version night path (longer_by path d) cases bound
  step_there Prices path d cases solid there through n = laws.of_cases (longer_by path d) cases n
  step_there Stacks path d cases solid there through n =
      let s = solid refl in
      laws.some_step Stacks path (chosen (length path + 1) d) cases s.formed s.within s.apart (free_at night path d there) through n

-- ---- what is asked

pub unparked_asked : (version : Version) → IsAsked version None
unparked_asked Prices = tt
unparked_asked Stacks = refl

module _ (night : Night) (path : List Block) (cases : List Case) where
  -- cases of which none breaks hold
  pub hold_if : (version : Version) → ((m : ℕ) (d : PathChoice) → IsBroken version night path cases m d → ⊥) → HoldIn version night path cases
  hold_if Prices never = All-from_get_or (HoldsInCase night (masks_of night path)) cases _ (λ m lt. record {
    holds = λ s park free room. by_lt_z (weight_with night (case_at cases m) s park) (duals_over night (case_at cases m).duals s)
        (λ light. absurd (never m (record { shape = s; option = park }) (record { case = lt; free = free; room = room; asked = tt; light = light })))
        (λ le. le);
  })
  hold_if Stacks never = All-from_get_or (HoldsBesideStacks night (masks_of night path)) cases _ (λ m lt. record {
    holds = λ s park free own room. by_lt_z (weight_with night (case_at cases m) s park) (duals_over night (case_at cases m).duals s)
        (λ light. absurd (never m (record { shape = s; option = park }) (record { case = lt; free = free; room = room; asked = own; light = light })))
        (λ le. le);
  })

  -- and cases that hold don't break
  pub held_at : (version : Version) → HoldIn version night path cases → (m : ℕ) (d : PathChoice) → IsBroken version night path cases m d → ⊥
  held_at Prices hold m d b =
      let held : HoldsInCase night (masks_of night path) (case_at cases m) = hold m _ b.case in
      let le = held.holds d.shape d.option b.free b.room in
      let lt = b.light in
      omega (arith, ints, le, lt)
  held_at Stacks hold m d b =
      let held : HoldsBesideStacks night (masks_of night path) (case_at cases m) = hold m _ b.case in
      let le = held.holds d.shape d.option b.free b.asked b.room in
      let lt = b.light in
      omega (arith, ints, le, lt)

  pub each_holds : (version : Version) → HoldIn version night path cases → All (HoldsBy version night (masks_of night path)) cases
  each_holds Prices hold = hold
  each_holds Stacks hold = hold

-- what holds in a case doesn't break in it
pub held_by : (version : Version) (night : Night) (covered : Masks) (c : Case) (d : PathChoice) → HoldsBy version night covered c → IsFreeBlock night covered d.shape d.option
    → HasRoom night d.shape d.option → IsAsked version d.option
    → duals_over night c.duals d.shape ≤ℤ weight_with night c d.shape d.option
held_by Prices night covered c d hold free room asked = hold.holds d.shape d.option free room
held_by Stacks night covered c d hold free room asked = hold.holds d.shape d.option free asked room

-- cases that hold at a path hold at a longer one
pub hold_longer : (version : Version) (night : Night) (path : List Block) (b : Block) (cases : List Case)
    → (HoldIn Prices night path cases → HoldIn Prices night (path ++ b ∷ []) cases)
    → (HoldIn Stacks night path cases → HoldIn Stacks night (path ++ b ∷ []) cases) → HoldIn version night path cases → HoldIn version night (path ++ b ∷ []) cases
hold_longer Prices night path b cases prices stacks hold = prices hold
hold_longer Stacks night path b cases prices stacks hold = stacks hold
