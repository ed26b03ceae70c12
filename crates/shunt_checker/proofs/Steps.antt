-- Paths with one block more.
use Rattle.std.specs.Prelude.{IfOk, IfNone, All, take, Option, Some, None, Result, Ok, Err}
use Rattle.std.specs.Option.{IsSomeAnd}
use Rattle.std.proofs.Common.{◌≡◌, inl, ℕ, ℤ, ◌+◌, ◌<◌, ◌≤◌, List, [], ◌∷◌, ◌++◌, length, refl, sym, ap, subst, ◌∙◌, arith}
use Rattle.std.proofs.lemmas.List.{length-append}
use Rattle.std.proofs.lemmas.List.Elements.{All-append, All-cons, All-nil, All-take, recursion_from_All}
use Rattle.std.proofs.Math.Seq.{take-append_seam}
use Rattle.shunt_lists.specs.defs.Members.{In}
use Rattle.shunt_lists.proofs.Members.{all_in, in_left, in_right}
use Rattle.shunt_base.specs.declared.duals.Case.{Case}
use Rattle.shunt_instance.specs.defs.Instance.{Night}
use Rattle.shunt_blocks.specs.declared.records.Block.{Block}
use Rattle.shunt_blocks.specs.defs.Shapes.{begins_at, shape_of, IsInRange, IsWithinTrains}
use Rattle.shunt_blocks.specs.defs.Blocks.{IsBlockButId}
use Rattle.shunt_blocks.specs.defs.Lists.{ShareNothing, RunsThrough, placed}
use Rattle.shunt_blocks.specs.defs.Pins.{without_id}
use Rattle.shunt_choices.specs.defs.Paths.{Masks, Trail, IsTrailOf, IsPartialPlan, masks_of, next_of}
use Rattle.shunt_choices.specs.defs.Choices.{Choice as PathChoice, IsChoice, IsChoiceAt, IsFreeShape, longer_by, chosen}
use Rattle.shunt_choices.proofs.AtPaths.{for_next}
use Rattle.shunt_prices.specs.defs.Cases.{IsFreeBlock}
use Rattle.shunt_stacks.specs.defs.Bounds.{IsChoiceBound}
use Rattle.shunt_proof.specs.declared.records.Version.TheVariants.{Stacks}
use Rattle.shunt_proof.specs.defs.Versions.{IsStepBoundIn}
use Rattle.shunt_checker.specs.declared.verdict.Reason.{Reason}
use Rattle.shunt_checker.specs.defs.Tallies.{IsOneMore}
use Rattle.shunt_checker.proofs.Versioned.{free_at}

-- what holds of each value holds of an answer
pub ok_always : {T E : Type 0} (r : Result T E) (P : T → Type 0) → ((t : T) → P t) → IfOk r P
ok_always (Ok t) P h = h t
ok_always (Err e) P h = tt

-- where there is no reason
pub had : (r : Option Reason) (P : Type 0) → r ≡ None → IfNone r P → P
had r P e h = subst (λ (o : Option Reason). IfNone o P) e h

pub longer_than : (old new : List Block) (d : PathChoice) (pins after : ℕ) → new ≡ longer_by old d → after ≡ pins → pins ≤ length old → after < length new
longer_than old new d pins after e same few =
    let len : length new ≡ length (longer_by old d) = ap length e in
    let more : length (longer_by old d) ≡ length old + 1 = length-append old (chosen (length old + 1) d ∷ []) in
    omega (arith, len, more, same, few)

-- the block of a choice is free
pub choice_free : (night : Night) (covered : Masks) (u : ℕ) (d : PathChoice) → IsChoice night covered u d → IsFreeBlock night covered d.shape d.option
choice_free night covered u d is = record { shape = subst (λ (w : ℕ). IsFreeShape night covered w d.shape) (sym is.shape.first) is.shape; option = is.option }

-- and a block of the night
block_of : (night : Night) (covered : Masks) (id : ℕ) (next : Option ℕ) (d : PathChoice) → IsSomeAnd next (λ u. IsChoice night covered u d) → IsBlockButId night (chosen id d)
block_of night covered id None d never = absurd never
block_of night covered id (Some u) d is = record { shape = is.shape.shape; option = is.option }

-- a path of blocks has only such with one choice more
pub longer_each : (night : Night) (path : List Block) (d : PathChoice) → IsChoiceAt night path d → All (IsBlockButId night) path → All (IsBlockButId night) (longer_by path d)
longer_each night path d there each =
    All-append (IsBlockButId night) path (chosen (length path + 1) d ∷ []) each
    (All-cons (IsBlockButId night) (chosen (length path + 1) d) [] (block_of night (masks_of night path) (length path + 1) (next_of (masks_of night path)) d there)
    (All-nil (IsBlockButId night)))

-- ---- the last block

drop_last : List Block → List Block
drop_last [] = []
drop_last (x ∷ []) = []
drop_last (x ∷ (y ∷ ys)) = x ∷ drop_last (y ∷ ys)

last_or : Block → List Block → Block
last_or d [] = d
last_or d (x ∷ []) = x
last_or d (x ∷ (y ∷ ys)) = last_or d (y ∷ ys)

drop_push : (xs : List Block) (x : Block) → drop_last (xs ++ x ∷ []) ≡ xs
unfolding drop_last
drop_push [] x = refl
drop_push (y ∷ []) x = refl
drop_push (y ∷ (z ∷ zs)) x = ap (λ (ws : List Block). y ∷ ws) (drop_push (z ∷ zs) x)

last_push : (d : Block) (xs : List Block) (x : Block) → last_or d (xs ++ x ∷ []) ≡ x
unfolding last_or
last_push d [] x = refl
last_push d (y ∷ []) x = refl
last_push d (y ∷ (z ∷ zs)) x = last_push d (z ∷ zs) x

pub same_front : (xs ys : List Block) (x y : Block) → xs ++ x ∷ [] ≡ ys ++ y ∷ [] → xs ≡ ys
same_front xs ys x y e = sym (drop_push xs x) ∙ (ap drop_last e ∙ drop_push ys y)

pub same_last : (xs ys : List Block) (x y : Block) → xs ++ x ∷ [] ≡ ys ++ y ∷ [] → x ≡ y
same_last xs ys x y e = sym (last_push x xs x) ∙ (ap (last_or x) e ∙ last_push x ys y)

-- ---- a path without its last block

-- what holds of all holds of the last
of_last : (P : Block → Type 0) (whole front : List Block) (b : Block) → whole ≡ front ++ b ∷ [] → All P whole → P b
of_last P whole front b e all = all_in P whole b (recursion_from_All P whole all) (subst (In b) (sym e) (in_right front (b ∷ []) b (inl refl)))

-- and of those before it
of_front : (P : Block → Type 0) (whole front : List Block) (b : Block) → whole ≡ front ++ b ∷ [] → All P whole → All P front
of_front P whole front b e all = subst (All P) (ap (take (length front)) e ∙ take-append_seam front (b ∷ [])) (All-take P (length front) whole all)

-- what the law on parts of runs says of one night
abbrev pub PartLaw : Night → Type 0
PartLaw night = (blocks others : List Block) → All (IsWithinTrains night) blocks → ShareNothing night blocks → All (IsWithinTrains night) others → ShareNothing night others
    → ((c : Block) → In c others → (b : Block) × In b blocks × (without_id b ≡ without_id c)) → RunsThrough night (placed blocks) → RunsThrough night (placed others)

pub within_all : (night : Night) (blocks : List Block) → All (IsInRange night) blocks → All (IsWithinTrains night) blocks
within_all night blocks all k d lt = (all k d lt).within

module _ (night : Night) (old new : Trail) (b : Block) (e : old.blocks ≡ new.blocks ++ b ∷ []) (of_old : IsTrailOf night old) (of_new : IsTrailOf night new)
    (more : (front : List Block) × IsOneMore night front old.blocks) where
  front_is : more.0 ≡ new.blocks
  front_is = same_front more.0 new.blocks (chosen (length more.0 + 1) more.1.choice) b (sym more.1.is ∙ e)

  block_is : chosen (length more.0 + 1) more.1.choice ≡ b
  block_is = same_last more.0 new.blocks (chosen (length more.0 + 1) more.1.choice) b (sym more.1.is ∙ e)

  pub front_runs : PartLaw night → RunsThrough night (placed new.blocks)
  front_runs law = law old.blocks new.blocks (within_all night old.blocks of_old.each) of_old.apart (within_all night new.blocks of_new.each) of_new.apart
      (λ c i. (c, subst (In c) (sym e) (in_left new.blocks (b ∷ []) c i), refl)) more.1.through

  pub front_each : All (IsBlockButId night) new.blocks
  front_each = of_front (IsBlockButId night) old.blocks new.blocks b e more.1.each

  pub last_in : IsInRange night b
  last_in = of_last (IsInRange night) old.blocks new.blocks b e of_old.each

  pub last_free : IsFreeBlock night new.covered (shape_of b) b.park
  last_free = subst (λ (m : Masks). IsFreeBlock night m (shape_of b) b.park) (sym of_new.covered)
      (subst (λ (f : List Block). IsFreeBlock night (masks_of night f) (shape_of b) b.park) front_is
      (subst (λ (x : Block). IsFreeBlock night (masks_of night more.0) (shape_of x) x.park) block_is (free_at night more.0 more.1.choice more.1.there)))

  pub last_next : next_of new.covered ≡ Some (begins_at night b)
  last_next = subst (λ (m : Masks). next_of m ≡ Some (begins_at night b)) (sym of_new.covered)
      (subst (λ (f : List Block). next_of (masks_of night f) ≡ Some (begins_at night b)) front_is
      (subst (λ (x : Block). next_of (masks_of night more.0) ≡ Some (begins_at night x)) block_is
      (for_next night more.0 (next_of (masks_of night more.0)) more.1.choice more.1.there).0))

  pub whole_runs : RunsThrough night (placed (new.blocks ++ b ∷ []))
  whole_runs = subst (λ (bs : List Block). RunsThrough night (placed bs)) e more.1.through

  pub bound_of_last : (cases : List Case) (bound : ℤ) → IsChoiceBound night new.blocks b cases bound → (front : List Block) (x : Block) → old.blocks ≡ front ++ x ∷ []
      → IsStepBoundIn Stacks night front old.blocks cases bound
  bound_of_last cases bound is front x at =
      subst (λ (f : List Block). IsStepBoundIn Stacks night f old.blocks cases bound) (same_front new.blocks front b x (sym e ∙ at)) (b, e, is)

-- ---- the root

pub runs_from : {night : Night} {pins path : List Block} → IsPartialPlan night pins path → RunsThrough night (placed path)
runs_from h = h.through

pub each_from : {night : Night} {pins path : List Block} → IsPartialPlan night pins path → All (IsBlockButId night) path
each_from h = h.each
