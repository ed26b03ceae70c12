-- What a choice of a path tells of itself: all but its arriving train and its place there, which are those of the path's next unit.
use Rattle.std.specs.Prelude.{unwrap_or}
use Rattle.std.specs.Option.{IsSomeAnd}
use Rattle.std.proofs.Common.{◌≡◌, ℕ, ◌+◌, ◌<◌, List, Option, Some, None, refl, sym, ap, subst, ◌∙◌, arith}
use Rattle.shunt_instance.specs.declared.records.Unit.{Unit as TrainUnit}
use Rattle.shunt_instance.specs.defs.Words.{train_at, kind_at}
use Rattle.shunt_instance.specs.defs.Instance.{Night, unit_at, make_unit}
use Rattle.shunt_blocks.specs.declared.records.Shape.{Shape}
use Rattle.shunt_blocks.specs.declared.records.Block.{Block}
use Rattle.shunt_blocks.specs.defs.Shapes.{AreRunsWithin, unit_from}
use Rattle.shunt_choices.specs.defs.Paths.{Masks, masks_of, next_of}
use Rattle.shunt_choices.specs.defs.Choices.{Choice as PathChoice, IsChoice, IsChoiceAt}
use Rattle.shunt_proof.specs.declared.records.Choice.{Choice}
use Rattle.shunt_proof.specs.declared.records.NodeKind.{NodeKind}
use Rattle.shunt_proof.specs.declared.records.NodeKind.TheVariants.{Branch, Whole}
use Rattle.shunt_proof.specs.defs.Nodes.{FitsDepth}
use Rattle.shunt_proof.specs.defs.Trees.{choice_at, choice_from}
use Rattle.shunt_checker.specs.defs.Children.{said}

module _ (night : Night) (unit_law : (s : Shape) (k : ℕ) → AreRunsWithin night s → k < s.n
    → unit_at night (unit_from night s + k) ≡ make_unit s.arr.0 (s.p + k) (kind_at (train_at night.arrive s.arr.0) (s.p + k))) where
  first_is : (s : Shape) → AreRunsWithin night s → unit_at night (unit_from night s) ≡ make_unit s.arr.0 s.p (kind_at (train_at night.arrive s.arr.0) s.p)
  first_is s within =
      let from : unit_from night s + 0 ≡ unit_from night s = omega arith in
      let place : s.p + 0 ≡ s.p = omega arith in
      subst (λ (u : ℕ). unit_at night u ≡ make_unit s.arr.0 s.p (kind_at (train_at night.arrive s.arr.0) s.p)) from
      (subst (λ (p : ℕ). unit_at night (unit_from night s + 0) ≡ make_unit s.arr.0 p (kind_at (train_at night.arrive s.arr.0) p)) place
      (unit_law s 0 within (let n = within.n in omega (arith, n))))

  of_unit : (covered : Masks) (u : ℕ) (d : PathChoice) → IsChoice night covered u d → d ≡ choice_at (unit_at night u) (said d)
  of_unit covered u d is =
      let s = d.shape in
      let first : unit_at night u ≡ make_unit s.arr.0 s.p (kind_at (train_at night.arrive s.arr.0) s.p) = subst
      (λ (w : ℕ). unit_at night w ≡ make_unit s.arr.0 s.p (kind_at (train_at night.arrive s.arr.0) s.p)) is.shape.first (first_is s is.shape.shape.within) in
      sym (ap (λ (w : TrainUnit). choice_at w (said d)) first)

  of_next : (covered : Masks) (next : Option ℕ) (d : PathChoice) → IsSomeAnd next (λ u. IsChoice night covered u d) → d ≡ choice_at (unit_at night (unwrap_or next 0)) (said d)
  of_next covered None d never = absurd never
  of_next covered (Some u) d is = of_unit covered u d is

  pub choice_is : (path : List Block) (d : PathChoice) → IsChoiceAt night path d → d ≡ choice_from night path (said d)
  choice_is path d is = of_next (masks_of night path) (next_of (masks_of night path)) d is

-- the root alone has no choice
pub no_choice : (night : Night) (depth : ℕ) (o : Option Choice) → FitsDepth night depth o → depth ≡ 0 → o ≡ None
no_choice night depth None fits e = refl
no_choice night depth (Some c) fits e = absurd (let some = fits.0 in omega (arith, some, e))

pub not_whole : (kind : NodeKind) → kind ≡ Branch → kind ≡ Whole → ⊥
not_whole kind is other = let e : Branch ≡ Whole = sym is ∙ other in cc
