-- What a feasible plan that keeps a list of blocks has at their next unit.
use Rattle.std.specs.Prelude.{All, Some}
use Rattle.std.proofs.Common.{◌≡◌, ⊎_elim, ℕ, ◌+◌, true, List, length, get_or, refl, sym, ap, subst, ◌∙◌, arith}
use Rattle.std.proofs.lemmas.Bool.{cases_lt}
use Rattle.std.proofs.lemmas.Bool.Decides.{nat_tests}
use Rattle.std.proofs.lemmas.List.Elements.{All-push}
use Rattle.shunt_lists.specs.defs.Members.{In}
use Rattle.shunt_instance.specs.defs.Instance.{Night, IsInstance}
use Rattle.shunt_blocks.specs.declared.records.Block.{Block}
use Rattle.shunt_blocks.specs.defs.Shapes.{shape_of, begins_at, AreRunsWithin, IsOnTrack, IsWithinTrains}
use Rattle.shunt_blocks.specs.defs.Blocks.{IsBlockButId}
use Rattle.shunt_blocks.specs.defs.Lists.{has_unit, has_position, times_unit, times_position, ShareNothing, RunsThrough, IsFeasible, placed}
use Rattle.shunt_blocks.specs.defs.Pins.{IsKept, Keeps}
use Rattle.shunt_blocks.proofs.Held.{held, holder, one_holder}
use Rattle.shunt_choices.proofs.Given.{BlockLaws}
use Rattle.shunt_choices.specs.defs.Paths.{masks_of, next_of}
use Rattle.shunt_choices.specs.defs.Choices.{Choice, IsChoice, IsChoiceAt, chosen, longer_by}
use Rattle.shunt_choices.proofs.Grown.{IsNext, next_is, IsFreeBlock, grown_apart, choice_of, free_choice}
use Rattle.shunt_choices.proofs.Partial.{choice_there}
use Rattle.shunt_lists.proofs.Members.{each_one}
use Rattle.shunt_blocks.proofs.Shapes.{all_within, has_from, has_position_from, begins_itself, but_ids}

-- a kept block is within the trains
kept_within : (night : Night) (plan : List Block) (b : Block) → All (IsWithinTrains night) plan → IsKept plan b → IsWithinTrains night b
kept_within night plan b within k =
    let w = each_one (IsWithinTrains night) plan k.block within k.there in
    record { runs = subst (AreRunsWithin night) (ap shape_of k.same) w.runs; track = subst (IsOnTrack night.station) (ap (λ (x : Block). x.park) k.same) w.track }

-- the plan's block that has the next unit
record IsThere (night : Night) (plan path : List Block) (u : ℕ) (b : Block) : Type 0 where
  there : In b plan
  has : has_unit night (shape_of b) u ≡ true
  fits : IsBlockButId night b
  begins : begins_at night b ≡ u
  free : IsFreeBlock night path b

found : (laws : BlockLaws) (night : Night) (plan path : List Block) (u : ℕ) → IsFeasible night plan → Keeps plan path → IsNext night path u
    → (b : Block) × IsThere night plan path u b
found laws night plan path u h keeps next = (b, record { there = of.1; has = of.2; fits = fits; begins = begins; free = free })
  where
    of : (x : Block) × In x plan × (has_unit night (shape_of x) u ≡ true)
    of = holder (λ x. has_unit night (shape_of x) u) plan (omega (arith, h.covers.units u next.there))

    b : Block
    b = of.0

    fits : IsBlockButId night b
    fits = each_one (IsBlockButId night) plan b (but_ids night plan h.each) of.1

    -- a block of the path isn't this one
    another : (p : Block) → In p path → (k : IsKept plan p) → k.block ≡ b → ⊥
    another p there k same =
        let has : has_unit night (shape_of p) u ≡ true = subst (λ s. has_unit night s u ≡ true) (sym (ap shape_of same) ∙ ap shape_of k.same) of.2 in
        omega (arith, next.free, held (λ x. has_unit night (shape_of x) u) path p there has)

    no_unit : (w : ℕ) → has_unit night (shape_of b) w ≡ true → times_unit night path w ≡ 0
    no_unit w has = ⊎_elim
        (λ none. omega (arith, none))
        (λ some.
        let other = holder (λ x. has_unit night (shape_of x) w) path some in
        let k = each_one (IsKept plan) path other.0 keeps other.1 in
        let has_too : has_unit night (shape_of k.block) w ≡ true = subst (λ s. has_unit night s w ≡ true) (sym (ap shape_of k.same)) other.2 in
        let lt = laws.places.unit_in night (shape_of b) w fits.shape.within (has_from night b w has) in
        absurd (another other.0 other.1 k (one_holder (λ x. has_unit night (shape_of x) w) plan k.block b (omega (arith, h.covers.units w lt)) k.there of.1 has_too has)))
        (cases_lt (times_unit night path w) 1)

    no_position : (v : ℕ) → has_position night (shape_of b) v ≡ true → times_position night path v ≡ 0
    no_position v has = ⊎_elim
        (λ none. omega (arith, none))
        (λ some.
        let other = holder (λ x. has_position night (shape_of x) v) path some in
        let k = each_one (IsKept plan) path other.0 keeps other.1 in
        let has_too : has_position night (shape_of k.block) v ≡ true = subst (λ s. has_position night s v ≡ true) (sym (ap shape_of k.same)) other.2 in
        let lt = laws.places.position_in night (shape_of b) v fits.shape.within (has_position_from night b v has) in
        absurd (another other.0 other.1 k (one_holder (λ x. has_position night (shape_of x) v) plan k.block b (omega (arith, h.covers.positions v lt)) k.there of.1 has_too has)))
        (cases_lt (times_position night path v) 1)

    begins : begins_at night b ≡ u
    begins = ⊎_elim
        (λ less. absurd (omega (arith, next.before (begins_at night b) less, no_unit (begins_at night b) (begins_itself night b fits.shape.within.n))))
        (λ ge. omega (arith, ge, (has_from night b u of.2).from))
        (cases_lt (begins_at night b) u)

    free : IsFreeBlock night path b
    free = record {
      units = λ w has. no_unit w (grind (arith, nat_tests, has.from, has.to));
      positions = λ v has. no_position v (grind (arith, nat_tests, has.from, has.to));
    }

-- a choice that the plan holds too
pub record IsHeldChoice (night : Night) (plan path : List Block) (c : Choice) : Type 0 where
  pub choice : IsChoiceAt night path c
  pub keeps : Keeps plan (longer_by path c)
  pub through : RunsThrough night (placed (longer_by path c))

pub held_choice : (laws : BlockLaws) (night : Night) (plan path : List Block) (u : ℕ) → IsInstance night → IsFeasible night plan → ShareNothing night path → Keeps plan path
    → next_of (masks_of night path) ≡ Some u
    → (c : Choice) × IsHeldChoice night plan path c
held_choice laws night plan path u is h apart keeps e =
    let next = next_is night path u e in
    let x = found laws night plan path u h keeps next in
    let b = x.0 in
    let at = x.1 in
    let c = choice_of b in
    let last = chosen (length path + 1) c in
    let plan_within = all_within night plan (but_ids night plan h.each) in
    let longer = All-push (IsKept plan) path last keeps (record { block = b; there = at.there; same = refl }) in (
      c,
      record {
        choice = choice_there night path c u e (subst (λ w. IsChoice night (masks_of night path) w c) at.begins (free_choice laws.places night path b at.fits at.free));
        keeps = longer;
        through = laws.part night plan (longer_by path c) is plan_within (laws.feasible_apart night plan h)
            (λ k d lt. kept_within night plan (get_or (longer_by path c) k d) plan_within (longer k d lt))
            (grown_apart night path last apart (record { units = at.free.units; positions = at.free.positions }))
            (λ p there. let k = each_one (IsKept plan) (longer_by path c) p longer there in (k.block, k.there, k.same))
            (laws.feasible_placed night plan is h).through;
      },
    )
