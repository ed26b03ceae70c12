-- The bound of a path doesn't fall.
use Rattle.std.specs.Prelude.{◌==◌, ◌||◌, nat_le, All, cond, is_none, ◌≤ℤ◌}
use Rattle.std.proofs.Common.{◌≡◌, inl, ℕ, ◌+◌, ◌<◌, ◌≤◌, Bool, true, false, List, [], ◌∷◌, ◌++◌, length, ℤ, refl, arith}
use Rattle.std.proofs.lemmas.Int.{ints}
use Rattle.std.proofs.lemmas.Bool.Decides.{nat_tests}
use Rattle.std.proofs.lemmas.List.Sums.{sum_by-append}
use Rattle.std.proofs.lemmas.List.Elements.{All-push}
use Rattle.shunt_lists.proofs.Members.{in_right}
use Rattle.shunt_base.specs.declared.duals.Case.{Case}
use Rattle.shunt_instance.specs.defs.Instance.{Night, IsInstance, unit_total, position_total}
use Rattle.shunt_blocks.specs.declared.records.Block.{Block}
use Rattle.shunt_blocks.specs.defs.Shapes.{shape_of, IsWithinTrains}
use Rattle.shunt_blocks.specs.defs.Lists.{times_unit, times_position, ShareNothing, RunsThrough, placed}
use Rattle.shunt_choices.specs.defs.Paths.{masks_of}
use Rattle.shunt_choices.proofs.Given.{PlaceLaws}
use Rattle.shunt_choices.proofs.Trails.{not_taken}
use Rattle.shunt_choices.proofs.Grown.{grown_apart}
use Rattle.shunt_prices.specs.defs.Limits.{case_at, from_of}
use Rattle.shunt_prices.specs.defs.Cases.{IsFreeBlock, HasRoom, CasesHold}
use Rattle.shunt_prices.specs.defs.Bounds.{case_sum, unparked_in, IsOpenAt, IsCasesBound}
use Rattle.shunt_prices.proofs.Signed.{round_up, bound_rises}
use Rattle.shunt_prices.proofs.Capacity.{RunLaws}
use Rattle.shunt_prices.proofs.Longer.{sum_rises}
use Rattle.shunt_prices.proofs.Room.{StayLaw, placed_room}
use Rattle.shunt_blocks.proofs.Shapes.{is_within}

-- ---- open cases

still_open : (last : Bool) (few more to : ℕ) → few ≤ more → (last || nat_le more to) ≡ true → (last || nat_le few to) ≡ true
still_open true few more to le e = refl
still_open false few more to le e = grind (arith, nat_tests)

pub was_open : (cases : List Case) (path : List Block) (b : Block) (k : ℕ) → IsOpenAt cases (path ++ b ∷ []) k → IsOpenAt cases path k
was_open cases path b k h = record {
  there = h.there;
  opens = still_open (k + 1 == length cases) (unparked_in path) (unparked_in (path ++ b ∷ [])) (case_at cases k).to
      (omega (arith, sum_by-append (λ (c : Block). cond (is_none c.park) 1 0) path (b ∷ []))) h.opens;
}

pub one_bound : (night : Night) (path : List Block) (cases : List Case) (x y : ℤ) → IsCasesBound night path cases x → IsCasesBound night path cases y → x ≡ y
one_bound night path cases x y h k = omega (arith, ints, h.least k.number y k.opens k.is, k.least h.number x h.opens h.is)

-- ---- one block more

module _ (laws : RunLaws) (places : PlaceLaws) (to : StayLaw) (night : Night) (i : IsInstance night) where
  module _ (path : List Block) (b : Block) (within : All (IsWithinTrains night) path) (apart : ShareNothing night path)
      (free : IsFreeBlock night (masks_of night path) (shape_of b) b.park) (go : RunsThrough night (placed (path ++ b ∷ []))) where
    longer_within : All (IsWithinTrains night) (path ++ b ∷ [])
    longer_within = All-push (IsWithinTrains night) path b within (is_within night b (record { shape = free.shape.shape; option = free.option }))

    longer_apart : ShareNothing night (path ++ b ∷ [])
    longer_apart = grown_apart night path b apart (record {
      units = λ w has. not_taken (times_unit night path) (unit_total night) w true (places.unit_in night (shape_of b) w free.shape.shape.within has) (free.shape.units w has);
      positions = λ v has. not_taken (times_position night path) (position_total night) v true (places.position_in night (shape_of b) v free.shape.shape.within has)
          (free.shape.positions v has);
    })

    room : HasRoom night (shape_of b) b.park
    room = placed_room laws to night i (path ++ b ∷ []) b longer_within longer_apart go (in_right path (b ∷ []) b (inl refl)) (laws.in_time night (shape_of b) free.shape.shape)

    pub sums_rise : (cases : List Case) (k : ℕ) → CasesHold night path cases → k < length cases → case_sum night path cases k ≤ℤ case_sum night (path ++ b ∷ []) cases k
    sums_rise cases k hold lt = sum_rises places night path b free (from_of cases k) (case_at cases k) room (hold k _ lt)

    pub bounds_rise : (cases : List Case) (x y : ℤ) → CasesHold night path cases → IsCasesBound night path cases x → IsCasesBound night (path ++ b ∷ []) cases y → x ≤ℤ y
    bounds_rise cases x y hold now then =
        let opens = was_open cases path b then.number then.opens in
        let own = round_up (case_sum night path cases then.number) in
        omega (arith, ints, now.least then.number own.0 opens own.1, bound_rises _ _ own.0 y (sums_rise cases then.number hold then.opens.there) own.1 then.is)
